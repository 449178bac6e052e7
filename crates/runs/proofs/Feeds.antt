-- What is fed: byte by byte, where it stops, its ending, and the loop that takes a piece. Assumes nothing.
use mathlib.Core.Path.{◌≡◌, refl, sym, ap, ◌∙◌}
use mathlib.Core.Bool.{Bool, true, false, ◌&&◌, cond, and-false}
use mathlib.Core.List.{List, [], ◌∷◌, ◌++◌, append-nil, append_assoc}
use Prim.Native.Nat.{ℕ, zero, suc, ◌+◌, ◌*◌, ◌-◌, ◌≤◌, ◌<◌}
use native.Mathlib.Nat.{add-zero, sub-zero}
use native.Mathlib.Numerals.{add-one}
use native.Mathlib.Omega.{arith}
use lib.Dec.{ltb}
use lib.ListN.{length, get_or, take, drop, length-append, drop_of_length-le}
use lib.Seq.{drop-cons}
use borrow.Author.Tests.{lt-ltb, le-ltb, ltb-true}
use Rattle.words.proofs.Tests.{by_le, and_left, and_right}
use Rattle.runs.specs.Reading.{Reader, Fed, fed, fed_more, feed, ending, ending_refusal, ending_full, PieceDone, ListFull}

-- SOME BYTES BEFORE what was fed
module _ {X A : Type 0} where
  pub more_none : (f : Fed X A) → fed_more 0 [] f ≡ f
  unfolding fed_more
  more_none f = let e : 0 + f.taken ≡ f.taken = omega arith in rw e refl

  pub more_more : (a b : ℕ) (ps qs : List A) (f : Fed X A) → fed_more a ps (fed_more b qs f) ≡ fed_more (a + b) (ps ++ qs) f
  unfolding fed_more
  more_more a b ps qs f =
      let e : a + (b + f.taken) ≡ a + b + f.taken = omega arith in
      rw (e, append_assoc ps qs f.told) refl

  more_end : (n : ℕ) (ps : List A) (x : X) → fed_more n ps (fed x 0 []) ≡ fed x n ps
  unfolding fed_more
  more_end n ps x = rw (add-zero n, append-nil ps) refl

module _ {X A : Type 0} (d : Reader X A) where
  -- A PIECE: only these three open it
  pub feed_end : (k : ℕ) (x : X) → feed d [] k x ≡ fed x 0 []
  unfolding feed
  feed_end k x = refl

  pub feed_stop : (cs : List ℕ) (k : ℕ) (x : X) → k < d.needs → feed d cs k x ≡ fed x 0 []
  unfolding feed
  feed_stop [] k x h = refl
  feed_stop (c ∷ cs) k x h = rw (lt-ltb k d.needs h) refl

  pub feed_on : (c : ℕ) (cs : List ℕ) (k : ℕ) (x : X) → d.needs ≤ k →
      feed d (c ∷ cs) k x ≡ fed_more 1 (d.tells c x) (feed d cs (k - length (d.tells c x)) (d.byte c x))
  unfolding feed
  feed_on c cs k x h = rw (le-ltb k d.needs h) refl

  -- a fact of what is fed: of nothing, whether the piece has ended or too few spots are free, and of a byte and what comes after it
  pub feed_cases : (P : (piece : List ℕ) → (room : ℕ) → X → Fed X A → Type 0) →
      ((k : ℕ) (x : X) → P [] k x (fed x 0 [])) →
      ((c : ℕ) (cs : List ℕ) (k : ℕ) (x : X) → k < d.needs → P (c ∷ cs) k x (fed x 0 [])) →
      ((c : ℕ) (cs : List ℕ) (k : ℕ) (x : X) (f : Fed X A) → d.needs ≤ k → P cs (k - length (d.tells c x)) (d.byte c x) f →
      P (c ∷ cs) k x (fed_more 1 (d.tells c x) f)) →
      (cs : List ℕ) (k : ℕ) (x : X) → P cs k x (feed d cs k x)
  feed_cases P end stop on [] k x = rw (feed_end k x) (end k x)
  feed_cases P end stop on (c ∷ cs) k x =
      by_le d.needs k
      (λ (h : d.needs ≤ k).
      let left : ℕ = k - length (d.tells c x) in
      rw (feed_on c cs k x h) (on c cs k x (feed d cs left (d.byte c x)) h (feed_cases P end stop on cs left (d.byte c x))))
      (λ (h : k < d.needs). rw (feed_stop (c ∷ cs) k x h) (stop c cs k x h))

  -- WHERE IT STOPS: within the piece, before its end only when too few spots are free, and not before its first byte where there are enough
  pub takes_within : (cs : List ℕ) (k : ℕ) (x : X) → (feed d cs k x).taken ≤ length cs
  unfolding fed_more
  takes_within =
      feed_cases (λ cs k x f. f.taken ≤ length cs) (λ k x. omega arith) (λ c cs k x h. omega arith) (λ c cs k x f h u. omega arith)

  pub stops_full : (cs : List ℕ) (k : ℕ) (x : X) → (feed d cs k x).taken < length cs → k - length (feed d cs k x).told < d.needs
  unfolding fed_more
  stops_full =
      feed_cases (λ cs k x f. f.taken < length cs → k - length f.told < d.needs) (λ k x l. absurd (omega arith)) (λ c cs k x h l. omega arith)
      (λ c cs k x f h u l. omega (arith, u (omega arith), length-append (d.tells c x) f.told))

  pub takes_some : (cs : List ℕ) (k : ℕ) (x : X) → 1 ≤ length cs → d.needs ≤ k → 1 ≤ (feed d cs k x).taken
  unfolding fed_more
  takes_some [] k x h r = absurd (omega arith)
  takes_some (c ∷ cs) k x h r = rw (feed_on c cs k x r) (omega arith)

  -- where a byte tells at most what is needed for it: no more than the list has spots; and where that is one, a spot for each byte takes the whole piece
  module _ (few : (c : ℕ) (x : X) → length (d.tells c x) ≤ d.needs) where
    pub told_room : (cs : List ℕ) (k : ℕ) (x : X) → length (feed d cs k x).told ≤ k
    unfolding fed_more
    told_room =
        feed_cases (λ cs k x f. length f.told ≤ k) (λ k x. omega arith) (λ c cs k x h. omega arith)
        (λ c cs k x f h u. omega (arith, few c x, length-append (d.tells c x) f.told))

    -- before each byte that is taken, enough spots are free behind what the bytes before it told
    pub spots_before : (cs : List ℕ) (k : ℕ) (x : X) (i : ℕ) → i < (feed d cs k x).taken → d.needs + length (feed d (take i cs) k x).told ≤ k
    unfolding fed_more
    spots_before =
        feed_cases (λ cs k x f. (i : ℕ) → i < f.taken → d.needs + length (feed d (take i cs) k x).told ≤ k) (λ k x i l. absurd (omega arith))
        (λ c cs k x h i l. absurd (omega arith)) on
      where
        on : (c : ℕ) (cs : List ℕ) (k : ℕ) (x : X) (f : Fed X A) → d.needs ≤ k →
            ((i : ℕ) → i < f.taken →
            d.needs + length (feed d (take i cs) (k - length (d.tells c x)) (d.byte c x)).told ≤ k - length (d.tells c x)) →
            (i : ℕ) → i < 1 + f.taken → d.needs + length (feed d (take i (c ∷ cs)) k x).told ≤ k
        on c cs k x f h u zero l = rw (feed_end k x) (omega arith)
        on c cs k x f h u (suc i) l =
            let told : List A = (feed d (take i cs) (k - length (d.tells c x)) (d.byte c x)).told in
            rw (feed_on c (take i cs) k x h) (omega (arith, u i (omega arith), few c x, length-append (d.tells c x) told))

    pub takes_whole : (cs : List ℕ) (k : ℕ) (x : X) → d.needs * length cs ≤ k → (feed d cs k x).taken ≡ length cs
    unfolding fed_more
    takes_whole =
        feed_cases (λ cs k x f. d.needs * length cs ≤ k → f.taken ≡ length cs) (λ k x l. refl) (λ c cs k x h l. absurd (omega (arith, split (length cs))))
        (λ c cs k x f h u l. omega (arith, u (omega (arith, few c x, split (length cs)))))
      where
        split : (n : ℕ) → d.needs * suc n ≡ d.needs + d.needs * n
        split n = omega arith

-- ITS ENDING, from where it stopped
module _ {X A : Type 0} (n : ℕ) (cs : List ℕ) (k : ℕ) (f : Fed X A) where
  pub ending_none : ending_refusal (ending n cs k f) ≡ 0
  unfolding ending
  ending_none = go (ltb (k - length f.told) n && ltb f.taken (length cs))
    where
      go : (t : Bool) → ending_refusal (cond t ListFull PieceDone) ≡ 0
      go true = refl
      go false = refl

  pub ending_list : k - length f.told < n → f.taken < length cs → ending n cs k f ≡ ListFull
  unfolding ending
  ending_list h l = rw (lt-ltb (k - length f.told) n h, lt-ltb f.taken (length cs) l) refl

  pub ending_done : length cs ≤ f.taken → ending n cs k f ≡ PieceDone
  unfolding ending
  ending_done l = rw (le-ltb f.taken (length cs) l, and-false (ltb (k - length f.told) n)) refl

  pub full_says : ending_full (ending n cs k f) ≡ 1 → (k - length f.told < n) × (f.taken < length cs)
  unfolding ending
  full_says = go (ltb (k - length f.told) n && ltb f.taken (length cs)) refl
    where
      go : (t : Bool) → (ltb (k - length f.told) n && ltb f.taken (length cs)) ≡ t → ending_full (cond t ListFull PieceDone) ≡ 1 →
          (k - length f.told < n) × (f.taken < length cs)
      go true t e = (
        ltb-true (k - length f.told) n (and_left (ltb (k - length f.told) n) (ltb f.taken (length cs)) t),
        ltb-true f.taken (length cs) (and_right (ltb (k - length f.told) n) (ltb f.taken (length cs)) t),
      )
      go false t e = absurd (omega arith)

-- not full: the whole piece was taken
pub done_says : {X A : Type 0} (d : Reader X A) (cs : List ℕ) (k : ℕ) (x : X) → ending_full (ending d.needs cs k (feed d cs k x)) ≡ 0 →
    (feed d cs k x).taken ≡ length cs
done_says d cs k x e =
    let f = feed d cs k x in
    by_le (length cs) f.taken
    (λ (h : length cs ≤ f.taken). omega (arith, takes_within d cs k x))
    (λ (h : f.taken < length cs). absurd (omega (arith, sym e ∙ ap ending_full (ending_list d.needs cs k f (stops_full d cs k x h) h))))

-- THE LOOP over a piece: i bytes are taken and something is told from x₀ on, and what is fed of the rest comes after it
pub record Taking {X A : Type 0} (d : Reader X A) (x₀ : X) (piece : List ℕ) (room : ℕ) (x : X) (i : ℕ) (told : List A) : Type 0 where
  pub within : i ≤ length piece
  pub so_far : feed d piece room x₀ ≡ fed_more i told (feed d (drop i piece) (room - length told) x)

pub taking_start : {X A : Type 0} (d : Reader X A) (x₀ : X) (piece : List ℕ) (room : ℕ) → Taking d x₀ piece room x₀ 0 []
taking_start d x₀ piece room = record { within = omega arith; so_far = rw (sub-zero room) (sym (more_none (feed d piece room x₀))) }

module _ {X A : Type 0} {d : Reader X A} {x₀ : X} {piece : List ℕ} {room : ℕ} {x : X} {i : ℕ} {told : List A} (t : Taking d x₀ piece room x i told) where
  -- some bytes more
  pub taking_more : (j : ℕ) (y : X) (ps : List A) → i ≤ j → j ≤ length piece →
      feed d (drop i piece) (room - length told) x ≡ fed_more (j - i) ps (feed d (drop j piece) (room - length told - length ps) y) →
      Taking d x₀ piece room y j (told ++ ps)
  taking_more j y ps h l e =
      let left : room - length told - length ps ≡ room - length (told ++ ps) = omega (arith, length-append told ps) in
      let sum : i + (j - i) ≡ j = omega arith in
      record {
        within = l;
        so_far =
            t.so_far ∙ ap (fed_more i told) e
            ∙ more_more i (j - i) told ps (feed d (drop j piece) (room - length told - length ps) y)
            ∙ rw (left, sum) refl;
      }

  -- one byte more
  pub taking_byte : i < length piece → d.needs ≤ room - length told →
      let c = get_or piece i 0 in Taking d x₀ piece room (d.byte c x) (i + 1) (told ++ d.tells c x)
  taking_byte h spare =
      let c : ℕ = get_or piece i 0 in
      let one : i + 1 - i ≡ 1 = omega arith in
      taking_more (i + 1) (d.byte c x) (d.tells c x) (omega arith) (omega arith)
      (rw (drop-cons piece i 0 h, one, add-one i) (feed_on d c (drop (suc i) piece) (room - length told) x spare))

  -- the end, with the piece or with the list
  pub taking_done : length piece ≤ i → feed d piece room x₀ ≡ fed x i told
  taking_done h =
      t.so_far ∙ rw (drop_of_length-le piece h, feed_end d (room - length told) x) (more_end i told x)

  pub taking_full : room - length told < d.needs → feed d piece room x₀ ≡ fed x i told
  taking_full h = t.so_far ∙ rw (feed_stop d (drop i piece) (room - length told) x h) (more_end i told x)
