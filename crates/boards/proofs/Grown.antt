-- One code more in the tree: it is followed as far as the codes before it go, its labels are put, and it branches off there. Assumes nothing.
use mathlib.Core.Path.{◌≡◌, refl, sym, ap, ◌∙◌}
use mathlib.Core.Bool.{Bool, true, false, ◌&&◌, and-false, or-true, or-false}
use mathlib.Core.List.{List, [], ◌∷◌, ◌++◌}
use mathlib.Core.Logic.{◌≢◌}
use Prim.Native.Nat.{ℕ, suc, ◌+◌, ◌≤◌, ◌<◌}
use native.Mathlib.Omega.{arith}
use lib.Dec.{ltb, eqb}
use lib.ListN.{length, get_or, set, take, length-set, length-append}
use lib.Seq.{take-suc, take_all, take-take, length-take-le, get_or-set_same, get_or-set_other}
use borrow.Author.Tests.{eqb-true, eq-eqb, ne_eqb, ltb-true, lt-ltb}
use Rattle.words.specs.Words.{byte}
use Rattle.words.proofs.Tests.{by_test, by_le, by_eq, never_both, and_left, and_right}
use Rattle.words.proofs.Lists.{length_snoc}
use Rattle.bits.specs.Bits.{holds, WithBit}
use Rattle.bits.proofs.Bits.{holds_zero}
use Rattle.starts.specs.Starts.{code, is_start, known, total, state}
use Rattle.starts.proofs.States.{start_is, start_test, start_fits, is_start_take, start_inside, start_front, start_byte, start_longer}
use Rattle.starts.proofs.States.{known_at, known_first, known_front, known_more, known_kept, state_within, state_one, state_kept, state_new, total_more}
use Rattle.boards.specs.declared.tree.Tree.{Tree as TreeLists}
use Rattle.boards.specs.Tables.{Tree, branches_off, Went}

-- SHORTER: what a known start begins with is known
pub known_shorter : (ws : List (List ℕ)) (v : List ℕ) (n : ℕ) → n ≤ length v → known ws v ≡ true → known ws (take n v) ≡ true
known_shorter ws v n h k =
    by_le 1 (length v)
    (λ (some : 1 ≤ length v).
    let f = known_first ws v k some in
    let w = code ws f.at in
    let at : length (take n v) ≡ n = length-take-le n v h in
    let same : take n w ≡ take n v = sym (take-take n (length v) w h) ∙ ap (take n) (start_is v w f.has) in
    known_at ws (take n v) f.at f.below (start_test (take n v) w (ap (λ (m : ℕ). take m w) at ∙ same)))
    (λ (none : length v < 1). rw (take_all n v (omega arith)) k)

-- A BIT MORE: ys is xs with bit j, which xs has nowhere, put at one place or none
pub record BitMore (xs ys : List ℕ) (at j : ℕ) (put : Bool) : Type 0 where
  pub old : (x q : ℕ) → q ≢ j → holds (get_or ys x 0) q ≡ holds (get_or xs x 0) q
  pub new : (x : ℕ) → holds (get_or ys x 0) j ≡ eqb x at && put
  pub rest : (x : ℕ) → x ≢ at → get_or ys x 0 ≡ get_or xs x 0
  pub long : length ys ≡ length xs

no_bit : (xs : List ℕ) (j : ℕ) → ((x q : ℕ) → holds (get_or xs x 0) q ≡ true → q < j) → (x : ℕ) → holds (get_or xs x 0) j ≡ false
no_bit xs j few x = by_test (holds (get_or xs x 0) j) (λ t. absurd (omega (arith, few x j t))) (λ t. t)

module _ (xs : List ℕ) (at j : ℕ) (few : (x q : ℕ) → holds (get_or xs x 0) q ≡ true → q < j) where
  pub bit_none : BitMore xs xs at j false
  bit_none =
      record { old = λ x q n. refl; new = λ x. no_bit xs j few x ∙ sym (and-false (eqb x at)); rest = λ x n. refl; long = refl }

  pub bit_put : (m : ℕ) → j < 64 → at < length xs → WithBit (get_or xs at 0) j m → BitMore xs (set xs at m) at j true
  bit_put m room inside w =
      record {
        old =
            λ (x q : ℕ) (n : q ≢ j).
            by_eq x at
            (λ (e : x ≡ at). rw (e, get_or-set_same xs at m 0 inside, w.each q, ne_eqb q j n, or-false) refl)
            (λ (d : x ≢ at). rw (get_or-set_other xs at x m 0 d) refl);
        new =
            λ (x : ℕ).
            by_eq x at
            (λ (e : x ≡ at).
            rw (e, get_or-set_same xs at m 0 inside, w.each j, no_bit xs j few at, eq-eqb j j refl, eq-eqb at at refl, lt-ltb j 64 room) refl)
            (λ (d : x ≢ at). rw (get_or-set_other xs at x m 0 d, no_bit xs j few x, ne_eqb x at d) refl);
        rest = λ x d. get_or-set_other xs at x m 0 d;
        long = length-set xs at m;
      }

-- ONE CODE MORE: what the lists then hold
pub record Grown (ws : List (List ℕ)) (w : List ℕ) (t t' : TreeLists) (g d : ℕ) : Type 0 where
  pub labels : (i : ℕ) → 1 ≤ i → i < length w → get_or t'.next (total ws + i) 0 ≡ byte w i
  pub before : (x : ℕ) → x ≤ total ws → get_or t'.next x 0 ≡ get_or t.next x 0
  pub behind : (x : ℕ) → total ws + length w ≤ x → get_or t'.next x 0 ≡ get_or t.next x 0
  pub next_long : length t'.next ≡ length t.next
  pub forks : BitMore t.forks t'.forks g (length ws) (ltb d (length w))
  pub keys : BitMore t.keys t'.keys (byte w d) (length ws) (ltb d (length w))
  pub head : d < length w → get_or t'.heads (length ws) 0 ≡ total ws + suc d
  pub heads : (q : ℕ) → q ≢ length ws → get_or t'.heads q 0 ≡ get_or t.heads q 0
  pub heads_long : length t'.heads ≡ length t.heads

module _ (ws : List (List ℕ)) (w : List ℕ) (t t' : TreeLists) (g d : ℕ) (is_tree : Tree ws t) (went : Went ws w g d) (grown : Grown ws w t t' g d)
    (few : total ws + length w ≤ 2000) (codes_few : length ws < 64) where
  abbrev more : List (List ℕ)
  more = ws ++ (w ∷ [])

  -- NEW starts are the longer ones of the new code; one byte more of such a one is new too
  new_start : (u : List ℕ) → known more u ≡ true → known ws u ≡ false → is_start u w ≡ true
  new_start u k n = rw (known_more ws w u, n) at k

  is_known : (u : List ℕ) → is_start u w ≡ true → known more u ≡ true
  is_known u is = rw (known_more ws w u, is) (or-true (known ws u))

  new_long : (u : List ℕ) → is_start u w ≡ true → known ws u ≡ false → d < length u
  new_long u is n =
      by_le (length u) d
      (λ (h : length u ≤ d).
      let same : take (length u) (take d w) ≡ u = take-take (length u) d w h ∙ start_is u w is in
      let fits : length u ≤ length (take d w) = omega (arith, length-take-le d w went.within) in
      absurd (never_both (rw same at (known_shorter ws (take d w) (length u) fits went.known_is)) n))
      (λ (h : d < length u). h)

  old_short : (u : List ℕ) → is_start u w ≡ true → known ws u ≡ true → length u ≤ d
  old_short u is k =
      by_le (length u) d
      (λ (h : length u ≤ d). h)
      (λ (h : d < length u).
      let same : take (suc d) u ≡ take (suc d) w = ap (take (suc d)) (sym (start_is u w is)) ∙ take-take (suc d) (length u) w h in
      absurd (never_both (rw same at (known_shorter ws u (suc d) h k)) (went.stops (omega (arith, start_fits u w is)))))

  still_new : (u : List ℕ) (c : ℕ) → known ws u ≡ false → known ws (u ++ (c ∷ [])) ≡ false
  still_new u c n = by_test (known ws (u ++ (c ∷ []))) (λ k. absurd (never_both (known_front ws u c k) n)) (λ k. k)

  kept : (u : List ℕ) (x : ℕ) → (known ws u ≡ true) × (state ws u ≡ x) → (known more u ≡ true) × (state more u ≡ x)
  kept u x k = (known_kept ws (w ∷ []) u k.0, state_kept ws (w ∷ []) u k.0 ∙ k.1)

  -- THE BYTE BEHIND a start: an old one's as before, a new one's as in the code, and 256 at its end
  next_old : (u : List ℕ) → known ws u ≡ true → get_or t'.next (state more u) 0 ≡ get_or t.next (state ws u) 0
  next_old u o = rw (state_kept ws (w ∷ []) u o) (grown.before (state ws u) (state_within ws u o))

  module _ (u : List ℕ) (n : known ws u ≡ false) (is : is_start u w ≡ true) where
    next_new : length u < length w → get_or t'.next (state more u) 0 ≡ byte w (length u)
    next_new h = rw (state_new ws w u n is) (grown.labels (length u) (omega (arith, new_long u is n)) h)

    next_end : length w ≤ length u → get_or t'.next (state more u) 0 ≡ 256
    next_end h =
        let x : ℕ = total ws + length u in
        let inside : x < length t.next = omega (arith, is_tree.roomy.next_long, start_fits u w is) in
        rw (state_new ws w u n is) (grown.behind x (omega arith) ∙ (is_tree.blank x (omega (arith, new_long u is n))).0 inside)

    follows_new : (c : ℕ) → c < 256 → get_or t'.next (state more u) 0 ≡ c →
        (known more (u ++ (c ∷ [])) ≡ true) × (state more (u ++ (c ∷ [])) ≡ suc (state more u))
    follows_new c h e =
        by_le (length w) (length u)
        (λ (all : length w ≤ length u). absurd (omega (arith, e, next_end all)))
        (λ (inner : length u < length w).
        let longer : is_start (u ++ (c ∷ [])) w ≡ true = start_longer u w c is inner (sym (next_new inner) ∙ e) in
        let to : state more (u ++ (c ∷ [])) ≡ suc (state more u) =
        omega (arith, state_new ws w u n is, state_new ws w (u ++ (c ∷ [])) (still_new u c n) longer, length_snoc u c) in
        (is_known (u ++ (c ∷ [])) longer, to))

  follows_more : (u : List ℕ) (c : ℕ) → known more u ≡ true → c < 256 → get_or t'.next (state more u) 0 ≡ c →
      (known more (u ++ (c ∷ [])) ≡ true) × (state more (u ++ (c ∷ [])) ≡ suc (state more u))
  follows_more u c k h e =
      by_test (known ws u)
      (λ o. rw (state_kept ws (w ∷ []) u o) (kept (u ++ (c ∷ [])) (suc (state ws u)) (is_tree.follows u c o h (sym (next_old u o) ∙ e))))
      (λ n. follows_new u n (new_start u k n) c h e)

  -- WHERE CODES BRANCH OFF: the new one at g by its own byte, the others as before, and none at a new start
  off_new : (x c : ℕ) → branches_off t' x c (length ws) ≡ true → (x ≡ g) × (c ≡ byte w d) × (d < length w)
  unfolding branches_off
  off_new x c b =
      let l : Bool = ltb d (length w) in
      let f : eqb x g && l ≡ true = sym (grown.forks.new x) ∙ and_left (holds (get_or t'.forks x 0) (length ws)) _ b in
      let k : eqb c (byte w d) && l ≡ true = sym (grown.keys.new c) ∙ and_right (holds (get_or t'.forks x 0) (length ws)) _ b in (
        eqb-true x g (and_left (eqb x g) l f),
        eqb-true c (byte w d) (and_left (eqb c (byte w d)) l k),
        ltb-true d (length w) (and_right (eqb x g) l f),
      )

  off_is : d < length w → branches_off t' g (byte w d) (length ws) ≡ true
  unfolding branches_off
  off_is h = rw (grown.forks.new g, grown.keys.new (byte w d), eq-eqb g g refl, eq-eqb (byte w d) (byte w d) refl, lt-ltb d (length w) h) refl

  off_old : (x c q : ℕ) → q ≢ length ws → branches_off t' x c q ≡ branches_off t x c q
  unfolding branches_off
  off_old x c q n = rw (grown.forks.old x q n, grown.keys.old c q n) refl

  off_before : (x c : ℕ) → branches_off t x c (length ws) ≡ false
  unfolding branches_off
  off_before x c = rw (no_bit t.forks (length ws) is_tree.numbers x) refl

  state_low : g ≤ total ws
  state_low = omega (arith, went.state_is, state_within ws (take d w) went.known_is)

  forks_blank : (x : ℕ) → total ws < x → get_or t'.forks x 0 ≡ 0
  forks_blank x h = grown.forks.rest x (λ e. absurd (omega (arith, e, state_low))) ∙ (is_tree.blank x h).1

  off_none : (u : List ℕ) (c q : ℕ) → known ws u ≡ false → is_start u w ≡ true → branches_off t' (state more u) c q ≡ false
  unfolding branches_off
  off_none u c q n is = rw (forks_blank (state more u) (omega (arith, state_new ws w u n is, new_long u is n)), holds_zero q) refl

  branch_new : (c : ℕ) → c ≡ byte w d → d < length w →
      (known more (take d w ++ (c ∷ [])) ≡ true) × (state more (take d w ++ (c ∷ [])) ≡ get_or t'.heads (length ws) 0)
  unfolding byte
  branch_new c e h =
      let is = is_start_take (suc d) w h in
      let longer : take (suc d) w ≡ take d w ++ (c ∷ []) = take-suc w d 0 h ∙ ap (λ (b : ℕ). take d w ++ (b ∷ [])) (sym e) in
      let to : state more (take (suc d) w) ≡ get_or t'.heads (length ws) 0 =
      omega (arith, state_new ws w (take (suc d) w) (went.stops h) is, length-take-le (suc d) w h, grown.head h) in
      (rw longer at (is_known (take (suc d) w) is), rw longer at to)

  branches_old : (u : List ℕ) (c q : ℕ) → known ws u ≡ true → branches_off t' (state ws u) c q ≡ true →
      (known more (u ++ (c ∷ [])) ≡ true) × (state more (u ++ (c ∷ [])) ≡ get_or t'.heads q 0)
  branches_old u c q o b =
      by_eq q (length ws)
      (λ (e : q ≡ length ws).
      let f = off_new (state ws u) c (rw e at b) in
      let same : take d w ≡ u = state_one ws (take d w) u went.known_is o (sym went.state_is ∙ sym f.0) in
      rw (e, ← same) (branch_new c f.1 f.2))
      (λ (n : q ≢ length ws).
      let f = is_tree.branches u c q o (sym (off_old (state ws u) c q n) ∙ b) in
      rw (grown.heads q n) (kept (u ++ (c ∷ [])) (get_or t.heads q 0) f))

  branches_more : (u : List ℕ) (c q : ℕ) → known more u ≡ true → branches_off t' (state more u) c q ≡ true →
      (known more (u ++ (c ∷ [])) ≡ true) × (state more (u ++ (c ∷ [])) ≡ get_or t'.heads q 0)
  branches_more u c q k b =
      by_test (known ws u)
      (λ o. branches_old u c q o (rw (state_kept ws (w ∷ []) u o) at b))
      (λ n. absurd (never_both b (off_none u c q n (new_start u k n))))

  -- NO OTHER: behind an old start that would be the new code where it branches off, behind a new one the code's next byte
  module _ (u : List ℕ) (c : ℕ) (not-next : get_or t'.next (state more u) 0 ≢ c) (not-off : (q : ℕ) → branches_off t' (state more u) c q ≡ false)
      (k : known more (u ++ (c ∷ [])) ≡ true) where
    unknown : known ws u ≡ true → known ws (u ++ (c ∷ [])) ≡ false
    unknown o =
        is_tree.no_other u c o (λ e. not-next (next_old u o ∙ e))
        (λ q.
        by_eq q (length ws)
        (λ e. rw e (off_before (state ws u) c))
        (λ n. sym (off_old (state ws u) c q n) ∙ rw (state_kept ws (w ∷ []) u o) at (not-off q)))

    other_old : known ws u ≡ true → ⊥
    other_old o =
        let is = new_start (u ++ (c ∷ [])) k (unknown o) in
        let front = start_front u w c is in
        let depth : length u ≡ d = omega (arith, old_short u front o, new_long (u ++ (c ∷ [])) is (unknown o), length_snoc u c) in
        let at : state ws u ≡ g = ap (state ws) (sym (start_is u w front) ∙ ap (λ (i : ℕ). take i w) depth) ∙ sym went.state_is in
        let by : byte w d ≡ c = ap (byte w) (sym depth) ∙ start_byte u w c is in
        never_both (rw (state_kept ws (w ∷ []) u o, at, ← by) (off_is (omega (arith, start_inside u w c is)))) (not-off (length ws))

    other_new : known ws u ≡ false → ⊥
    other_new n =
        let is = new_start (u ++ (c ∷ [])) k (still_new u c n) in
        not-next (next_new u n (start_front u w c is) (start_inside u w c is) ∙ start_byte u w c is)

  no_other_more : (u : List ℕ) (c : ℕ) → known more u ≡ true → get_or t'.next (state more u) 0 ≢ c →
      ((q : ℕ) → branches_off t' (state more u) c q ≡ false) → known more (u ++ (c ∷ [])) ≡ false
  no_other_more u c k n f =
      by_test (known more (u ++ (c ∷ [])))
      (λ m. absurd (by_test (known ws u) (other_old u c n f m) (other_new u c n f m)))
      (λ m. m)

  -- THE TREE of one code more
  codes_more : length more ≡ suc (length ws)
  codes_more = simp length-append (omega arith)

  bits_few : (xs ys : List ℕ) (at : ℕ) (put : Bool) → ((x q : ℕ) → holds (get_or xs x 0) q ≡ true → q < length ws) → BitMore xs ys at (length ws) put →
      (x q : ℕ) → holds (get_or ys x 0) q ≡ true → q < length more
  bits_few xs ys at put old bits x q h =
      by_eq q (length ws)
      (λ (e : q ≡ length ws). omega (arith, codes_more))
      (λ (n : q ≢ length ws). omega (arith, codes_more, old x q (sym (bits.old x q n) ∙ h)))

  pub tree_more : Tree (ws ++ (w ∷ [])) t'
  tree_more =
      let room = is_tree.roomy in
      record {
        follows = follows_more;
        branches = branches_more;
        no_other = no_other_more;
        numbers = bits_few t.forks t'.forks g (ltb d (length w)) is_tree.numbers grown.forks;
        keyed = bits_few t.keys t'.keys (byte w d) (ltb d (length w)) is_tree.keyed grown.keys;
        blank =
            λ x h.
            let above : total ws + length w < x = omega (arith, h, total_more ws w) in (
              λ i. grown.behind x (omega arith) ∙ (is_tree.blank x (omega arith)).0 (omega (arith, i, grown.next_long)),
              forks_blank x (omega arith),
            );
        roomy =
            record {
              next_long = omega (arith, room.next_long, grown.next_long);
              forks_long = omega (arith, room.forks_long, grown.forks.long);
              keys_long = omega (arith, room.keys_long, grown.keys.long);
              heads_long = omega (arith, room.heads_long, grown.heads_long);
            };
        few = omega (arith, total_more ws w);
        codes_few = omega (arith, codes_more);
      }
