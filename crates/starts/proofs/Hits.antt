-- The hits that end with a text: its longest start tells them, the longest code and then shorter ones give them one by one, there are no more than codes, and
-- those of a whole text stand in order. Assumes nothing.
use mathlib.Core.Path.{◌≡◌, refl, sym, ap, ◌∙◌}
use mathlib.Core.Bool.{Bool, true, false}
use mathlib.Core.Logic.{◌≢◌}
use mathlib.Core.List.{List, [], ◌∷◌, ◌++◌}
use Prim.Native.Nat.{ℕ, zero, suc, ◌+◌, ◌-◌, ◌≤◌, ◌<◌}
use native.Mathlib.Omega.{arith}
use lib.ListN.{length}
use borrow.Author.Tests.{lt-ltb, le-ltb, eq-eqb}
use Rattle.words.specs.Words.{suffix}
use Rattle.words.proofs.Tests.{by_test, by_eq, never_both, fails}
use Rattle.words.proofs.Lists.{not_same, length_snoc, length_suffix, suffix_whole, suffix_suffix}
use Rattle.runs.specs.Reading.{over}
use Rattle.starts.specs.Starts.{code, known, longest_end, reached, is_code, index, number, nearest, shorter}
use Rattle.starts.specs.Hits.{Hit, hit, hits_within, hits_at, hits_after, hits, hit_length, hit_end, before, EveryHit, Ordered}
use Rattle.starts.proofs.Codes.{index_below, code_index, code_known, code_some, number_code, numbered_code, numbered}
use Rattle.starts.proofs.Ends.{Longest, longest_is, longest_whole, longest_cut}

module _ (ws : List (List ℕ)) (t : ℕ) where
  -- HITS by their clauses
  module _ (n : ℕ) (u : List ℕ) where
    pub hits_here : is_code ws (suffix (suc n) u) ≡ true →
        hits_within ws (suc n) u t ≡ hit (t - suc n) (number ws (suffix (suc n) u)) ∷ hits_within ws n u t
    unfolding hits_within
    hits_here e = rw e

    pub hits_below : is_code ws (suffix (suc n) u) ≡ false → hits_within ws (suc n) u t ≡ hits_within ws n u t
    unfolding hits_within
    hits_below e = rw e

  -- none between a and b
  pub hits_cut : (a b : ℕ) (u : List ℕ) → a ≤ b → ((r : ℕ) → a < r → r ≤ b → is_code ws (suffix r u) ≡ false) →
      hits_within ws b u t ≡ hits_within ws a u t
  hits_cut a zero u h f = let e : a ≡ 0 = omega arith in rw e
  hits_cut a (suc b) u h f =
      by_eq a (suc b)
      (λ (d : a ≡ suc b). rw d)
      (λ (d : a ≢ suc b).
      hits_below b u (f (suc b) (omega arith) (omega arith)) ∙ hits_cut a b u (omega arith) (λ r x y. f r x (omega arith)))

  -- the short ones are those of an end
  pub hits_inner : (n m : ℕ) (ts : List ℕ) → n ≤ m → m ≤ length ts → hits_within ws n (suffix m ts) t ≡ hits_within ws n ts t
  unfolding hits_within
  hits_inner zero m ts h l = refl
  hits_inner (suc n) m ts h l = rw (suffix_suffix (suc n) m ts h l, hits_inner n m ts (omega arith) l)

  -- those of at most n bytes are those of the longest end that passes a test, where each code passes it
  hits_end : (test : List ℕ → Bool) → ((u : List ℕ) → is_code ws u ≡ true → test u ≡ true) → (n : ℕ) (ts : List ℕ) → n ≤ length ts →
      hits_within ws n ts t ≡ hits_at ws (longest_end test n ts) t
  unfolding hits_at
  hits_end test f n ts h = go (longest_end test n ts) (longest_is test n ts h)
    where
      go : (v : List ℕ) → Longest test n ts v → hits_within ws n ts t ≡ hits_within ws (length v) v t
      go v u =
          let b = u.bound in
          hits_cut (length v) n ts b
          (λ r x y. fails (is_code ws (suffix r ts)) (λ c. never_both (f (suffix r ts) c) (u.none r x y)))
          ∙ sym (hits_inner (length v) (length v) ts (omega arith) (omega arith))
          ∙ ap (λ (w : List ℕ). hits_within ws (length v) w t) u.is_end

  pub hits_reached : (ts : List ℕ) → hits_at ws ts t ≡ hits_at ws (reached ws ts) t
  unfolding hits_at reached
  hits_reached ts = hits_end (known ws) (code_known ws) (length ts) ts (omega arith)

  -- a code's own hit comes first
  hits_code : (w : List ℕ) → 0 < length w → is_code ws w ≡ true → hits_at ws w t ≡ hit (t - length w) (number ws w) ∷ hits_within ws (length w - 1) w t
  unfolding hits_at
  hits_code w h e =
      let d : length w ≡ suc (length w - 1) = omega arith in
      let whole : suffix (suc (length w - 1)) w ≡ w = suffix_whole (suc (length w - 1)) w d in
      ap (λ (k : ℕ). hits_within ws k w t) d
      ∙ hits_here (length w - 1) w (rw whole e)
      ∙ rw (whole, ← d) refl

  -- THE CHAIN: the longest code of at most n bytes that a word ends with, and then the shorter ones of that code; none if there is no such code
  pub chain_end : (n : ℕ) (u : List ℕ) → number ws (longest_end (is_code ws) n u) ≡ 0 → hits_within ws n u t ≡ []
  unfolding hits_within
  chain_end zero u e = refl
  chain_end (suc n) u e =
      by_test (is_code ws (suffix (suc n) u))
      (λ c. absurd (omega (arith, e, ap (number ws) (longest_whole (is_code ws) (suc n) u c), number_code ws (suffix (suc n) u) c)))
      (λ c.
      let less : longest_end (is_code ws) (suc n) u ≡ longest_end (is_code ws) n u =
      longest_cut (is_code ws) n (suc n) u (omega arith) (λ r x y. let at : r ≡ suc n = omega arith in rw at c) in
      hits_below n u c ∙ chain_end n u (rw less at e))

  -- what stands behind the hit of a code
  abbrev pub hits_behind : (w : List ℕ) → List Hit
  hits_behind w = hits_within ws (length w - 1) w t

  pub hits_none : (u : List ℕ) → nearest ws u ≡ 0 → hits_at ws u t ≡ []
  unfolding nearest hits_at
  hits_none u e = chain_end (length u) u e

  pub behind_none : (w : List ℕ) → shorter ws w ≡ 0 → hits_behind w ≡ []
  unfolding shorter
  behind_none w e = chain_end (length w - 1) w e

  module _ (empty : is_code ws [] ≡ false) where
    pub chain_next : (n : ℕ) (u : List ℕ) (i : ℕ) → n ≤ length u → number ws (longest_end (is_code ws) n u) ≡ suc i →
        hits_within ws n u t ≡ hit (t - length (code ws i)) (suc i) ∷ hits_behind (code ws i)
    chain_next n u i h e =
        let v : List ℕ = longest_end (is_code ws) n u in
        let one : is_code ws v ≡ true = numbered_code ws v i e in
        hits_end (is_code ws) (λ w c. c) n u h
        ∙ hits_code v (code_some ws empty v one) one
        ∙ rw (e, ← (numbered ws v i e).1) refl

    pub hits_first : (u : List ℕ) (i : ℕ) → nearest ws u ≡ suc i → hits_at ws u t ≡ hit (t - length (code ws i)) (suc i) ∷ hits_behind (code ws i)
    unfolding nearest hits_at
    hits_first u i e = chain_next (length u) u i (omega arith) e

    pub behind_next : (w : List ℕ) (i : ℕ) → shorter ws w ≡ suc i → hits_behind w ≡ hit (t - length (code ws i)) (suc i) ∷ hits_behind (code ws i)
    unfolding shorter
    behind_next w i e = chain_next (length w - 1) w i (omega arith) e

-- AS MANY hits as codes, at most: a byte more gives at most one more; a code more gives none more below its length, and one from there on
grow : (ws : List (List ℕ)) (n : ℕ) (u : List ℕ) (t : ℕ) →
    (length (hits_within ws n u t) ≤ length (hits_within ws (suc n) u t)) × (length (hits_within ws (suc n) u t) ≤ suc (length (hits_within ws n u t)))
grow ws n u t =
    by_test (is_code ws (suffix (suc n) u))
    (λ c. rw (hits_here ws t n u c) (omega arith, omega arith))
    (λ c. rw (hits_below ws t n u c) (omega arith, omega arith))

module _ (w : List ℕ) (ws : List (List ℕ)) (u : List ℕ) (t : ℕ) where
  few_more : (n m : ℕ) → suc n ≢ length w → suc n ≤ length u → length (hits_within (w ∷ ws) n u t) ≤ length (hits_within ws n u t) + m →
      length (hits_within (w ∷ ws) (suc n) u t) ≤ length (hits_within ws (suc n) u t) + m
  unfolding is_code
  few_more n m d l h =
      let v : List ℕ = suffix (suc n) u in
      by_test (is_code (w ∷ ws) v)
      (λ c.
      let other : is_code ws v ≡ true = rw (not_same w v (λ q. absurd (omega (arith, d, ap length q, length_suffix (suc n) u l)))) at c in
      rw (hits_here (w ∷ ws) t n u c, hits_here ws t n u other) (omega arith))
      (λ c. rw (hits_below (w ∷ ws) t n u c) (omega (arith, h, (grow ws n u t).0)))

  few_below : (n : ℕ) → n < length w → n ≤ length u → length (hits_within (w ∷ ws) n u t) ≤ length (hits_within ws n u t) + 0
  few_below zero h l = unfold hits_within in omega arith
  few_below (suc n) h l = few_more n 0 (λ d. absurd (omega arith)) l (few_below n (omega arith) (omega arith))

  few_above : (n : ℕ) → n ≤ length u → length (hits_within (w ∷ ws) n u t) ≤ length (hits_within ws n u t) + 1
  few_above zero l = unfold hits_within in omega arith
  few_above (suc n) l =
      by_eq (suc n) (length w)
      (λ (d : suc n ≡ length w). omega (arith, (grow (w ∷ ws) n u t).1, few_below n (omega arith) (omega arith), (grow ws n u t).0))
      (λ (d : suc n ≢ length w). few_more n 1 d l (few_above n (omega arith)))

no_codes : (n : ℕ) (u : List ℕ) (t : ℕ) → hits_within [] n u t ≡ []
unfolding hits_within is_code
no_codes zero u t = refl
no_codes (suc n) u t = no_codes n u t

pub hits_few : (ws : List (List ℕ)) (n : ℕ) (u : List ℕ) (t : ℕ) → n ≤ length u → length (hits_within ws n u t) ≤ length ws
hits_few [] n u t h = rw (no_codes n u t) (omega arith)
hits_few (w ∷ ws) n u t h = omega (arith, few_above w ws u t n h, hits_few ws n u t h)

-- EVERY hit
pub every_hit_map : {P Q : Hit → Type 0} (hs : List Hit) → ((h : Hit) → P h → Q h) → EveryHit P hs → EveryHit Q hs
every_hit_map [] f all = tt
every_hit_map (h ∷ hs) f all = (f h all.0, every_hit_map hs f all.1)

pub every_hit_append : (P : Hit → Type 0) (hs ks : List Hit) → EveryHit P hs → EveryHit P ks → EveryHit P (hs ++ ks)
every_hit_append P [] ks all more = more
every_hit_append P (h ∷ hs) ks all more = (all.0, every_hit_append P hs ks all.1 more)

-- a hit of one of the codes, of at most n bytes, that ends after t bytes of the text
pub record Stands (ws : List (List ℕ)) (n t : ℕ) (h : Hit) : Type 0 where
  pub some : 0 < h.number
  pub listed : h.number ≤ length ws
  pub ends : hit_end ws h ≡ t
  pub short : hit_length ws h ≤ n

module _ (ws : List (List ℕ)) where
  module _ (t n : ℕ) (v : List ℕ) (e : is_code ws v ≡ true) where
    long : hit_length ws (hit (t - n) (number ws v)) ≡ length v
    unfolding hit_length
    long =
        let at : number ws v - 1 ≡ index ws v = omega (arith, number_code ws v e) in
        rw at (ap length (code_index ws v e))

    stands : length v ≡ n → n ≤ t → Stands ws n t (hit (t - n) (number ws v))
    stands l h =
        record {
          some = omega (arith, number_code ws v e);
          listed = omega (arith, number_code ws v e, index_below ws v e);
          ends = unfold hit_end in omega (arith, long);
          short = omega (arith, long);
        }

  -- THE PLACES: each hit's code ends where the word does
  pub hits_places : (n : ℕ) (u : List ℕ) (t : ℕ) → n ≤ length u → length u ≤ t → EveryHit (Stands ws n t) (hits_within ws n u t)
  hits_places zero u t h l = unfold hits_within in tt
  hits_places (suc n) u t h l =
      let v : List ℕ = suffix (suc n) u in
      let more : EveryHit (Stands ws (suc n) t) (hits_within ws n u t) =
      every_hit_map (hits_within ws n u t)
      (λ k s. record { some = s.some; listed = s.listed; ends = s.ends; short = omega (arith, s.short) })
      (hits_places n u t (omega arith) l) in
      by_test (is_code ws v)
      (λ e. rw (hits_here ws t n u e) (stands t (suc n) v e (length_suffix (suc n) u h) (omega arith), more))
      (λ e. rw (hits_below ws t n u e) more)

  -- ORDER: an earlier end, or the same end and a longer code; no hit is before itself
  before_earlier : (h k : Hit) → hit_end ws h < hit_end ws k → before ws h k ≡ true
  unfolding before
  before_earlier h k l = rw (lt-ltb (hit_end ws h) (hit_end ws k) l)

  before_longer : (h k : Hit) → hit_end ws h ≡ hit_end ws k → hit_length ws k < hit_length ws h → before ws h k ≡ true
  unfolding before
  before_longer h k e l =
      rw (
        le-ltb (hit_end ws h) (hit_end ws k) (omega (arith, e)),
        eq-eqb (hit_end ws h) (hit_end ws k) e,
        lt-ltb (hit_length ws k) (hit_length ws h) l,
      )

  before_self : (h : Hit) → before ws h h ≡ false
  unfolding before
  before_self h =
      rw (
        le-ltb (hit_end ws h) (hit_end ws h) (omega arith),
        eq-eqb (hit_end ws h) (hit_end ws h) refl,
        le-ltb (hit_length ws h) (hit_length ws h) (omega arith),
      )

  -- so in a list in order no hit stands twice
  pub ordered_once : (h : Hit) (hs : List Hit) → Ordered ws (h ∷ hs) → EveryHit (λ k. h ≢ k) hs
  ordered_once h hs o =
      every_hit_map hs (λ k b d. let self : before ws h h ≡ true = rw (← d) at b in never_both self (before_self h)) o.0

  -- those of one word, longer ones first
  within_ordered : (n : ℕ) (u : List ℕ) (t : ℕ) → n ≤ length u → length u ≤ t → Ordered ws (hits_within ws n u t)
  within_ordered zero u t h l = unfold hits_within in tt
  within_ordered (suc n) u t h l =
      let v : List ℕ = suffix (suc n) u in
      let o : Hit = hit (t - suc n) (number ws v) in
      let size : length v ≡ suc n = length_suffix (suc n) u h in
      let more : Ordered ws (hits_within ws n u t) = within_ordered n u t (omega arith) l in
      by_test (is_code ws v)
      (λ e.
      rw (hits_here ws t n u e) (
        every_hit_map (hits_within ws n u t)
            (λ k s. before_longer o k ((stands t (suc n) v e size (omega arith)).ends ∙ sym s.ends) (omega (arith, s.short, long t (suc n) v e)))
            (hits_places n u t (omega arith) l),
        more,
      ))
      (λ e. rw (hits_below ws t n u e) more)

  -- those that end later come behind
  ordered_append : (t : ℕ) (hs ks : List Hit) → Ordered ws hs → Ordered ws ks →
      EveryHit (λ h. hit_end ws h ≡ t) hs → EveryHit (λ k. t < hit_end ws k) ks → Ordered ws (hs ++ ks)
  ordered_append t [] ks o p same later = p
  ordered_append t (h ∷ hs) ks o p same later = (
    every_hit_append (λ k. before ws h k ≡ true) hs ks o.0
        (every_hit_map ks (λ k l. before_earlier h k (omega (arith, l, same.0))) later),
    ordered_append t hs ks o.1 p same.1 later,
  )

  -- those that one byte completes
  pub after_places : (bs : List ℕ) (c : ℕ) → EveryHit (Stands ws (suc (length bs)) (suc (length bs))) (hits_after ws bs c)
  unfolding hits_after hits_at
  after_places bs c =
      let n : length (bs ++ (c ∷ [])) ≡ suc (length bs) = length_snoc bs c in
      rw n (hits_places (suc (length bs)) (bs ++ (c ∷ [])) (suc (length bs)) (omega arith) (omega arith))

  after_ordered : (bs : List ℕ) (c : ℕ) → Ordered ws (hits_after ws bs c)
  unfolding hits_after hits_at
  after_ordered bs c =
      let n : length (bs ++ (c ∷ [])) ≡ suc (length bs) = length_snoc bs c in
      within_ordered (length (bs ++ (c ∷ []))) (bs ++ (c ∷ [])) (suc (length bs)) (omega arith) (omega arith)

-- a hit of one of the codes whose last byte is after the first a bytes of a text and among the first b
pub record Between (ws : List (List ℕ)) (a b : ℕ) (h : Hit) : Type 0 where
  pub some : 0 < h.number
  pub listed : h.number ≤ length ws
  pub after : a < hit_end ws h
  pub within : hit_end ws h ≤ b

module _ (ws : List (List ℕ)) where
  -- OVER A TEXT: each hit is of a code and ends in the text, and they are in order
  over_places : (bs ts : List ℕ) → EveryHit (Between ws (length bs) (length bs + length ts)) (over (hits_after ws) bs ts)
  unfolding over
  over_places bs [] = tt
  over_places bs (c ∷ ts) =
      let vs : List ℕ = bs ++ (c ∷ []) in
      let n : length vs ≡ suc (length bs) = length_snoc bs c in
      every_hit_append (Between ws (length bs) (length bs + suc (length ts))) (hits_after ws bs c) (over (hits_after ws) vs ts)
      (every_hit_map (hits_after ws bs c)
      (λ h s. record { some = s.some; listed = s.listed; after = omega (arith, s.ends); within = omega (arith, s.ends) })
      (after_places ws bs c))
      (every_hit_map (over (hits_after ws) vs ts)
      (λ h s. record { some = s.some; listed = s.listed; after = omega (arith, s.after); within = omega (arith, s.within) })
      (over_places vs ts))

  over_ordered : (bs ts : List ℕ) → Ordered ws (over (hits_after ws) bs ts)
  unfolding over
  over_ordered bs [] = tt
  over_ordered bs (c ∷ ts) =
      let vs : List ℕ = bs ++ (c ∷ []) in
      let n : length vs ≡ suc (length bs) = length_snoc bs c in
      ordered_append ws (suc (length bs)) (hits_after ws bs c) (over (hits_after ws) vs ts) (after_ordered ws bs c) (over_ordered vs ts)
      (every_hit_map (hits_after ws bs c) (λ h s. s.ends) (after_places ws bs c))
      (every_hit_map (over (hits_after ws) vs ts) (λ h s. omega (arith, s.after)) (over_places vs ts))

  pub hits_coded : (ts : List ℕ) → EveryHit (Between ws 0 (length ts)) (hits ws ts)
  hits_coded ts =
      every_hit_map (hits ws ts)
      (λ h s. record { some = s.some; listed = s.listed; after = s.after; within = omega (arith, s.within) })
      (over_places [] ts)

  pub hits_ordered : (ts : List ℕ) → Ordered ws (hits ws ts)
  hits_ordered ts = over_ordered [] ts
