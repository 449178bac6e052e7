-- SEPARATE SEARCHES: of the hits in a text, the places of one code are those that a search for this code alone finds. Assumes nothing.
use mathlib.Core.Path.{◌≡◌, refl, sym, ap, ◌∙◌}
use mathlib.Core.Bool.{false}
use mathlib.Core.Logic.{◌≢◌}
use mathlib.Core.List.{List, [], ◌∷◌, ◌++◌}
use Prim.Native.Nat.{ℕ, zero, suc, ◌-◌, ◌≤◌, ◌<◌}
use native.Mathlib.Omega.{arith}
use lib.Dec.{eqb}
use lib.ListN.{length, take}
use lib.Seq.{take-length}
use borrow.Author.Tests.{eq-eqb, ne_eqb}
use Rattle.words.specs.Words.{suffix, ends_with}
use Rattle.words.proofs.Tests.{by_test, by_eq, never_both}
use Rattle.words.proofs.Lists.{length_suffix}
use Rattle.words.proofs.Ends.{ends_is, ends_test}
use Rattle.runs.specs.Reading.{over, place_if}
use Rattle.runs.proofs.Places.{place_none, place_some}
use Rattle.starts.specs.Starts.{code, is_code, number, twice}
use Rattle.starts.specs.Hits.{Hit, hits_within, hits_at, hits_after, hits, places_of}
use Rattle.starts.proofs.Codes.{is_code_at, code_some, numbered, number_at}
use Rattle.starts.proofs.Hits.{hits_here, hits_below}

-- the places of an append are the append
pub places_append : (j : ℕ) (hs ks : List Hit) → places_of j (hs ++ ks) ≡ places_of j hs ++ places_of j ks
unfolding places_of
places_append j [] ks = refl
places_append j (h ∷ hs) ks =
    by_test (eqb h.number j)
    (λ t. rw t (ap (λ (l : List ℕ). h.place ∷ l) (places_append j hs ks)))
    (λ t. rw t (places_append j hs ks))

-- one search: the code number j, from 0, of codes that stand once and are not empty
module _ (ws : List (List ℕ)) (once : twice ws ≡ false) (empty : is_code ws [] ≡ false) (j : ℕ) (inside : j < length ws) where
  abbrev w : List ℕ
  w = code ws j

  -- a hit of another code counts for nothing, the code's own is counted
  module _ (n : ℕ) (u : List ℕ) (t : ℕ) where
    places_other : suffix (suc n) u ≢ w → places_of (suc j) (hits_within ws (suc n) u t) ≡ places_of (suc j) (hits_within ws n u t)
    unfolding places_of
    places_other d =
        let v : List ℕ = suffix (suc n) u in
        by_test (is_code ws v)
        (λ e. rw (hits_here ws t n u e, ne_eqb (number ws v) (suc j) (λ i. d (sym (numbered ws v j i).1))) refl)
        (λ e. rw (hits_below ws t n u e) refl)

    places_own : suffix (suc n) u ≡ w → places_of (suc j) (hits_within ws (suc n) u t) ≡ (t - suc n) ∷ places_of (suc j) (hits_within ws n u t)
    unfolding places_of
    places_own d =
        rw (hits_here ws t n u (rw d (is_code_at ws j inside)), d, number_at ws j once inside, eq-eqb (suc j) (suc j) refl) refl

  -- below the code's length, and where the word does not end with the code, there are none
  module _ (u : List ℕ) (t : ℕ) where
    places_none : (n : ℕ) → ((k : ℕ) → k < n → suffix (suc k) u ≢ w) → places_of (suc j) (hits_within ws n u t) ≡ []
    places_none zero f = unfold hits_within places_of in refl
    places_none (suc n) f = places_other n u t (f n (omega arith)) ∙ places_none n (λ k h. f k (omega arith))

    differs : (k : ℕ) → suc k ≤ length u → suc k ≢ length w → suffix (suc k) u ≢ w
    differs k h d e = d (sym (length_suffix (suc k) u h) ∙ ap length e)

    places_one : (n : ℕ) → n ≤ length u → length w ≤ n → suffix (length w) u ≡ w → places_of (suc j) (hits_within ws n u t) ≡ (t - length w) ∷ []
    places_one zero h l e = absurd (omega (arith, code_some ws empty w (is_code_at ws j inside)))
    places_one (suc n) h l e =
        by_eq (suc n) (length w)
        (λ (d : suc n ≡ length w).
        places_own n u t (rw d e)
        ∙ rw (places_none n (λ k b. differs k (omega arith) (λ q. absurd (omega arith))), d) refl)
        (λ (d : suc n ≢ length w).
        places_other n u t (differs n h d) ∙ places_one n (omega arith) (omega arith) e)

  -- BYTE BY BYTE, and over a text
  pub separate_after : (ts : List ℕ) (c : ℕ) → let w : List ℕ = code ws j in
      places_of (suc j) (hits_after ws ts c) ≡ place_if (ends_with (ts ++ (c ∷ [])) w (length w)) (suc (length ts) - length w)
  unfolding hits_after hits_at
  separate_after ts c =
      let u : List ℕ = ts ++ (c ∷ []) in
      let t : ℕ = suc (length ts) in
      let whole : take (length w) w ≡ w = take-length w in
      by_test (ends_with u w (length w))
      (λ e.
      let is = ends_is u w (length w) e in
      places_one u t (length u) (omega arith) is.fits (is.same ∙ whole)
      ∙ sym (place_some (ends_with u w (length w)) (t - length w) e))
      (λ e.
      places_none u t (length u)
      (λ k h d.
      let size : suc k ≡ length w = sym (length_suffix (suc k) u (omega arith)) ∙ ap length d in
      never_both (ends_test u w (length w) (record { fits = omega arith; same = rw (whole, ← size) d })) e)
      ∙ sym (place_none (ends_with u w (length w)) (t - length w) e))

  over_separate : (bs ts : List ℕ) →
      places_of (suc j) (over (hits_after ws) bs ts) ≡ over (λ us c. place_if (ends_with (us ++ (c ∷ [])) w (length w)) (suc (length us) - length w)) bs ts
  unfolding over
  over_separate bs [] = unfold places_of in refl
  over_separate bs (c ∷ ts) =
      places_append (suc j) (hits_after ws bs c) (over (hits_after ws) (bs ++ (c ∷ [])) ts)
      ∙ rw (separate_after bs c, over_separate (bs ++ (c ∷ [])) ts) refl

  pub separate : (ts : List ℕ) → let w : List ℕ = code ws j in
      places_of (suc j) (hits ws ts) ≡ over (λ bs c. place_if (ends_with (bs ++ (c ∷ [])) w (length w)) (suc (length bs) - length w)) [] ts
  separate ts = over_separate [] ts
