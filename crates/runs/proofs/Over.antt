-- What each byte of a text adds: one text after another, and one byte more. Assumes nothing.
use mathlib.Core.Path.{◌≡◌, refl, ◌∙◌}
use mathlib.Core.List.{List, [], ◌∷◌, ◌++◌, append-nil, append_assoc}
use Prim.Native.Nat.{ℕ, suc, ◌+◌, ◌*◌, ◌≤◌}
use native.Mathlib.Omega.{arith}
use lib.ListN.{length, length-append}
use lib.Seq.{append_snoc}
use Rattle.runs.specs.Reading.{over}

module _ {A : Type 0} (f : (before : List ℕ) → (c : ℕ) → List A) where
  pub over_nil : (bs : List ℕ) → over f bs [] ≡ []
  unfolding over
  over_nil bs = refl

  pub over_append : (bs xs ys : List ℕ) → over f bs (xs ++ ys) ≡ over f bs xs ++ over f (bs ++ xs) ys
  unfolding over
  over_append bs [] ys = rw append-nil
  over_append bs (x ∷ xs) ys =
      let at : bs ++ (x ∷ []) ++ xs ≡ bs ++ (x ∷ xs) = append_snoc bs x xs in
      rw (over_append (bs ++ (x ∷ [])) xs ys, at, append_assoc (f bs x) (over f (bs ++ (x ∷ [])) xs) (over f (bs ++ (x ∷ xs)) ys))

  pub over_snoc : (ts : List ℕ) (c : ℕ) → over f [] (ts ++ (c ∷ [])) ≡ over f [] ts ++ f ts c
  over_snoc ts c = over_append [] ts (c ∷ []) ∙ unfold over in rw append-nil

  -- at most k a byte
  pub over_few : (k : ℕ) → ((bs : List ℕ) (c : ℕ) → length (f bs c) ≤ k) → (bs ts : List ℕ) → length (over f bs ts) ≤ k * length ts
  unfolding over
  over_few k few bs [] = omega arith
  over_few k few bs (c ∷ ts) =
      let more : k * suc (length ts) ≡ k + k * length ts = omega arith in
      omega (arith, length-append (f bs c) (over f (bs ++ (c ∷ [])) ts), few bs c, over_few k few (bs ++ (c ∷ [])) ts)
