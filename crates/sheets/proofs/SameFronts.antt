-- The fronts of two lists, compared. Assumes nothing.
use mathlib.Core.Path.{◌≡◌, refl, sym, ap}
use mathlib.Core.Bool.{Bool, false, ◌&&◌}
use mathlib.Core.List.{List}
use Prim.Native.Nat.{ℕ, ◌≤◌, ◌<◌}
use native.Mathlib.Omega.{arith}
use lib.Dec.{eqb, leb}
use lib.ListN.{length, take, length-take}
use lib.Seq.{length-take-le}
use borrow.Author.Tests.{le-leb, lt-leb}
use Rattle.std.specs.Cmp.Lexicographic.{pointwise}
use Rattle.std.proofs.lemmas.Bool.Decides.{Decides-eqb}
use Rattle.std.proofs.lemmas.Slice.Eq.{slice_eq-Decides}
use Rattle.words.specs.Words.{same}
use Rattle.words.proofs.Tests.{same_test, by_le}
use Rattle.words.proofs.Lists.{eq_same, same_eq, not_same}

module _ (a b : List ℕ) (n : ℕ) where
  pub front_past : length b < n → false ≡ leb n (length b) && same (take n a) (take n b)
  front_past h = rw (lt-leb n (length b) h) refl

  pub front_short : length a < n → false ≡ leb n (length b) && same (take n a) (take n b)
  front_short l =
      by_le n (length b)
      (λ (h : n ≤ length b).
      rw (le-leb n (length b) h)
      (sym (not_same (take n a) (take n b) (λ e. omega (arith, length-take n a, length-take-le n b h, ap length e)))))
      (λ (h : length b < n). front_past h)

  pub front_compared : n ≤ length b → (r : Bool) → r ≡ pointwise eqb (take n a) (take n b) → r ≡ leb n (length b) && same (take n a) (take n b)
  front_compared h r e =
      let d = slice_eq-Decides Decides-eqb (take n a) (take n b) r e in
      rw (le-leb n (length b) h) (same_test r (same (take n a) (take n b)) (λ t. eq_same (d.0 t)) (λ t. d.1 (same_eq (take n a) (take n b) t)))
