-- The targets of all states in a row: how many there are below a state, and which stands where. Assumes nothing.
use mathlib.Core.Path.{◌≡◌, refl, ◌∙◌, ap}
use mathlib.Core.List.{List}
use Prim.Native.Nat.{ℕ, zero, suc, ◌+◌, ◌≤◌, ◌<◌}
use native.Mathlib.Nat.{le_refl}
use native.Mathlib.Omega.{arith}
use lib.ListN.{length, get_or, length-append, get_or-append}
use lib.Seq.{get_or-append-add}
use Rattle.words.proofs.Tests.{by_le}
use Rattle.automaton.specs.Arrows.{back_targets, targets_below, arrows, arrows_below}
use Rattle.automaton.proofs.Targets.{back_zero}

module _ (w : List ℕ) where
  pub below_zero : arrows_below w 0 ≡ 0
  unfolding targets_below
  below_zero = refl

  pub below_suc : (p : ℕ) → arrows_below w (suc p) ≡ arrows_below w p + arrows w p
  unfolding targets_below
  below_suc p = length-append (targets_below w p) (back_targets w p)

  pub arrows_zero : arrows w 0 ≡ 0
  arrows_zero = ap length (back_zero w)

  pub below_one : arrows_below w 1 ≡ 0
  below_one = omega (arith, below_suc 0, below_zero, arrows_zero)

  pub below_rises : (p s : ℕ) → p ≤ s → arrows_below w p ≤ arrows_below w s
  below_rises p zero h = let e : p ≡ 0 = omega arith in rw e (le_refl (arrows_below w 0))
  below_rises p (suc s) h =
      by_le p s
      (λ (l : p ≤ s). omega (arith, below_suc s, below_rises p s l))
      (λ (l : s < p). let e : p ≡ suc s = omega arith in rw e (le_refl (arrows_below w (suc s))))

  -- the targets of a state are behind those of the lower ones
  pub target_at : (s p j : ℕ) → p < s → j < arrows w p → get_or (targets_below w s) (arrows_below w p + j) 0 ≡ get_or (back_targets w p) j 0
  unfolding targets_below
  target_at zero p j h l = absurd (omega arith)
  target_at (suc s) p j h l =
      by_le s p
      (λ (d : s ≤ p). let e : p ≡ s = omega arith in rw e (get_or-append-add (targets_below w s) (back_targets w s) j 0))
      (λ (d : p < s).
      get_or-append (targets_below w s) (back_targets w s) 0 (arrows_below w p + j)
      (omega (arith, below_suc p, below_rises (suc p) s d))
      ∙ target_at s p j d l)
