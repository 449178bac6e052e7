-- An answer as one signed number of 64 bits: its two cases, and handing it on. Assumes nothing.
use mathlib.Core.Path.{◌≡◌, sym, ap, subst, ◌∙◌}
use mathlib.Core.Bool.{Bool, true, false, cond}
use Prim.Native.Nat.{ℕ, zero, suc, ◌+◌, ◌-◌, ◌^◌, ◌≤◌, ◌<◌}
use native.Mathlib.Omega.{arith}
use lib.Dec.{ltb}
use lib.IntN.{ℤ, pos, negsuc, neg_ℤ, ◌-ℤ◌, +ℤ_idl}
use lib.Signed.{mag}
use mir.Syntax.{w64}
use mir.Val.{SFits, to_z, of_z}
use mir.Facts.{to_z_pos, to_z-of_z}
use Rattle.codes.specs.Refusals.{Answer, Value, Refused, answer_value}
use Rattle.desk.specs.Signed.{signed}

-- A VALUE, below the limit
module _ (a : Answer) (n : ℕ) (is : a ≡ Value n) (below : answer_value a < 2 ^ 63) where
  value_below : n < 2 ^ 63
  value_below = subst (λ (b : Answer). answer_value b < 2 ^ 63) is below

  pub value_signed : to_z w64 n ≡ signed a
  unfolding signed
  value_signed = to_z_pos w64 value_below ∙ sym (ap signed is)

-- A REFUSAL: the difference of two small numbers fits
mag_difference : (j k : ℕ) → mag (pos j -ℤ pos k) ≤ j + k
mag_difference j zero = omega arith
mag_difference j (suc k) = go (ltb j (suc k))
  where
    go : (t : Bool) → mag (cond t (negsuc (suc k - suc j)) (pos (j - suc k))) ≤ j + suc k
    go true = omega arith
    go false = omega arith

opposite_fits : (n : ℕ) → n < 2 ^ 32 → SFits w64 (pos 0 -ℤ pos n)
opposite_fits n below = record { sfits = omega (arith, mag_difference 0 n) }

small_fits : (n : ℕ) → n < 2 ^ 32 → SFits w64 (pos n)
small_fits n below = record { sfits = omega arith }

pub refusal_signed : (a : Answer) (n : ℕ) (z : ℤ) → a ≡ Refused n → n < 2 ^ 32 → z ≡ pos n →
    to_z w64 (of_z w64 (pos 0 -ℤ to_z w64 (of_z w64 z))) ≡ signed a
unfolding signed
refusal_signed a n z is below e =
    rw (e, to_z-of_z (small_fits n below)) (to_z-of_z (opposite_fits n below))
    ∙ +ℤ_idl (neg_ℤ (pos n))
    ∙ sym (ap signed is)
