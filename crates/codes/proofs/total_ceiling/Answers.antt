-- `total_ceiling` meets its contract. Assumes nothing.
use Rattle.std.proofs.Common.{rules, ◌≡◌, Err}
use mathlib.Core.Path.{sym}
use Prim.Native.Nat.{ℕ, ◌*◌, ◌≤◌, ◌<◌}
use native.Mathlib.Omega.{arith}
use native.Mathlib.Nat.{mul-le-mul_right}
use Rattle.automaton.specs.Ceilings.{total_ceiling}
use Rattle.codes.specs.Entry.{total_answer}
use Rattle.codes.proofs.Refusals.{told_value, told_refused, length_bounds}
use Rattle.codes.proofs.total_ceiling.Goals as goal

-- two factors of thirty-two bits
product-fits : {k n : ℕ} → k < 4294967296 → n < 4294967296 → k * n < 18446744073709551616
product-fits {k} {n} a b =
    let bound : k * n ≤ 4294967296 * n = mul-le-mul_right n (omega arith) in
    omega arith

pub returns-in_err-check_length : goal.returns-in_err-check_length
unfolding total_answer
returns-in_err-check_length c =
    let e : c.from_residual.result ≡ Err c.in_err-check_length.field-0.0 = search rules in
    told_refused _ _ _ _ e c.in_err-check_length.ensures

pub overflow_sub-total : goal.overflow_sub-total
overflow_sub-total c = omega (arith, c.from-size.ensures, (length_bounds _ _ (sym c.in_ok-check_length.ensures)).0)

pub overflow_mul-total-2 : goal.overflow_mul-total-2
overflow_mul-total-2 c = record { fits = product-fits (omega (arith, c.from-size.ensures, (length_bounds _ _ (sym c.in_ok-check_length.ensures)).1)) (omega (arith, c.from.ensures, c.ranges.n.fits)) }

pub nonzero_div-total : goal.nonzero_div-total
nonzero_div-total c = omega (arith, c.from-size.ensures, (length_bounds _ _ (sym c.in_ok-check_length.ensures)).0)

pub returns : goal.returns
unfolding total_answer total_ceiling
returns c = rw (c.from-size.ensures, c.from.ensures) (told_value _ _ c.in_ok-check_length.ensures)
