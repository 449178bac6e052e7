-- `without_top` meets its contract. Assumes nothing.
use Prim.Native.Nat.{◌^◌, ◌≤◌}
use native.Mathlib.Omega.{arith}
use Rattle.bits.proofs.Bits.{shifted_one, top_part, without_top_zero, without_top_less}
use Rattle.bits.proofs.without_top.Goals as goal

-- the highest bit's power is part of the word
part : (c : goal.After-top) → 2 ^ c.top.result ≤ c.args.m
part c = (top_part _ _ c.if-m-eq0.false c.ranges.m.fits c.top.ensures).0

pub returns-then-m-eq0 : goal.returns-then-m-eq0
returns-then-m-eq0 c = without_top_zero _ c.if-m-eq0.true

pub overflow_shl-result : goal.overflow_shl-result
overflow_shl-result c = c.top.ensures.few

pub overflow_sub-result : goal.overflow_sub-result
overflow_sub-result c = omega (arith, shifted_one c.top.result c.top.ensures.few, part c)

pub returns : goal.returns
returns c =
    without_top_less _ _ _ c.if-m-eq0.false c.ranges.m.fits c.top.ensures
    (omega (arith, shifted_one c.top.result c.top.ensures.few, part c))
