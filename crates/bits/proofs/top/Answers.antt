-- `top` meets its contract: 63 less the leading zeros is the exponent of the highest power of two up to m. Assumes nothing.
use mathlib.Core.Path.{◌≡◌}
use Prim.Native.Nat.{suc, ◌+◌}
use native.Mathlib.Omega.{arith}
use lib.Count.{count_leading_zeros}
use Rattle.automaton.specs.Ceilings.{log2}
use Rattle.automaton.proofs.Logarithm.{leading_zeros}
use Rattle.bits.proofs.Bits.{top_zero, top_is}
use Rattle.bits.proofs.top.Goals as goal

-- the zeros before the highest bit
zeros : (c : goal.Else-m-eq0) → count_leading_zeros 64 c.args.m + suc (log2 c.args.m) ≡ 64
zeros c = leading_zeros 64 c.args.m (omega (arith, c.if-m-eq0.false)) c.ranges.m.fits

pub returns-then-m-eq0 : goal.returns-then-m-eq0
returns-then-m-eq0 c = top_zero _ c.if-m-eq0.true

pub overflow_cast-result : goal.overflow_cast-result
overflow_cast-result c = omega (arith, zeros c)

pub overflow_sub-result : goal.overflow_sub-result
overflow_sub-result c = omega (arith, zeros c)

pub returns : goal.returns
returns c = top_is _ _ c.if-m-eq0.false c.ranges.m.fits (omega (arith, zeros c))
