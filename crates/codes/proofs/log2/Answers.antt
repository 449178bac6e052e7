-- `log2` meets its contract: 63 less the leading zeros is the exponent of the highest power of two up to m. Assumes nothing.
use native.Mathlib.Omega.{arith}
use Rattle.automaton.proofs.Logarithm.{leading_zeros}
use Rattle.codes.proofs.log2.Goals as goal

pub overflow_cast-result : goal.overflow_cast-result
overflow_cast-result c = omega (arith, leading_zeros 64 c.args.m c.requires c.ranges.m.fits)

pub overflow_sub-result : goal.overflow_sub-result
overflow_sub-result c = omega (arith, leading_zeros 64 c.args.m c.requires c.ranges.m.fits)

pub returns : goal.returns
returns c = omega (arith, leading_zeros 64 c.args.m c.requires c.ranges.m.fits)
