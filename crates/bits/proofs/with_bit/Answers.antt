-- `with_bit` meets its contract. Assumes nothing.
use native.Mathlib.Omega.{arith}
use Rattle.bits.proofs.Bits.{with_bit_put, with_bit_none}
use Rattle.bits.proofs.with_bit.Goals as goal

pub returns-then-j-lt64 : goal.returns-then-j-lt64
returns-then-j-lt64 c = with_bit_put _ _ (omega (arith, c.if-j-lt64.true))

pub returns : goal.returns
returns c = with_bit_none _ _ (omega (arith, c.if-j-lt64.false))
