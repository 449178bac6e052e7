-- `first_bits` meets its contract. The loop keeps that the bits passed are set. Assumes nothing.
use native.Mathlib.Omega.{arith}
use Rattle.boards.proofs.Linking.{first_bits_none}
use Rattle.boards.proofs.links.first_bits.Goals as goal

pub loop-j-init : goal.loop-j-init
loop-j-init c = (omega arith, first_bits_none)
