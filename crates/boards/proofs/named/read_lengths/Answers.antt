-- `read_lengths` meets its contract. Assumes nothing.
use native.Mathlib.Omega.{arith}
use Rattle.boards.proofs.Naming.{lengths_start, lengths_turn}
use Rattle.boards.proofs.named.read_lengths.Goals as goal

pub loop-i-init : goal.loop-i-init
loop-i-init c = lengths_start _ _

pub loop-i-preserved : goal.loop-i-preserved
loop-i-preserved c = lengths_turn (omega arith) (omega (arith, c.from.ensures, c.from_be_bytes.ensures)) c.loop-i.invariant
