-- `read_lengths` meets its contract. Assumes nothing.
use Rattle.boards.specs.Naming.{LengthsRead}
use Rattle.boards.proofs.named.read_lengths.Given as goal

abbrev pub invariant-loop-i : goal.invariant-loop-i
invariant-loop-i l = LengthsRead l.board l.i l.lengths
