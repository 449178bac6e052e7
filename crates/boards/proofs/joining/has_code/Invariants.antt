-- `has_code` meets its contract. The loop keeps that the word is one of the codes exactly if it is one of those not looked at. Assumes nothing.
use Rattle.boards.proofs.Listed.{Looking}
use Rattle.boards.proofs.joining.has_code.Given as goal

abbrev pub invariant-loop-length : goal.invariant-loop-length
invariant-loop-length l = Looking l.codes.lengths.now l.codes.bytes.now l.word l.at l.length-index
