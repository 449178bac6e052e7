-- `push_lacking` meets its contract. The loop keeps that the codes before the next are done. Assumes nothing.
use Rattle.boards.specs.Tables.{codes_of}
use Rattle.boards.proofs.Listed.{Going}
use Rattle.boards.proofs.joining.List.push_lacking.Given as goal

abbrev pub invariant-loop-length : goal.invariant-loop-length
invariant-loop-length l = Going (codes_of l.first) l.second.lengths.now l.second.bytes.now l.initial.self l.self l.at l.length-index
