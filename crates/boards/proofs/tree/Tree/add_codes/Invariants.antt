-- `add_codes` meets its contract. The loop keeps what the lists hold after j codes. Assumes nothing.
use Rattle.boards.proofs.Added.{SoFar}
use Rattle.boards.proofs.tree.Tree.add_codes.Given as goal

abbrev pub invariant-loop-j : goal.invariant-loop-j
invariant-loop-j l = SoFar l.codes.lengths.now l.codes.bytes.now l.j l.s l.self l.ends l.starts
