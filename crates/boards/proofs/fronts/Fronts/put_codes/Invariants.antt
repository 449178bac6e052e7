-- `put_codes` meets its contract. The loop keeps that the codes below j have their bits and their offsets. Assumes nothing.
use Rattle.boards.proofs.FirstBytes.{Putting}
use Rattle.boards.proofs.fronts.Fronts.put_codes.Given as goal

abbrev pub invariant-loop-j : goal.invariant-loop-j
invariant-loop-j l = Putting l.codes.lengths.now l.codes.bytes.now l.self.depth l.self.words l.self.starts l.j l.s
