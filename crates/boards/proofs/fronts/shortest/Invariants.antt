-- `shortest` meets its contract. The loop keeps that no length so far is below `depth`. Assumes nothing.
use Rattle.boards.proofs.FirstBytes.{ShortestOf}
use Rattle.boards.proofs.fronts.shortest.Given as goal

abbrev pub invariant-loop-length : goal.invariant-loop-length
invariant-loop-length l = ShortestOf l.lengths l.depth l.length-index
