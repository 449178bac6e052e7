-- `repeat` meets its contract. The loop keeps that a place is written for each byte passed. Assumes nothing.
use Rattle.finder.proofs.Repeating.{row_none, row_next}
use Rattle.finder.proofs.piece.repeat.Goals as goal

pub loop-j-init : goal.loop-j-init
loop-j-init c = row_none _ c.requires

pub loop-j-preserved : goal.loop-j-preserved
loop-j-preserved c = row_next c.loop-j.invariant c.loop-j-test.true c.if-piece-from.false
