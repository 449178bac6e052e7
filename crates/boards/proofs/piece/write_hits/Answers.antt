-- `write_hits` meets its contract. The loop keeps that some hits are written and the chain of codes from a number on is left. Assumes nothing.
use native.Mathlib.Omega.{arith}
use Rattle.boards.proofs.Hitting.{loop_start, loop_bounds, loop_turn}
use Rattle.boards.proofs.piece.write_hits.Goals as goal

pub loop-number-init : goal.loop-number-init
loop-number-init c = loop_start c.requires

pub bounds-places-at : goal.bounds-places-at
bounds-places-at c = (loop_bounds c.loop-number.invariant (omega arith)).3

pub bounds-numbers-at : goal.bounds-numbers-at
bounds-numbers-at c = (loop_bounds c.loop-number.invariant (omega arith)).4

pub loop-number-smaller : goal.loop-number-smaller
loop-number-smaller c = omega (arith, (loop_bounds c.loop-number.invariant (omega arith)).5)

pub loop-number-preserved : goal.loop-number-preserved
loop-number-preserved c = loop_turn c.loop-number.invariant (omega arith) _ c.from-number.ensures
