-- `repeat` meets its contract. The loop keeps that a place is written for each byte passed. Assumes nothing.
use Rattle.finder.proofs.Repeating.{Row}
use Rattle.finder.proofs.piece.repeat.Given as goal

abbrev pub invariant-loop-j : goal.invariant-loop-j
invariant-loop-j l = Row l.piece l.from l.count l.byte l.last l.initial.places l.j l.places
