-- `go_ahead` meets its contract. The loop keeps where forward arrows have led, and at which number the next state's targets start. Assumes nothing.
use Rattle.finder.proofs.Forwards.{Forwards}
use Rattle.finder.proofs.sheet.Sheet.go_ahead.Given as goal

abbrev pub invariant-loop-j : goal.invariant-loop-j
invariant-loop-j l = Forwards l.self l.p l.piece l.i l.start l.count l.l l.j
