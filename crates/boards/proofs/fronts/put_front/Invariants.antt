-- `put_front` meets its contract. The loop keeps that the rows below q have the code's bit. Assumes nothing.
use Rattle.boards.specs.Fronts.{CodePut}
use Rattle.boards.proofs.fronts.put_front.Given as goal

abbrev pub invariant-loop-q : goal.invariant-loop-q
invariant-loop-q l = CodePut l.front l.q l.j l.initial.words l.words
