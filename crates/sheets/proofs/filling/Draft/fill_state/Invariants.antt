-- `fill_state` meets its contract. The loop keeps that the targets passed are put. Assumes nothing.
use Rattle.sheets.proofs.States.{Copying}
use Rattle.sheets.proofs.filling.Draft.fill_state.Given as goal

abbrev pub invariant-loop-i : goal.invariant-loop-i
invariant-loop-i g l = Copying l.self.code.now l.fn.buffer l.r l.border l.end l.buffer l.f l.i
