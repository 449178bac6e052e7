-- `fill_states` meets its contract. The loop keeps that the states below r are filled. Assumes nothing.
use Rattle.sheets.proofs.Prepares.{FillingStates}
use Rattle.sheets.proofs.filling.Draft.fill_states.Given as goal

abbrev pub invariant-loop-r : goal.invariant-loop-r
invariant-loop-r g l = FillingStates l.self.code.now l.initial.buffer l.buffer l.r l.f
