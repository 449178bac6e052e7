-- `put_hits` meets its contract. The loop keeps that the forms of the hits passed are written. Assumes nothing.
use Rattle.sweep.proofs.Wording.{HitsPut}
use Rattle.sweep.proofs.says.put_hits.Given as goal

abbrev pub invariant-loop-place : goal.invariant-loop-place
invariant-loop-place l = HitsPut l.file l.places l.numbers 200704 l.initial.page l.place-iterator l.page
