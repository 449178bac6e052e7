-- `put_hits` meets its contract. The loop keeps that the forms of the hits passed are written. Assumes nothing.
use Rattle.std.proofs.Common.{refl, rules, None}
use Rattle.std.proofs.lemmas.Slice.Zip.{either_empty_from_Zip}
use Rattle.sweep.proofs.Wording.{hits_none, hits_next, hits_done}
use Rattle.sweep.proofs.says.put_hits.Goals as goal

pub loop-place-init : goal.loop-place-init
loop-place-init c = hits_none _ _ _ _ _ _ (search rules) (search rules)

pub loop-place-preserved : goal.loop-place-preserved
loop-place-preserved c = hits_next c.loop-place.invariant (search rules) (search rules) c.put_hit.ensures

pub returns : goal.returns
returns c = hits_done c.loop-place.invariant (either_empty_from_Zip c.loop-place.place-iterator c.next.new.self None refl c.in-None.ensures.steps)
