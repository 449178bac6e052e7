-- `take_part` meets its contract. By whether feeding is refused. Assumes nothing.
use native.Mathlib.Omega.{arith}
use Rattle.runs.proofs.Refusals.{number_some}
use Rattle.boards.specs.Entry.{room}
use Rattle.sweep.proofs.Parts.{part_refused, written_in_room, part_fed, part_stopped, ended_none}
use Rattle.sweep.proofs.look.take_part.Goals as goal

pub returns-in_default : goal.returns-in_default
unfolding room
returns-in_default c = part_refused c.in_default.ensures _ _ (omega arith) (number_some _)

pub shared_ref_as_front-places : goal.shared_ref_as_front-places
unfolding room
shared_ref_as_front-places c = omega (arith, written_in_room c.in-Ok.ensures (ended_none _))

pub returns : goal.returns
returns c = part_fed c.in-Ok.ensures (ended_none _) c.in_ok-say_hits.ensures

pub returns-in_err-say_hits : goal.returns-in_err-say_hits
returns-in_err-say_hits c = part_stopped c.in-Ok.ensures (ended_none _) _ c.from_residual.ensures.0 c.in_err-say_hits.ensures
