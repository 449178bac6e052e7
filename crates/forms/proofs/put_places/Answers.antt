-- `put_places` meets its contract. The loop keeps that the forms of the places passed are written. Assumes nothing.
use native.Mathlib.Omega.{arith}
use Rattle.forms.specs.Text.{place_forms}
use Rattle.forms.proofs.Writing.{written_none, places_next}
use Rattle.forms.proofs.put_places.Goals as goal

pub loop-place-init : goal.loop-place-init
unfolding place_forms
loop-place-init c = (written_none _ _, omega arith)

pub loop-place-preserved : goal.loop-place-preserved
loop-place-preserved c = places_next _ _ c.loop-place-test.true c.loop-place.invariant c.put_place-end.ensures
