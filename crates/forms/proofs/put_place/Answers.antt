-- `put_place` meets its contract. Assumes nothing.
use Rattle.forms.specs.Text.{place_form}
use Rattle.forms.proofs.Decimals.{place_short}
use Rattle.forms.proofs.put_place.Goals as goal

pub returns : goal.returns
unfolding place_form
returns c = (rw c.from.ensures at c.put_form.ensures, place_short _ c.ranges.place.fits)
