-- `put_refused` meets its contract. Assumes nothing.
use Rattle.forms.specs.Text.{refused_form}
use Rattle.forms.proofs.Decimals.{refused_short}
use Rattle.forms.proofs.put_refused.Goals as goal

pub returns : goal.returns
unfolding refused_form
returns c = (rw c.from.ensures at c.put_form.ensures, refused_short _ c.ranges.number.fits)
