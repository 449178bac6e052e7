-- `put_end` meets its contract. Assumes nothing.
use Rattle.forms.specs.Text.{end_form}
use Rattle.forms.proofs.Decimals.{end_short}
use Rattle.forms.proofs.Writing.{written_on}
use Rattle.forms.proofs.put_end.Goals as goal

pub returns : goal.returns
unfolding end_form
returns c =
    let n = c.ranges in (
      written_on (written_on (written_on (rw c.from.ensures at c.put_number-a.ensures) (rw c.from-2.ensures at c.put_number-b.ensures)) c.put_number-c.ensures) c.put.ensures,
      end_short _ _ _ n.bytes.fits n.hits.fits n.compares.fits,
    )
