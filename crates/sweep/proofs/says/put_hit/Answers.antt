-- `put_hit` meets its contract. Assumes nothing.
use Rattle.forms.proofs.Paging.{put_on}
use Rattle.sweep.specs.Forms.{hit_form}
use Rattle.sweep.proofs.Wording.{hit_short}
use Rattle.sweep.proofs.says.put_hit.Goals as goal

pub returns : goal.returns
unfolding hit_form
returns c =
    let n = c.ranges in (
      put_on
          (put_on (put_on c.put_number.ensures (rw c.from.ensures at c.put_number-2.ensures)) (rw c.from-2.ensures at c.put_number-3.ensures))
          c.put.ensures,
      hit_short _ _ _ n.file.fits n.place.fits n.number.fits,
    )
