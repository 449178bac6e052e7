-- `put_unread` meets its contract. Assumes nothing.
use Rattle.forms.proofs.Paging.{put_on}
use Rattle.sweep.specs.Forms.{unread_form}
use Rattle.sweep.proofs.Wording.{unread_short}
use Rattle.sweep.proofs.says.put_unread.Goals as goal

pub returns : goal.returns
unfolding unread_form
returns c = (put_on c.put_number.ensures c.put.ensures, unread_short _ c.ranges.file.fits)
