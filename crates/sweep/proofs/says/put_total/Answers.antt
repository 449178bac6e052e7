-- `put_total` meets its contract. Assumes nothing.
use borrow.Author.Rules.{rules}
use Rattle.forms.proofs.Paging.{put_on}
use Rattle.sweep.specs.Forms.{total_form}
use Rattle.sweep.proofs.Wording.{total_short}
use Rattle.sweep.proofs.says.put_total.Goals as goal

pub returns : goal.returns
unfolding total_form
returns c =
    let two = put_on c.put_number.ensures c.put_number-2.ensures in (
      put_on (put_on (put_on two c.put_number-3.ensures) c.put_number-4.ensures) c.put.ensures,
      total_short _ _ _ _ (search rules) (search rules) (search rules) (search rules),
    )
