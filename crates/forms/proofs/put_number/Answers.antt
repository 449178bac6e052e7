-- `put_number` meets its contract. Assumes nothing.
use mathlib.Core.Path.{◌∙◌}
use Rattle.forms.proofs.Writing.{written_on}
use Rattle.forms.proofs.Decimals.{decimal_is}
use Rattle.forms.proofs.put_number.Goals as goal

pub returns : goal.returns
returns c =
    let d = c.decimal-k.ensures in
    written_on c.put-mid.ensures (rw (d.digits ∙ decimal_is _ _ d.len) at c.put.ensures)
