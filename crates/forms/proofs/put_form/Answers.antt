-- `put_form` meets its contract. Assumes nothing.
use Rattle.forms.proofs.Writing.{written_on}
use Rattle.forms.proofs.put_form.Goals as goal

pub returns : goal.returns
returns c = written_on c.put_number-end.ensures c.put.ensures
