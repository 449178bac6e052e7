-- `put` meets its contract. Assumes nothing.
use Rattle.forms.proofs.Paging.{written_put}
use Rattle.forms.proofs.page.Page.put.Goals as goal

pub returns : goal.returns
returns g c = rw c.self.view_is at (written_put c.self.told c.self.invariant c.put-self-inside.ensures)
