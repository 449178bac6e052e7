-- `put_places` meets its contract. Assumes nothing.
use Rattle.forms.proofs.Paging.{written_put}
use Rattle.forms.proofs.page.Page.put_places.Goals as goal

pub returns : goal.returns
returns g c = let w = c.put_places-self-inside.ensures in (rw c.self.view_is at (written_put c.self.told c.self.invariant w.0), w.1)
