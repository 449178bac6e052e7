-- `begins` meets its contract. Assumes nothing.
use Rattle.sheets.proofs.Entries.{fresh}
use Rattle.sheets.proofs.filling.Draft.begins.Goals as goal

pub returns : goal.returns
returns g c = fresh _ c.fill-n.ensures _ c.same_front.ensures
