-- `new` meets its contract. Assumes nothing.
use mathlib.Core.Path.{refl}
use Rattle.sweep.proofs.Keeping.{kept_none}
use Rattle.sweep.proofs.head.Codes.new.Goals as goal

pub returns : goal.returns
returns c = kept_none _ refl refl refl refl c.new.ensures
