-- `list_byte` meets its contract. Assumes nothing.
use mathlib.Core.Path.{refl}
use Rattle.sweep.proofs.Sweeping.{byte_listed}
use Rattle.sweep.proofs.list.Sweep.list_byte.Goals as goal

pub returns : goal.returns
returns c = byte_listed _ c.if-byte-eq0.false c.put.ensures refl refl
