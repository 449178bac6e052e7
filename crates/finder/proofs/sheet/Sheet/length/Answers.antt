-- `length` meets its contract. Assumes nothing.
use mathlib.Core.Path.{ap}
use lib.ListN.{length}
use Rattle.finder.proofs.Coded.{coded_bounds}
use Rattle.finder.proofs.sheet.Sheet.length.Goals as goal

pub returns : goal.returns
returns c = let b = coded_bounds c.self.invariant in (ap length c.self.view_is, b.0, b.1)
