-- `cost_behind` meets its contract. Assumes nothing.
use native.Mathlib.Omega.{arith}
use Rattle.reached.proofs.Counting.{counted_more}
use Rattle.reached.proofs.Room.cost_behind.Goals as goal

pub overflow_sub-result : goal.overflow_sub-result
overflow_sub-result c = omega (arith, counted_more _ _ c.requires.1 c.count-before.ensures c.count-after.ensures)

pub returns : goal.returns
returns c = omega (arith, counted_more _ _ c.requires.1 c.count-before.ensures c.count-after.ensures)
