-- `put_lengths` meets its contract. The loop keeps that the lengths passed are written. Assumes nothing.
use native.Mathlib.Omega.{arith}
use Rattle.sheets.specs.Sheet.{numbers}
use Rattle.boards.proofs.Splices.{spliced_none, lengths_turn}
use Rattle.boards.proofs.layout.put_lengths.Goals as goal

pub loop-i-init : goal.loop-i-init
unfolding numbers
loop-i-init c = spliced_none c.args.at c.args.area.now

pub loop-i-preserved : goal.loop-i-preserved
loop-i-preserved c = lengths_turn c.args.lengths.now (omega arith) c.loop-i.invariant c.put_pair.ensures
