-- `put_rows` meets its contract. The loop keeps that the rows of the states passed are written. Assumes nothing.
use native.Mathlib.Omega.{arith}
use Rattle.boards.specs.Written.{rows_in}
use Rattle.boards.proofs.Splices.{spliced_none, rows_turn}
use Rattle.boards.proofs.layout.put_rows.Goals as goal

pub loop-g-init : goal.loop-g-init
unfolding rows_in
loop-g-init c = spliced_none c.args.at c.args.area.now

pub loop-g-preserved : goal.loop-g-preserved
loop-g-preserved c = rows_turn c.args.links.now.links c.args.links.now.nearest c.loop-g.g c.loop-g.invariant (omega (arith, c.requires.1)) c.put_pair.ensures
