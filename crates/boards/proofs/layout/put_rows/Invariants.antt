-- `put_rows` meets its contract. The loop keeps that the rows of the states passed are written. Assumes nothing.
use Rattle.boards.specs.Written.{Spliced, rows_in}
use Rattle.boards.proofs.layout.put_rows.Given as goal

abbrev pub invariant-loop-g : goal.invariant-loop-g
invariant-loop-g l = Spliced l.at (rows_in l.links.links l.links.nearest l.g) l.initial.area l.area
