-- `put_lengths` meets its contract. The loop keeps that the lengths passed are written. Assumes nothing.
use lib.ListN.{take}
use Rattle.sheets.specs.Sheet.{numbers}
use Rattle.boards.specs.Written.{Spliced}
use Rattle.boards.proofs.layout.put_lengths.Given as goal

abbrev pub invariant-loop-i : goal.invariant-loop-i
invariant-loop-i l = Spliced l.at (numbers 2 (take l.i l.lengths)) l.initial.area l.area
