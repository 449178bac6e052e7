-- `of` meets its contract. The loop keeps that the lengths passed stand in front. Assumes nothing.
use lib.ListN.{take}
use Rattle.boards.specs.Written.{Spliced}
use Rattle.boards.proofs.joining.List.of.Given as goal

abbrev pub invariant-loop-i : goal.invariant-loop-i
invariant-loop-i l = Spliced 0 (take l.i l.codes.lengths.now) l.initial.lengths l.lengths
