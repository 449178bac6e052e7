-- `put_bytes` meets its contract. The loop keeps that the bytes passed are written. Assumes nothing.
use lib.ListN.{take}
use Rattle.boards.specs.Written.{Spliced}
use Rattle.boards.proofs.layout.put_bytes.Given as goal

abbrev pub invariant-loop-i : goal.invariant-loop-i
invariant-loop-i l = Spliced l.at (take l.i l.bytes) l.initial.area l.area
