-- `write_hits` meets its contract. The loop keeps that some hits are written and the chain of codes from a number on is left. Assumes nothing.
use Prim.Native.Nat.{◌+◌, ◌-◌}
use lib.ListN.{length}
use Rattle.boards.proofs.Hitting.{HitsLoop}
use Rattle.boards.proofs.piece.write_hits.Given as goal

abbrev pub invariant-loop-number : goal.invariant-loop-number
invariant-loop-number l =
    HitsLoop l.lengths l.shorter l.o l.taken l.k l.initial.places l.places l.initial.numbers l.numbers l.at l.number

abbrev pub decreases-loop-number : goal.decreases-loop-number
decreases-loop-number l = l.k + length l.lengths - l.at
