-- `take_bytes` meets its contract. The loop keeps that the bytes taken and the hits written come before what is fed of the rest. Assumes nothing.
use Prim.Native.Nat.{◌-◌}
use lib.ListN.{length}
use Rattle.boards.proofs.Taking.{TakeLoop}
use Rattle.boards.proofs.piece.take_bytes.Given as goal

abbrev pub invariant-loop-i : goal.invariant-loop-i
invariant-loop-i l =
    TakeLoop l.codes.lengths.now l.codes.bytes.now l.tree l.links l.watch l.piece
    l.fronts l.initial.places l.places l.initial.numbers l.numbers l.g l.i l.k

abbrev pub decreases-loop-i : goal.decreases-loop-i
decreases-loop-i l = length l.piece - l.i
