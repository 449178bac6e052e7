-- `take_bytes` meets its contract. The loop keeps that the bytes taken and the places written come before what is fed of the rest. Assumes nothing.
use Prim.Native.Nat.{◌-◌}
use lib.ListN.{length}
use Rattle.finder.proofs.Taking.{Loop}
use Rattle.finder.proofs.sheet.Sheet.take_bytes.Given as goal

abbrev pub invariant-loop-i : goal.invariant-loop-i
invariant-loop-i l = Loop l.self l.watch l.piece l.initial.places l.state l.cost l.i l.k l.places

abbrev pub decreases-loop-i : goal.decreases-loop-i
decreases-loop-i l = length l.piece - l.i
