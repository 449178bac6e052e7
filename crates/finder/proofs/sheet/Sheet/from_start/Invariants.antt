-- `from_start` meets its contract. The loop keeps that the bytes so far lead to state 0. Assumes nothing.
use Prim.Native.Nat.{◌-◌}
use lib.ListN.{length}
use Rattle.finder.proofs.Starting.{Started}
use Rattle.finder.proofs.sheet.Sheet.from_start.Given as goal

abbrev pub invariant-loop-i : goal.invariant-loop-i
invariant-loop-i l = Started l.self l.piece l.from l.failed l.i

abbrev pub decreases-loop-i : goal.decreases-loop-i
decreases-loop-i l = length l.piece - l.i
