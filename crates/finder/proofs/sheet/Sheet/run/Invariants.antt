-- `run` meets its contract. The loop keeps that the bytes so far lead on. Assumes nothing.
use Prim.Native.Nat.{◌-◌}
use lib.ListN.{length}
use Rattle.finder.proofs.Walking.{Ran}
use Rattle.finder.proofs.sheet.Sheet.run.Given as goal

abbrev pub invariant-loop-i : goal.invariant-loop-i
invariant-loop-i l = Ran l.self l.p l.piece l.from l.state l.cost l.i

abbrev pub decreases-loop-i : goal.decreases-loop-i
decreases-loop-i l = length l.piece - l.i
