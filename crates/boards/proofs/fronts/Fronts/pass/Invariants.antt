-- `pass` meets its contract. The loop keeps that the words of a byte passed have nothing in common. Assumes nothing.
use Prim.Native.Nat.{◌-◌}
use lib.ListN.{length}
use Rattle.boards.specs.Fronts.{Passed}
use Rattle.boards.proofs.fronts.Fronts.pass.Given as goal

abbrev pub invariant-loop-i : goal.invariant-loop-i
invariant-loop-i l = Passed l.self.words l.piece l.from l.i

abbrev pub decreases-loop-i : goal.decreases-loop-i
decreases-loop-i l = length l.piece - l.i
