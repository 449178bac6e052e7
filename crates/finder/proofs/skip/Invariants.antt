-- `skip` meets its contract. The loop keeps that no byte passed is the one looked for. Assumes nothing.
use mathlib.Core.Path.{◌≡◌}
use Prim.Native.Nat.{◌≤◌}
use lib.ListN.{length, drop}
use Rattle.finder.specs.Inside.{Other, Passed}
use Rattle.finder.proofs.skip.Given as goal

abbrev pub invariant-loop-rest : goal.invariant-loop-rest
invariant-loop-rest l = Passed (Other l.piece l.byte) l.from l.i × (l.i ≤ length l.piece) × (l.rest ≡ drop l.i l.piece)

abbrev pub decreases-loop-rest : goal.decreases-loop-rest
decreases-loop-rest l = length l.rest
