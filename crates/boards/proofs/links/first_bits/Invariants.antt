-- `first_bits` meets its contract. The loop keeps that the bits passed are set. Assumes nothing.
use Prim.Native.Nat.{◌-◌, ◌≤◌}
use Rattle.boards.specs.Tables.{FirstBits}
use Rattle.boards.proofs.links.first_bits.Given as goal

abbrev pub invariant-loop-j : goal.invariant-loop-j
invariant-loop-j l = (l.j ≤ l.k) × FirstBits l.j l.bits

abbrev pub decreases-loop-j : goal.decreases-loop-j
decreases-loop-j l = l.k - l.j
