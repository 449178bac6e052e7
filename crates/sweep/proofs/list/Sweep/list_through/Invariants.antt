-- `list_through` meets its contract: it is left only where the list ends, or where something failed. Assumes nothing.
use Prim.Native.Nat.{◌-◌, ◌^◌}
use Rattle.sweep.proofs.Listing.{ListedTo}
use Rattle.sweep.proofs.list.Sweep.list_through.Given as goal

abbrev pub invariant-loop-n : goal.invariant-loop-n
invariant-loop-n l = ListedTo l.board l.initial.self l.initial.input l.self l.input

abbrev pub decreases-loop-n : goal.decreases-loop-n
decreases-loop-n l = 2 ^ 64 - l.input
