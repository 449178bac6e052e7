-- `read_full` meets its contract. Each turn reads at least one byte. Assumes nothing.
use mathlib.Core.Path.{◌≡◌}
use Prim.Native.Nat.{◌-◌, ◌≤◌}
use lib.ListN.{length, take}
use Rattle.streams.specs.Receipts.{Came, Moved}
use Rattle.find.proofs.read_full.Given as goal

abbrev pub invariant-loop-n : goal.invariant-loop-n
invariant-loop-n l =
    (l.n ≤ length l.buffer) × (length l.buffer ≡ length l.initial.buffer) × Moved Came l.initial.input l.input (take l.n l.buffer)

abbrev pub decreases-loop-n : goal.decreases-loop-n
decreases-loop-n l = length l.buffer - l.n
