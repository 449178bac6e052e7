-- `read_head` meets its contract. By what each line is. Assumes nothing.
use Prim.Native.Nat.{◌-◌, ◌^◌}
use Rattle.sweep.proofs.Heading.{CodesCame}
use Rattle.sweep.proofs.head.read_head.Given as goal

abbrev pub invariant-loop-n : goal.invariant-loop-n
invariant-loop-n l = CodesCame l.initial.input l.list l.input

abbrev pub decreases-loop-n : goal.decreases-loop-n
decreases-loop-n l = 2 ^ 64 - l.input
