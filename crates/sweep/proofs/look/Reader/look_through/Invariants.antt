-- `look_through` meets its contract. Assumes nothing.
use Prim.Native.Nat.{◌-◌, ◌^◌}
use Rattle.sweep.specs.Disk.{came_of, IsOpen}
use Rattle.sweep.proofs.Looks.{LookedTo}
use Rattle.sweep.proofs.look.Reader.look_through.Given as goal

abbrev pub invariant-loop-n : goal.invariant-loop-n
invariant-loop-n l = LookedTo l.board l.file l.initial.watch l.initial.self l.watch l.self × IsOpen l.self.disk

abbrev pub decreases-loop-n : goal.decreases-loop-n
decreases-loop-n l = 2 ^ 64 - came_of l.self.disk
