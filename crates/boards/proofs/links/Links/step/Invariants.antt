-- `step` meets its contract. The loop keeps that from the start of g the same is reached. Assumes nothing.
use Prim.Native.Nat.{◌+◌, ◌*◌}
use lib.ListN.{get_or}
use Rattle.boards.specs.Tables.{ToldLinks}
use Rattle.boards.proofs.Linking.{Way}
use Rattle.boards.proofs.links.Links.step.Given as goal

abbrev pub invariant-loop-from : goal.invariant-loop-from
invariant-loop-from l = ToldLinks l.tree l.self.links l.from (λ ws u. Way ws u l.byte l.g)

abbrev pub decreases-loop-from : goal.decreases-loop-from
decreases-loop-from l = get_or l.self.links (2 * l.g + 1) 0
