-- `link_levels` meets its contract. The loop keeps that the links of the starts of at most `depth` bytes are there. Assumes nothing.
use Prim.Native.Nat.{◌-◌}
use Rattle.boards.proofs.Levels.{Climbing}
use Rattle.boards.proofs.links.Links.link_levels.Given as goal

abbrev pub invariant-loop-live : goal.invariant-loop-live
invariant-loop-live l = Climbing l.codes.lengths.now l.codes.bytes.now l.starts l.tree l.self l.at l.live l.depth

abbrev pub decreases-loop-live : goal.decreases-loop-live
decreases-loop-live l = 2001 - l.depth
