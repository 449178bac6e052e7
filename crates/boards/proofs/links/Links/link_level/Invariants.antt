-- `link_level` meets its contract. The loop keeps which codes are left, and what is told of the others. Assumes nothing.
use Rattle.boards.proofs.Levels.{Linking}
use Rattle.boards.proofs.links.Links.link_level.Given as goal

abbrev pub invariant-loop-left : goal.invariant-loop-left
invariant-loop-left l = Linking l.codes.lengths.now l.codes.bytes.now l.starts l.tree l.self l.at l.left l.rest l.depth

abbrev pub decreases-loop-left : goal.decreases-loop-left
decreases-loop-left l = l.left
