-- `read_full` meets its contract. Each turn reads at least one byte. Assumes nothing.
use borrow.Author.Rules.{rules}
use Rattle.find.proofs.Stopping.{came_behind}
use Rattle.find.proofs.read_full.Goals as goal

pub loop-n-preserved : goal.loop-n-preserved
loop-n-preserved c =
    let v = c.loop-n.invariant in
    let r = c.in_ok-k.ensures in
    (search rules, search rules, came_behind _ _ _ _ _ v.0 v.2 r)
