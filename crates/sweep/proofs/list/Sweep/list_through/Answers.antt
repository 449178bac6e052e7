-- `list_through` meets its contract: it is left only where the list ends, or where something failed. Assumes nothing.
use borrow.Author.Rules.{rules}
use Rattle.sweep.proofs.Listing.{list_started, list_failed, list_ended, list_turned, fewer_to_list, list_stopped}
use Rattle.sweep.proofs.list.Sweep.list_through.Goals as goal

pub loop-n-init : goal.loop-n-init
loop-n-init c = list_started _ _ _

pub returns-in_err-n : goal.returns-in_err-n
returns-in_err-n c = list_failed c.loop-n.invariant _ c.from_residual.ensures.0 c.in_err-n.ensures

pub returns-then-n-eq0 : goal.returns-then-n-eq0
returns-then-n-eq0 c = list_ended c.loop-n.invariant c.in_ok-n.ensures c.if-n-eq0.true (search rules)

pub returns-in_err-list_bytes : goal.returns-in_err-list_bytes
returns-in_err-list_bytes c =
    list_stopped c.loop-n.invariant c.in_ok-n.ensures _ c.from_residual-in_err-list_bytes.ensures.0 c.in_err-list_bytes.ensures

pub loop-n-preserved : goal.loop-n-preserved
loop-n-preserved c = list_turned c.loop-n.invariant c.in_ok-n.ensures c.in_ok-list_bytes.ensures

pub loop-n-smaller : goal.loop-n-smaller
loop-n-smaller c = fewer_to_list c.loop-n.invariant c.in_ok-n.ensures c.if-n-eq0.false
