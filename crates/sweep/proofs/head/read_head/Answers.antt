-- `read_head` meets its contract. By what each line is. Assumes nothing.
use Rattle.sweep.proofs.Heading.{codes_none, codes_more, head_came, head_other, head_failed, fewer_to_come}
use Rattle.sweep.proofs.head.read_head.Goals as goal

pub loop-n-init : goal.loop-n-init
loop-n-init c = codes_none _ c.new-list.ensures

pub loop-n-smaller : goal.loop-n-smaller
loop-n-smaller c = fewer_to_come (rw c.in-Coded.is at c.in_ok-n.ensures)

pub loop-n-preserved : goal.loop-n-preserved
loop-n-preserved c = codes_more c.loop-n.invariant (rw c.in-Coded.is at c.in_ok-n.ensures) c.add_code.ensures

pub returns-in-Empty : goal.returns-in-Empty
returns-in-Empty c = head_came c.loop-n.invariant (rw c.in-Empty.is at c.in_ok-n.ensures) c.prepare_codes.ensures

pub returns-in-Other : goal.returns-in-Other
returns-in-Other c = head_other c.loop-n.invariant (rw c.in-Other.is at c.in_ok-n.ensures)

pub returns-in_err-n : goal.returns-in_err-n
returns-in_err-n c = head_failed c.loop-n.invariant _ _ c.from_residual.ensures.0 c.in_err-n.ensures
