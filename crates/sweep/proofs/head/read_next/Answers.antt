-- `read_next` meets its contract. By what the read brought. Assumes nothing.
use Rattle.sweep.proofs.Lines.{next_ended}
use Rattle.sweep.proofs.head.read_next.Goals as goal

pub returns-then-n-eq0 : goal.returns-then-n-eq0
returns-then-n-eq0 c = next_ended c.in_ok-n.ensures c.if-n-eq0.true
