-- `send_gathered` meets its contract. Assumes nothing.
use Rattle.sweep.proofs.Saying.{gathered_sent}
use Rattle.sweep.proofs.says.Printer.send_gathered.Goals as goal

pub returns : goal.returns
returns c = (rw (c.clear.ensures) (gathered_sent _ _ (rw c.bytes.ensures at c.send-sent.ensures)), c.clear.ensures)
