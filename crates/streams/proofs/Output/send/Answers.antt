-- `send` meets its contract. By whether all was written. Assumes nothing.
use mathlib.Core.Path.{refl}
use Rattle.streams.specs.Receipts.{unmoved}
use Rattle.streams.proofs.Answering.{sent_counted}
use Rattle.streams.proofs.Output.send.Goals as goal

pub returns-then-not-write_output : goal.returns-then-not-write_output
returns-then-not-write_output c = (c.give_up.ensures, unmoved _ _ refl)

pub returns : goal.returns
returns c = rw c.self.view_is at (sent_counted _ _ _ c.count_on.result (c.write_output.ensures c.if-not-write_output.false) c.count_on.ensures)
