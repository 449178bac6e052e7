-- `read_input` meets its contract: it makes the receipts. Assumes nothing.
use Rattle.streams.specs.Receipts.{make_came, make_ended}
use Rattle.streams.proofs.Answering.{answered}
use Rattle.streams.proofs.read_input.Goals as goal

pub returns : goal.returns
returns c = rw c.ok.ensures.value (answered _ c.read.result _ c.read.ensures.bound make_came make_ended)
