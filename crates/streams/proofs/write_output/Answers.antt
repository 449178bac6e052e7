-- `write_output` meets its contract: it makes the receipts. Assumes nothing.
use Rattle.streams.specs.Receipts.{make_sent}
use Rattle.streams.proofs.write_output.Goals as goal

pub returns : goal.returns
returns c = λ e i h. make_sent _ _
