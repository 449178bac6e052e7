-- `write_error` meets its contract: it makes the receipt. Assumes nothing.
use Rattle.streams.specs.Receipts.{make_heard}
use Rattle.streams.proofs.write_error.Goals as goal

pub returns : goal.returns
returns c = make_heard _
