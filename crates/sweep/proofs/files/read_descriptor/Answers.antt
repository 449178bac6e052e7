-- `read_descriptor` meets its contract: it makes the receipts. Assumes nothing.
use borrow.Author.Rules.{rules}
use Rattle.sweep.specs.Files.{make_held, make_over, make_missed}
use Rattle.sweep.proofs.Filing.{descriptor_read}
use Rattle.sweep.proofs.files.read_descriptor.Goals as goal

pub returns : goal.returns
returns c = rw c.ok.ensures.value (descriptor_read c.read.result (search rules) (make_held _) (make_over _) (make_missed _))
