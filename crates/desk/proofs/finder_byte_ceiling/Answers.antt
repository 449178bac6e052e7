-- `finder_byte_ceiling` meets its contract. Assumes nothing.
use borrow.Author.Rules.{rules}
use Rattle.desk.proofs.Limits.{byte_answer_fits}
use Rattle.desk.proofs.finder_byte_ceiling.Goals as goal

pub signed-requires : goal.signed-requires
signed-requires c = search (c.byte_ceiling.ensures, byte_answer_fits, rules)
