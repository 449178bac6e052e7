-- `finder_total_ceiling` meets its contract. Assumes nothing.
use borrow.Author.Rules.{rules}
use Rattle.desk.proofs.Limits.{total_answer_fits}
use Rattle.desk.proofs.finder_total_ceiling.Goals as goal

pub signed-requires : goal.signed-requires
signed-requires c = search (c.total_ceiling.ensures, total_answer_fits, rules)
