-- `finder_prepare` meets its contract. Assumes nothing.
use borrow.Author.Rules.{rules}
use Rattle.desk.proofs.Limits.{prepare_answer_fits}
use Rattle.desk.proofs.finder_prepare.Goals as goal

pub signed-requires : goal.signed-requires
signed-requires c = search (c.prepare.ensures.answers, prepare_answer_fits, rules)
