-- `word` meets its contract. Assumes nothing.
use Rattle.boards.specs.Fronts.{word_at}
use Rattle.boards.proofs.fronts.Fronts.word.Goals as goal

pub returns : goal.returns
unfolding word_at
returns c = cc
