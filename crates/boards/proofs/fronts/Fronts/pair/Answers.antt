-- `pair` meets its contract. Assumes nothing.
use Rattle.boards.specs.Fronts.{pair_at}
use Rattle.boards.proofs.fronts.Fronts.pair.Goals as goal

pub returns : goal.returns
unfolding pair_at
returns c = cc
