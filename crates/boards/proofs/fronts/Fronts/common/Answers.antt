-- `common` meets its contract. Assumes nothing.
use Rattle.boards.specs.Fronts.{common_at}
use Rattle.boards.proofs.fronts.Fronts.common.Goals as goal

pub returns : goal.returns
unfolding common_at
returns c = cc
