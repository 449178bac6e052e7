-- `is_fit` meets its contract. Assumes nothing.
use Rattle.std.proofs.Common.{arith}
use Rattle.std.proofs.lemmas.Grind.{common_steps}
use Rattle.std.proofs.lemmas.Bool.Decides.{nat_tests}
use Rattle.finder.specs.Feed.{fit}
use Rattle.finder.proofs.Watch.is_fit.Goals as goal

pub returns-then-self-2 : goal.returns-then-self-2
unfolding fit
returns-then-self-2 c = grind (arith, nat_tests, common_steps)

pub returns-else-self-2 : goal.returns-else-self-2
unfolding fit
returns-else-self-2 c = grind (arith, nat_tests, common_steps)
