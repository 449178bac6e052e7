-- `run` meets its contract. By whether the head could be read, and whether it is refused. Assumes nothing.
use mathlib.Core.Path.{refl}
use Rattle.sweep.proofs.Running.{ran_not, ran_swept}
use Rattle.sweep.proofs.run.Goals as goal

pub returns-in_err-head : goal.returns-in_err-head
returns-in_err-head c = ran_not _ _ c.from_residual.ensures.0 c.in_err-head.ensures c.requires.0 c.requires.1.unsent

pub returns : goal.returns
returns c = ran_swept (rw c.in_default.is at c.in_ok-head.ensures) c.requires.0 refl _ c.sweep_list.ensures c.requires.1
