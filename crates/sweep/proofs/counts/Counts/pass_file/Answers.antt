-- `pass_file` meets its contract. By whether its counts fit. Assumes nothing.
use mathlib.Core.Path.{refl}
use Rattle.sweep.proofs.Sweeping.{passed_not}
use Rattle.sweep.proofs.counts.Counts.pass_file.Goals as goal

pub returns-in_err-self : goal.returns-in_err-self
returns-in_err-self c = passed_not _ c.from_residual.ensures.0 c.in_err-self.ensures refl

pub returns-in_err-self-2 : goal.returns-in_err-self-2
returns-in_err-self-2 c = passed_not _ c.from_residual-in_err-self-2.ensures.0 c.in_err-self-2.ensures refl
