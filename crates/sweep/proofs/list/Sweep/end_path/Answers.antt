-- `end_path` meets its contract. By whether one more file can be counted, and its look came to its end. Assumes nothing.
use mathlib.Core.Path.{refl, ◌∙◌}
use native.Mathlib.Numerals.{add-one}
use Rattle.sweep.proofs.Sweeping.{stopped_listed, path_stopped, path_passed}
use Rattle.sweep.proofs.list.Sweep.end_path.Goals as goal

pub returns-in_err-self : goal.returns-in_err-self
returns-in_err-self c = stopped_listed _ _ _ _ c.from_residual.ensures.0 c.in_err-self.ensures

pub returns-in_err-end : goal.returns-in_err-end
returns-in_err-end c =
    path_stopped _ c.from_residual-in_err-end.ensures.0 (rw (c.bytes.ensures, c.open-watch.ensures) at c.in_err-end.ensures) refl

pub returns : goal.returns
returns c =
    path_passed (rw (c.bytes.ensures, c.open-watch.ensures) at c.in_ok-end.ensures) (c.in_ok-self.ensures ∙ add-one _) refl refl refl _ c.clear.ensures
    c.pass_file.ensures
