-- `signed` meets its contract. Assumes nothing.
use mathlib.Core.Path.{sym, ap, ◌∙◌}
use native.Mathlib.Omega.{arith}
use Rattle.codes.specs.Refusals.{Refused, told}
use Rattle.desk.proofs.Signs.{value_signed, refusal_signed}
use Rattle.desk.proofs.signed.Goals as goal

pub returns-in-Ok : goal.returns-in-Ok
returns-in-Ok c = value_signed _ _ (ap told c.in-Ok.is) c.requires

pub returns-in-Err : goal.returns-in-Err
returns-in-Err c = refusal_signed _ c.number.result c.from.result (ap told c.in-Err.is ∙ ap Refused (sym c.number.ensures)) (omega arith) c.from.ensures
