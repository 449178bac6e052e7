-- `check_code` meets its contract. Assumes nothing.
use Rattle.std.proofs.Common.{rules, ◌≡◌, Err}
use mathlib.Core.Path.{sym, ap, ◌∙◌}
use Rattle.runs.specs.Refusals.{refusal_of}
use Rattle.codes.proofs.Refusals.{code_length, code_control, code_good}
use Rattle.codes.proofs.check_code.Goals as goal

pub returns-in_err-check_length : goal.returns-in_err-check_length
returns-in_err-check_length c =
    let e : c.from_residual.result ≡ Err c.in_err-check_length.field-0.0 = search rules in
    ap refusal_of e ∙ code_length _ _ c.in_err-check_length.ensures

pub returns-then-has_control : goal.returns-then-has_control
returns-then-has_control c = sym (code_control _ (sym c.in_ok-check_length.ensures) (sym c.if-has_control.ensures))

pub returns : goal.returns
returns c = sym (code_good _ (sym c.in_ok-check_length.ensures) (sym c.if-has_control.ensures))
