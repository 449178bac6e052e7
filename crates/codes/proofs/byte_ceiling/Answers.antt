-- `byte_ceiling` meets its contract. Assumes nothing.
use Rattle.std.proofs.Common.{rules, ◌≡◌, Err, length}
use mathlib.Core.Path.{sym, ap, ◌∙◌}
use native.Mathlib.Omega.{arith}
use Rattle.automaton.specs.Ceilings.{byte_ceiling}
use Rattle.automaton.proofs.Logarithm.{log2_bound}
use Rattle.codes.specs.Refusals.{Value}
use Rattle.codes.specs.Entry.{byte_answer}
use Rattle.codes.proofs.Refusals.{told_value, told_refused, code_bounds}
use Rattle.codes.proofs.byte_ceiling.Goals as goal

pub returns-in_err-check_code : goal.returns-in_err-check_code
unfolding byte_answer
returns-in_err-check_code c =
    let e : c.from_residual.result ≡ Err c.in_err-check_code.field-0.0 = search rules in
    told_refused _ _ _ _ e c.in_err-check_code.ensures

pub log2-arrows-requires : goal.log2-arrows-requires
log2-arrows-requires c = (code_bounds _ (sym c.in_ok-check_code.ensures)).0

pub overflow_add-arrows : goal.overflow_add-arrows
overflow_add-arrows c = omega (arith, c.log2-arrows.ensures, log2_bound (length c.args.code.now))

pub returns : goal.returns
unfolding byte_answer byte_ceiling
returns c =
    let least : c.min.result ≡ byte_ceiling c.args.code.now = rw (sym c.log2-arrows.ensures, sym c.different-bytes.ensures) c.min.ensures in
    ap Value least ∙ told_value _ _ c.in_ok-check_code.ensures
