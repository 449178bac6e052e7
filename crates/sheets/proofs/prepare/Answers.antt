-- `prepare` meets its contract. Assumes nothing.
use mathlib.Core.Path.{◌≡◌, sym, ◌∙◌}
use Rattle.std.proofs.Common.{rules, Err}
use Rattle.runs.proofs.Refusals.{number_some}
use Rattle.codes.specs.Codes.{code_refusal}
use Rattle.codes.proofs.Refusals.{code_bounds}
use Rattle.sheets.proofs.Widths.{wide_width, two_bytes}
use Rattle.sheets.proofs.Entries.{numbered_by, says_code_refused, says_small, says_prepared}
use Rattle.sheets.proofs.prepare.Goals as goal

pub returns-in_err-check_code : goal.returns-in_err-check_code
returns-in_err-check_code c =
    let a = c.args in
    let e : c.from_residual.result ≡ Err c.in_err-check_code.field-0.0 = search rules in
    rw e (says_code_refused a.code.now a.buffer.now _ c.in_err-check_code.ensures (number_some c.in_err-check_code.field-0.0))

pub sheet_room-requires : goal.sheet_room-requires
sheet_room-requires c =
    let none : code_refusal c.args.code.now ≡ 0 = sym c.in_ok-check_code.ensures in
    (code_bounds _ none).1

pub returns-then-buffer-sheet_room : goal.returns-then-buffer-sheet_room
returns-then-buffer-sheet_room c =
    let a = c.args in
    says_small a.code.now a.buffer.now (sym c.in_ok-check_code.ensures) (rw c.sheet_room.ensures at c.if-buffer-sheet_room.true)

pub invariant_of-fill : goal.invariant_of-fill
invariant_of-fill c =
    record { numbered = numbered_by _ 1 (sym c.in_ok-check_code.ensures) (sym (sym c.number_width.ensures ∙ c.if-number_width-eq1.true)) }

pub returns-then-number_width-eq1 : goal.returns-then-number_width-eq1
returns-then-number_width-eq1 c =
    let a = c.args in
    says_prepared a.code.now a.buffer.now (sym c.in_ok-check_code.ensures)
    (rw c.sheet_room.ensures at c.if-buffer-sheet_room.false) c.fill-size.result c.fill-size.new.buffer c.fill-size.ensures

pub invariant_of-fill-else-number_width-eq1 : goal.invariant_of-fill-else-number_width-eq1
invariant_of-fill-else-number_width-eq1 c =
    record {
      numbered =
          numbered_by _ 2 (sym c.in_ok-check_code.ensures)
          (sym (wide_width _ (two_bytes _ (λ z. c.if-number_width-eq1.false (c.number_width.ensures ∙ z)))));
    }

pub returns-else-number_width-eq1 : goal.returns-else-number_width-eq1
returns-else-number_width-eq1 c =
    let a = c.args in
    says_prepared a.code.now a.buffer.now (sym c.in_ok-check_code.ensures)
    (rw c.sheet_room.ensures at c.if-buffer-sheet_room.false) c.fill-size-else-number_width-eq1.result c.fill-size-else-number_width-eq1.new.buffer c.fill-size-else-number_width-eq1.ensures
