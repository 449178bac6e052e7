-- `code_start` meets its contract. Assumes nothing.
use mathlib.Core.Path.{sym, ◌∙◌}
use native.Mathlib.Omega.{arith}
use Rattle.sheets.proofs.Widths.{short_start, wide_start, one_byte, two_bytes}
use Rattle.sheets.proofs.code_start.Goals as goal

pub returns-then-number_width-eq1 : goal.returns-then-number_width-eq1
returns-then-number_width-eq1 c = (sym (short_start _ (one_byte _ (sym c.number_width.ensures ∙ c.if-number_width-eq1.true))), omega arith)

pub returns-else-number_width-eq1 : goal.returns-else-number_width-eq1
returns-else-number_width-eq1 c = (sym (wide_start _ (two_bytes _ (λ e. c.if-number_width-eq1.false (c.number_width.ensures ∙ e)))), omega arith)
