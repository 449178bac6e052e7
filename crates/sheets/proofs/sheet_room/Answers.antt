-- `sheet_room` meets its contract. On a short sheet or on a wide one. Assumes nothing.
use mathlib.Core.Path.{sym, ◌∙◌}
use Rattle.sheets.proofs.Widths.{short_room_is, wide_room_is, one_byte, two_bytes}
use Rattle.sheets.proofs.sheet_room.Goals as goal

pub returns-then-number_width-eq1 : goal.returns-then-number_width-eq1
returns-then-number_width-eq1 c = sym (short_room_is _ (one_byte _ (sym c.number_width.ensures ∙ c.if-number_width-eq1.true)))

pub returns-else-number_width-eq1 : goal.returns-else-number_width-eq1
returns-else-number_width-eq1 c = sym (wide_room_is _ (two_bytes _ (λ e. c.if-number_width-eq1.false (c.number_width.ensures ∙ e))))
