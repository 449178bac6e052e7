-- `is_fresh` meets its contract. By the width of the code's numbers. Assumes nothing.
use mathlib.Core.Path.{sym, ◌∙◌}
use lib.Dec.{lit≤}
use Rattle.codes.proofs.Refusals.{code_bounds}
use Rattle.sheets.proofs.Widths.{short_width, wide_width, one_byte, two_bytes, short_room, room_most}
use Rattle.sheets.proofs.Entries.{numbered_by}
use Rattle.sheets.proofs.is_fresh.Goals as goal

pub invariant_of-begins : goal.invariant_of-begins
invariant_of-begins c =
    let short = one_byte _ (sym c.number_width.ensures ∙ c.if-number_width-eq1.true) in
    record { numbered = numbered_by _ 1 c.requires (sym (short_width _ short)) }

pub begins-requires : goal.begins-requires
begins-requires c =
    let short = one_byte _ (sym c.number_width.ensures ∙ c.if-number_width-eq1.true) in
    (lit≤ tt, (short_room _ short, lit≤ tt))

pub invariant_of-begins-2 : goal.invariant_of-begins-2
invariant_of-begins-2 c =
    let wide = two_bytes _ (λ e. c.if-number_width-eq1.false (c.number_width.ensures ∙ e)) in
    record { numbered = numbered_by _ 2 c.requires (sym (wide_width _ wide)) }

pub begins-requires-2 : goal.begins-requires-2
begins-requires-2 c = (lit≤ tt, (room_most _ (code_bounds _ c.requires).1, lit≤ tt))
