-- `count_place` meets its contract. On a short sheet or on a wide one. Assumes nothing.
use mathlib.Core.Path.{sym, ◌∙◌}
use Rattle.sheets.proofs.Widths.{short_count, wide_count, one_byte, two_bytes}
use Rattle.sheets.proofs.filling.Draft.count_place.Goals as goal

pub returns-then-this-eq1 : goal.returns-then-this-eq1
returns-then-this-eq1 g c = sym (short_count _ (one_byte _ (sym c.args.self.numbered.width_is ∙ c.if-this-eq1.true)) _)

pub returns-else-this-eq1 : goal.returns-else-this-eq1
returns-else-this-eq1 g c = sym (wide_count _ (two_bytes _ (λ e. c.if-this-eq1.false (c.args.self.numbered.width_is ∙ e))) _)
