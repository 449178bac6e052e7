-- `take_turn` meets its contract. By whether state m has one arrow alone, to m again. Assumes nothing.
use mathlib.Core.Path.{sym, ◌∙◌}
use Rattle.words.proofs.Lists.{same_eq}
use Rattle.finder.proofs.Taking.{turned_by}
use Rattle.finder.proofs.sheet.Sheet.take_turn.Goals as goal

pub from_whole-requires : goal.from_whole-requires
from_whole-requires c =
    (rw (c.if-p-m.true, c.length-m.ensures.0) at c.requires, same_eq _ _ (sym c.has_own_arrow.ensures ∙ c.if-has_own_arrow.true))

pub returns : goal.returns
returns c =
    turned_by c.requires c.advance-led.result c.advance-led.ensures _ _ (rw c.length-m.ensures.0 at c.write_place-written.ensures)
