-- `from_whole` meets its contract. By whether a byte was found that leads to 0. Assumes nothing.
use mathlib.Core.Path.{refl}
use native.Mathlib.Omega.{arith}
use Rattle.finder.proofs.Repeating.{turned_row, turned_left}
use Rattle.finder.proofs.sheet.Sheet.from_whole.Goals as goal

-- THE TURN, from what `repeat` has written
pub returns-then-n-count : goal.returns-then-n-count
returns-then-n-count c =
    let q = c.requires.0 in
    let least = c.min-count.ensures in
    let m = c.length-m.ensures in
    turned_left _ _ c.requires.1 (rw m.0 at m.1) _ _ _ _ _ _ _ (rw (c.label.ensures, m.0) at c.repeat-n.ensures)
    (omega (arith, least, q.inside)) (omega (arith, least, q.room)) q.reached refl c.if-n-count.true

pub returns : goal.returns
returns c =
    let q = c.requires.0 in
    let least = c.min-count.ensures in
    let m = c.length-m.ensures in
    rw m.0
    (turned_row _ _ c.requires.1 (rw m.0 at m.1) _ _ _ _ _ _ _ (rw (c.label.ensures, m.0) at c.repeat-n.ensures)
    (omega (arith, least, q.inside)) (omega (arith, least, q.room)) q.reached refl (omega (arith, least, q.inside, q.room, c.if-n-count.false)))
