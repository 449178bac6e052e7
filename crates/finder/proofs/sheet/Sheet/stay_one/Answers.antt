-- `stay_one` meets its contract. By whether state 1 has a backward arrow. Assumes nothing.
use mathlib.Core.Path.{sym, ◌∙◌}
use Rattle.finder.proofs.Starting.{stayed_none, stayed_on}
use Rattle.finder.proofs.sheet.Sheet.stay_one.Goals as goal

pub returns-then-back-eq0 : goal.returns-then-back-eq0
returns-then-back-eq0 c =
    let a = c.args in
    stayed_none a.self.now a.piece.now a.from c.requires.2 (sym c.requires.1 ∙ c.if-back-eq0.true)

pub returns : goal.returns
returns c =
    let a = c.args in
    stayed_on a.self.now a.piece.now a.from c.requires.2 (λ z. c.if-back-eq0.false (c.requires.1 ∙ z)) _
    (rw c.label.ensures at c.stay.ensures)
