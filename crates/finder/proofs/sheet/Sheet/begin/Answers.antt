-- `begin` meets its contract. By the state. Assumes nothing.
use mathlib.Core.Path.{sym, ◌∙◌}
use Rattle.finder.proofs.Walking.{begun_step, begun_none}
use Rattle.finder.proofs.sheet.Sheet.begin.Goals as goal

pub returns-then-p-length : goal.returns-then-p-length
returns-then-p-length c =
    let few = rw c.length.ensures.0 at c.length.ensures.2 in rw c.from.ensures (begun_step c.requires few c.follow-s.result c.follow-s.ensures)

pub returns : goal.returns
returns c = begun_none c.requires c.if-p-eq0.false (λ e. c.if-p-length.false (e ∙ sym c.length.ensures.0))
