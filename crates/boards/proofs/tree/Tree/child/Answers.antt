-- `child` meets its contract: by the byte behind the start, by the codes that branch off, and by neither. Assumes nothing.
use mathlib.Core.Path.{sym, ◌∙◌}
use native.Mathlib.Omega.{arith}
use Rattle.boards.proofs.Trees.{tree_inside, child_next, child_head, child_no_other}
use Rattle.boards.proofs.tree.Tree.child.Goals as goal

pub offset_bounds-self-g : goal.offset_bounds-self-g
offset_bounds-self-g c = omega (arith, tree_inside _ _ c.requires)

pub bounds-self-g : goal.bounds-self-g
bounds-self-g c = omega (arith, tree_inside _ _ c.requires)

pub overflow_add-result : goal.overflow_add-result
overflow_add-result c = omega (arith, tree_inside _ _ c.requires)

pub returns-then-from-c : goal.returns-then-from-c
returns-then-from-c c ws u t k at =
    child_next ws _ u _ c.args.byte t k at (omega (arith, c.ranges.byte.fits)) (sym c.from.ensures ∙ c.if-from-c.true ∙ c.from-c.ensures)

pub offset_bounds-self-g-2 : goal.offset_bounds-self-g-2
offset_bounds-self-g-2 c = omega (arith, tree_inside _ _ c.requires)

pub bounds-self-g-2 : goal.bounds-self-g-2
bounds-self-g-2 c = omega (arith, tree_inside _ _ c.requires)

pub returns-then-both-eq0 : goal.returns-then-both-eq0
returns-then-both-eq0 c ws u t k at =
    rw c.from-c.ensures at
    (child_no_other ws _ u _ c.from-c.result t k at (λ e. c.if-from-c.false (c.from.ensures ∙ e)) c.if-both-eq0.true)

pub returns : goal.returns
returns c ws u t k at =
    c.from-2.ensures
    ∙ rw c.from-c.ensures at (child_head ws _ u _ c.from-c.result t k at c.top.result c.if-both-eq0.false c.top.ensures)
