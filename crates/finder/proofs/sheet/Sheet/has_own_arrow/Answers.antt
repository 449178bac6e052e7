-- `has_own_arrow` meets its contract. By the number of the state's arrows. Assumes nothing.
use mathlib.Core.Path.{◌∙◌}
use native.Mathlib.Nat.{le_refl}
use borrow.Author.Tests.{ne_eqb}
use Rattle.finder.proofs.Comparing.{state_rise}
use Rattle.finder.proofs.Repeating.{own_not, own_by}
use Rattle.finder.proofs.sheet.Sheet.has_own_arrow.Goals as goal

-- the state's targets: where they start and end
pub overflow_sub-targets_below : goal.overflow_sub-targets_below
overflow_sub-targets_below c =
    let m = c.length-m.ensures.0 in
    (state_rise _ _ (le_refl _) _ _ (rw m at c.targets_below-start.ensures.0) (rw m at c.targets_below.ensures.0)).0

pub returns-then-targets_below-start-eq1 : goal.returns-then-targets_below-start-eq1
returns-then-targets_below-start-eq1 c =
    let m = c.length-m.ensures.0 in
    rw m
    (own_by _ _ _ (rw m at c.targets_below-start.ensures.0) (rw m at c.targets_below.ensures.0) c.if-targets_below-start-eq1.true _
    c.target.ensures.0)

pub returns-else-targets_below-start-eq1 : goal.returns-else-targets_below-start-eq1
returns-else-targets_below-start-eq1 c =
    let m = c.length-m.ensures.0 in
    let n = c.if-targets_below-start-eq1.false in
    ne_eqb _ _ n ∙ own_not _ _ _ (rw m at c.targets_below-start.ensures.0) (rw m at c.targets_below.ensures.0) n
