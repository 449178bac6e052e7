-- `follow` meets its contract. By whether a backward label is the byte. Assumes nothing.
use mathlib.Core.Path.{sym, ◌∙◌}
use native.Mathlib.Omega.{arith}
use Rattle.finder.proofs.Comparing.{state_rise, compared_none, compared_at}
use Rattle.finder.proofs.sheet.Sheet.follow.Goals as goal

pub backward-requires : goal.backward-requires
backward-requires c = state_rise _ _ c.requires.1 _ _ c.targets_below-start.ensures.0 c.targets_below-end.ensures.0

pub target-t-requires : goal.target-t-requires
target-t-requires c =
    let r = state_rise _ _ c.requires.1 _ _ c.targets_below-start.ensures.0 c.targets_below-end.ensures.0 in
    omega (arith, c.in-Some.ensures.1, r.1)

pub returns-in-Some : goal.returns-in-Some
returns-in-Some c =
    sym
    (compared_at _ _ c.requires.1 _ _ c.targets_below-start.ensures.0 c.targets_below-end.ensures.0 _ _ c.target-t.result c.in-Some.ensures
    c.target-t.ensures.0)

pub returns : goal.returns
returns c =
    c.forward_step.ensures
    ∙ sym (compared_none _ _ c.requires.1 _ _ c.targets_below-start.ensures.0 c.targets_below-end.ensures.0 _ (rw c.in_default.is at c.backward.ensures))
