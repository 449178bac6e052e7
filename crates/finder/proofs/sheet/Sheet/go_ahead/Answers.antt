-- `go_ahead` meets its contract. The loop keeps where forward arrows have led, and at which number the next state's targets start. Assumes nothing.
use mathlib.Core.Path.{◌≡◌, sym, ◌∙◌}
use native.Mathlib.Omega.{arith}
use Rattle.finder.proofs.Forwards.{forwards_none, forwards_rise, forwards_back, forwards_nothing, forwards_next, forwards_end}
use Rattle.finder.proofs.sheet.Sheet.go_ahead.Goals as goal

pub loop-j-init : goal.loop-j-init
loop-j-init c =
    let q = c.requires in forwards_none c.targets_below-start.ensures.2 q.0 q.2 _ _ c.targets_below-start.ensures.0 (rw c.length.ensures.0 at c.min-count.ensures)

pub backward-requires : goal.backward-requires
backward-requires c =
    let r = forwards_rise c.loop-j.invariant c.loop-j-test.true _ c.targets_below-end.ensures.0 in (r.0, r.1)

pub target-requires : goal.target-requires
target-requires c =
    let r = forwards_rise c.loop-j.invariant c.loop-j-test.true _ c.targets_below-end.ensures.0 in omega (arith, c.in-Some.ensures.1, r.1)

pub returns-in-Some : goal.returns-in-Some
returns-in-Some c =
    forwards_back c.loop-j.invariant c.loop-j-test.true _ c.targets_below-end.ensures.0 _ c.in-Some.ensures _ c.target.ensures.0

pub returns-then-label-byte : goal.returns-then-label-byte
returns-then-label-byte c =
    forwards_nothing c.loop-j.invariant c.loop-j-test.true _ c.targets_below-end.ensures.0 (rw c.in_default.is at c.backward.ensures)
    (λ e. c.if-label-byte.true (c.label.ensures ∙ e))

pub loop-j-preserved : goal.loop-j-preserved
loop-j-preserved c =
    forwards_next c.loop-j.invariant c.loop-j-test.true _ c.targets_below-end.ensures.0 (rw c.in_default.is at c.backward.ensures)
    (sym c.label.ensures ∙ c.if-label-byte.false)

pub returns : goal.returns
returns c =
    let all : c.loop-j.j ≡ c.min-count.result = omega (arith, c.loop-j.invariant.fewer) in
    rw all at (forwards_end c.loop-j.invariant c.loop-j-test.false)
