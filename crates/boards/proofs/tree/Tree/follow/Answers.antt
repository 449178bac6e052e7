-- `follow` meets its contract. The loop keeps that the bytes passed are a start, and its state. Assumes nothing.
use mathlib.Core.Path.{refl, sym}
use native.Mathlib.Omega.{arith}
use Rattle.boards.proofs.Trees.{going_start, going_more, going_stop, going_end}
use Rattle.boards.proofs.tree.Tree.follow.Goals as goal

pub loop-d-init : goal.loop-d-init
loop-d-init c = λ ws t. going_start ws _

pub returns-then-h-eq0 : goal.returns-then-h-eq0
returns-then-h-eq0 c ws t =
    let x = c.loop-d.invariant ws t in
    going_stop x _ c.child-h.result (omega arith) refl (c.child-h.ensures ws _ t x.known_is (sym x.state_is)) c.if-h-eq0.true

pub loop-d-preserved : goal.loop-d-preserved
loop-d-preserved c =
    λ ws t.
    let x = c.loop-d.invariant ws t in
    going_more x _ c.child-h.result (omega arith) refl (c.child-h.ensures ws _ t x.known_is (sym x.state_is)) c.if-h-eq0.false

pub returns : goal.returns
returns c ws t = going_end (c.loop-d.invariant ws t) _ refl (omega arith) (omega arith)
