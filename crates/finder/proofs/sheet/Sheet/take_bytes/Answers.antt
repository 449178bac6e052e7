-- `take_bytes` meets its contract. The loop keeps that the bytes taken and the places written come before what is fed of the rest. Assumes nothing.
use native.Mathlib.Omega.{arith}
use Rattle.finder.proofs.Taking.{loop_start, answer_done, answer_full, turning, turn_on}
use Rattle.finder.proofs.sheet.Sheet.take_bytes.Goals as goal
use Rattle.finder.proofs.sheet.Sheet.take_bytes.Goals.{then-loop-i-test+else-k-places, else-loop-i-test, then-i-piece, else-i-piece}

pub loop-i-init : goal.loop-i-init
loop-i-init c = loop_start c.requires

pub take_turn-t-requires : goal.take_turn-t-requires
take_turn-t-requires c = turning c.loop-i.invariant c.loop-i-test.true c.if-k-places.true

pub loop-i-preserved : goal.loop-i-preserved
loop-i-preserved c = turn_on c.loop-i.invariant c.take_turn-t.result _ c.take_turn-t.ensures

pub returns : goal.returns
returns c =
    let t = c.loop-i.invariant in
    elim c.if-i-piece.branch [
      | then-i-piece v ↦
          answer_full t c.if-i-piece.ending v.ending-is v.if-i-piece.true
          (elim c.loop-i-test.branch [
            | then-loop-i-test+else-k-places u ↦ u.if-k-places.false
            | else-loop-i-test u ↦ absurd (omega (arith, v.if-i-piece.true, u.loop-i-test.false))
          ])
      | else-i-piece v ↦ answer_done t c.if-i-piece.ending v.ending-is v.if-i-piece.false
    ]
