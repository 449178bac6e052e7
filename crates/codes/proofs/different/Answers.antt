-- `different` meets its contract. The loop keeps the table and the number of the different bytes that it has read. Assumes nothing.
use Prim.Native.Nat.{◌<◌}
use native.Mathlib.Omega.{arith}
use Rattle.codes.proofs.Tally.{tally_start, tally_turn, tally_end}
use Rattle.codes.proofs.different.Goals as goal
use Rattle.codes.proofs.different.Goals.{then-not-seen-v, else-not-seen-v}

pub loop-byte-init : goal.loop-byte-init
loop-byte-init c = (omega arith, tally_start c.args.code.now)

pub loop-byte-preserved : goal.loop-byte-preserved
loop-byte-preserved c =
    let l = c.loop-byte in
    let fits : c.from-v.result < 256 = omega (arith, c.type_inv.code l.byte-index, c.from-v.ensures) in
    let turn = tally_turn c.args.code.now l.byte-index c.from-v.result l.n c.if-not-seen-v.n l.seen in
    elim c.if-not-seen-v.branch [
      | then-not-seen-v w ↦ (
        omega (arith, w.n-is, l.invariant.0),
        turn _ c.from-v.ensures w.if-not-seen-v.true w.n-is fits c.loop-byte-test.true l.invariant.1,
      )
      | else-not-seen-v w ↦ (
        omega (arith, w.n-is, l.invariant.0),
        turn _ c.from-v.ensures w.if-not-seen-v.false (omega (arith, w.n-is)) fits c.loop-byte-test.true l.invariant.1,
      )
    ]

pub returns : goal.returns
returns c = tally_end c.args.code.now c.loop-byte.byte-index _ _ c.loop-byte-test.false c.loop-byte.invariant.1
