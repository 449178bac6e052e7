-- `take_bytes` meets its contract. The loop keeps that the bytes taken and the hits written come before what is fed of the rest. Assumes nothing.
use Prim.Native.Nat.{◌+◌, ◌≤◌, min}
use mathlib.Core.Path.{ap}
use native.Mathlib.Omega.{arith}
use lib.ListN.{length}
use Rattle.runs.specs.Answers.{ended}
use Rattle.boards.proofs.Listing.{good_of}
use Rattle.boards.proofs.Taking.{loop_start, loop_bounds, answer_done, answer_full}
use Rattle.boards.proofs.Taking.{turn_advancing, turn_needs, next_bounds, hits_needs, turn_taken}
use Rattle.boards.proofs.piece.take_bytes.Goals as goal
use Rattle.boards.proofs.piece.take_bytes.Goals.{then-i-piece, else-i-piece, then-loop-i-test+else-k-count, else-loop-i-test}

pub loop-i-init : goal.loop-i-init
loop-i-init c =
    loop_start _ _
    (record { good = good_of _ _ c.args.codes.listed; boarded = c.requires.0; ready = c.requires.1; fronts = c.put_codes.ensures; bytes = λ i. (c.type_inv.piece i).fits })

pub advance-s-requires : goal.advance-s-requires
advance-s-requires c = turn_needs c.loop-i.invariant c.loop-i-test.true

pub overflow_cast-taken : goal.overflow_cast-taken
overflow_cast-taken c =
    let v = c.loop-i.invariant in
    let led = c.advance-s.ensures _ _ (turn_advancing v c.loop-i-test.true) in
    omega (arith, v.lists.ready.few, (next_bounds v led).2)

pub overflow_add-taken : goal.overflow_add-taken
overflow_add-taken c =
    let v = c.loop-i.invariant in
    let led = c.advance-s.ensures _ _ (turn_advancing v c.loop-i-test.true) in
    omega (arith, v.lists.ready.few, (next_bounds v led).2)

pub bounds-links-g : goal.bounds-links-g
bounds-links-g c =
    let v = c.loop-i.invariant in
    let led = c.advance-s.ensures _ _ (turn_advancing v c.loop-i-test.true) in
    omega (arith, (next_bounds v led).0)

pub write_hits-k-requires : goal.write_hits-k-requires
write_hits-k-requires c =
    let v = c.loop-i.invariant in
    let led = c.advance-s.ensures _ _ (turn_advancing v c.loop-i-test.true) in
    let free : c.loop-i.k + length c.args.codes.lengths.now ≤ min (length c.args.places.now) (length c.args.numbers.now) =
    omega (arith, c.min-room.ensures, c.if-k-count.true) in
    hits_needs v led free _ c.from.ensures

pub loop-i-smaller : goal.loop-i-smaller
loop-i-smaller c =
    let v = c.loop-i.invariant in
    let led = c.advance-s.ensures _ _ (turn_advancing v c.loop-i-test.true) in
    let b = next_bounds v led in omega (arith, b.1, b.2)

pub loop-i-preserved : goal.loop-i-preserved
loop-i-preserved c =
    let v = c.loop-i.invariant in
    let led = c.advance-s.ensures _ _ (turn_advancing v c.loop-i-test.true) in
    let free : c.loop-i.k + length c.args.codes.lengths.now ≤ min (length c.args.places.now) (length c.args.numbers.now) =
    omega (arith, c.min-room.ensures, c.if-k-count.true) in
    turn_taken v led free _ c.from.ensures _ _ _ c.write_hits-k.ensures

pub overflow_cast-result : goal.overflow_cast-result
overflow_cast-result c = omega (arith, (loop_bounds c.loop-i.invariant).3)

pub returns : goal.returns
returns c =
    let v = c.loop-i.invariant in
    elim c.if-i-piece.branch [
      | then-i-piece w ↦
          answer_full v (ended c.if-i-piece.ending) (ap ended w.ending-is) w.if-i-piece.true
          (elim c.loop-i-test.branch [
            | then-loop-i-test+else-k-count u ↦ omega (arith, c.min-room.ensures, u.if-k-count.false)
            | else-loop-i-test u ↦ absurd (omega (arith, w.if-i-piece.true, u.loop-i-test.false))
          ])
      | else-i-piece w ↦ answer_done v (ended c.if-i-piece.ending) (ap ended w.ending-is) w.if-i-piece.false
    ]
