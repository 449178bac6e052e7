-- `link_level` meets its contract. The loop keeps which codes are left, and what is told of the others. Assumes nothing.
use native.Mathlib.Omega.{arith}
use borrow.Author.Rules.{rules}
use Rattle.boards.proofs.Listing.{good_of}
use Rattle.boards.proofs.Levels.{linking_start, linking_number, linking_place, linking_next, linking_more, linking_last, linking_end}
use Rattle.boards.proofs.links.Links.link_level.Goals as goal
use Rattle.boards.proofs.links.Links.link_level.Goals.{then-depth-codes, else-depth-codes}

pub loop-left-init : goal.loop-left-init
loop-left-init c = linking_start (good_of _ _ c.args.codes.listed) (search rules) (search rules) c.requires

pub overflow_add-s : goal.overflow_add-s
overflow_add-s c = omega (arith, (linking_place c.loop-left.invariant c.loop-left-test.true c.top-j.ensures).1)

pub bounds-codes-s : goal.bounds-codes-s
bounds-codes-s c = (linking_place c.loop-left.invariant c.loop-left-test.true c.top-j.ensures).0

pub link_byte-requires : goal.link_byte-requires
link_byte-requires c = record { ws = _; u = _; next = linking_next c.loop-left.invariant c.loop-left-test.true c.top-j.ensures }

pub overflow_add-depth : goal.overflow_add-depth
overflow_add-depth c = omega (arith, (linking_place c.loop-left.invariant c.loop-left-test.true c.top-j.ensures).1)

pub bounds-codes-j : goal.bounds-codes-j
bounds-codes-j c = (linking_number c.loop-left.invariant c.loop-left-test.true c.top-j.ensures).0

pub loop-left-preserved : goal.loop-left-preserved
loop-left-preserved c =
    let k = c.loop-left.invariant in
    let some = c.loop-left-test.true in
    let top = c.top-j.ensures in
    let byte = c.link_byte in
    let result = byte.ensures _ _ (linking_next k some top) in
    let less = c.without_top-left.ensures in
    elim c.if-depth-codes.branch [
      | then-depth-codes w ↦
          rw w.rest-is
          (linking_more k some top c.without_top-left.result w.with_bit-rest.result byte.result byte.new.self less
          (omega (arith, w.if-depth-codes.true)) w.with_bit-rest.ensures result)
      | else-depth-codes w ↦
          rw w.rest-is
          (linking_last k some top c.without_top-left.result byte.result byte.new.self less (omega (arith, w.if-depth-codes.false)) result)
    ]

pub returns : goal.returns
returns c = linking_end c.loop-left.invariant c.loop-left-test.false
