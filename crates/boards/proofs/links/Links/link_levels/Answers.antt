-- `link_levels` meets its contract. The loop keeps that the links of the starts of at most `depth` bytes are there. Assumes nothing.
use native.Mathlib.Omega.{arith}
use Rattle.boards.proofs.Listing.{good_of}
use Rattle.boards.proofs.Levels.{climbing_start, climbing_below, climbing_end}
use Rattle.boards.proofs.links.Links.link_levels.Goals as goal

pub loop-live-init : goal.loop-live-init
loop-live-init c =
    let r = c.first_bits-live in
    climbing_start r.result (good_of _ _ c.args.codes.listed) c.requires r.ensures r.type_inv

pub overflow_add-depth : goal.overflow_add-depth
overflow_add-depth c = omega (arith, climbing_below c.loop-live.invariant c.loop-live-test.true)

pub loop-live-smaller : goal.loop-live-smaller
loop-live-smaller c = omega (arith, climbing_below c.loop-live.invariant c.loop-live-test.true)

pub returns : goal.returns
returns c = climbing_end c.loop-live.invariant c.loop-live-test.false
