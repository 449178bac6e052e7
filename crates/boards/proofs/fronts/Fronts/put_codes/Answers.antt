-- `put_codes` meets its contract. By the lemmas on codes put in their turn. Assumes nothing.
use native.Mathlib.Omega.{arith}
use Rattle.boards.proofs.Listing.{good_of}
use Rattle.boards.proofs.FirstBytes.{putting_none, putting_next, putting_all, turn_bounds, front_size, filled_from, fronts_are}
use Rattle.boards.proofs.fronts.Fronts.put_codes.Goals as goal

pub loop-j-init : goal.loop-j-init
loop-j-init c = rw c.requires (putting_none (good_of _ _ c.args.codes.listed) c.shortest-self.ensures)

pub overflow_add-s : goal.overflow_add-s
overflow_add-s c =
    let b = turn_bounds c.loop-j.invariant (omega arith) in
    omega (arith, b.1, b.2, b.3)

pub slice_bounds-put_front-end : goal.slice_bounds-put_front-end
slice_bounds-put_front-end c =
    let b = turn_bounds c.loop-j.invariant (omega arith) in
    omega (arith, b.1, b.2)

pub put_front-requires : goal.put_front-requires
put_front-requires c =
    let b = turn_bounds c.loop-j.invariant (omega arith) in
    (omega (arith, front_size c.loop-j.invariant (omega arith), c.loop-j.invariant.shortest.few), b.0)

pub loop-j-preserved : goal.loop-j-preserved
loop-j-preserved c = putting_next c.loop-j.invariant (omega arith) c.put_front.ensures

pub returns : goal.returns
returns c =
    let turn = c.loop-j.invariant in
    let most = turn.shortest.few in
    fronts_are turn.good turn.shortest (putting_all turn (omega arith))
    (filled_from turn.words_long (omega (arith, most)) (c.fill.ensures.after (λ y e. e)))
