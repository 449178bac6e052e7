-- `add_up` meets its contract. Assumes nothing.
use mathlib.Core.Path.{refl}
use native.Mathlib.Omega.{arith}
use Rattle.boards.proofs.Listing.{summing_turn, summing_end}
use Rattle.boards.proofs.given.add_up.Goals as goal

pub loop-length-preserved : goal.loop-length-preserved
loop-length-preserved c =
    let l = c.loop-length in
    summing_turn c.args.lengths.now l.length-index l.n _ (omega arith) refl (omega (arith, (c.type_inv.lengths l.length-index).fits)) l.invariant

pub returns : goal.returns
returns c =
    let l = c.loop-length in
    record { all = summing_end _ l.length-index _ (omega arith) l.invariant; few = omega (arith, l.invariant.few, l.auto.length-index-end) }
