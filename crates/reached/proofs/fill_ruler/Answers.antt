-- `fill_ruler` meets its contract. Assumes nothing.
use mathlib.Core.Path.{sym, ◌∙◌}
use native.Mathlib.Omega.{arith}
use native.Mathlib.Numerals.{add-one}
use lib.ListN.{length}
use Rattle.reached.proofs.ByteReached.{steep_length}
use Rattle.reached.proofs.Copies.{copied_turn, copied_end, steep_at}
use Rattle.reached.proofs.fill_ruler.Goals as goal

pub loop-i-preserved : goal.loop-i-preserved
loop-i-preserved c =
    let n = length c.args.word.now in
    let long = steep_length n in
    copied_turn c.loop-i.invariant _ (omega (arith, c.loop-i.invariant.size)) (omega arith)
    (rw (add-one c.loop-i.i) (sym (steep_at 64 n c.loop-i.i (omega arith) (omega arith))))

pub returns : goal.returns
returns c =
    copied_end c.loop-i.invariant (omega (arith, c.loop-i.invariant.size)) (steep_length (length c.args.word.now) ∙ sym c.loop-i.invariant.size)
