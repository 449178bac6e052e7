-- `fill_spaced` meets its contract. Assumes nothing.
use mathlib.Core.Path.{sym, ◌∙◌}
use native.Mathlib.Omega.{arith}
use lib.ListN.{length}
use Rattle.reached.proofs.TotalReached.{spaced_length, byte_spaced}
use Rattle.reached.proofs.Copies.{copied_turn, copied_end}
use Rattle.reached.proofs.fill_spaced.Goals as goal

pub loop-i-preserved : goal.loop-i-preserved
loop-i-preserved c =
    let m = c.args.m in
    let n = length c.args.word.now in
    copied_turn c.loop-i.invariant _ (omega (arith, c.loop-i.invariant.size)) (omega (arith, spaced_length m n))
    (c.spaced_byte.ensures ∙ sym (byte_spaced m n c.loop-i.i (omega arith)))

pub returns : goal.returns
returns c =
    copied_end c.loop-i.invariant (omega (arith, c.loop-i.invariant.size))
    (spaced_length c.args.m (length c.args.word.now) ∙ sym c.loop-i.invariant.size)
