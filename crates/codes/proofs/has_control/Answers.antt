-- `has_control` meets its contract. Assumes nothing.
use native.Mathlib.Omega.{arith}
use Rattle.codes.proofs.Controls.{look_found, look_next, look_end}
use Rattle.codes.proofs.has_control.Goals as goal

pub loop-byte-preserved : goal.loop-byte-preserved
loop-byte-preserved c =
    let w = c.args.code.now in
    let l = c.loop-byte in
    grind (arith, look_found w l.byte-index l.found l.invariant, look_next w l.byte-index l.found l.invariant)

pub returns : goal.returns
returns c = look_end _ c.loop-byte.byte-index _ c.loop-byte.invariant (omega arith)
