-- `put_bytes` meets its contract. The loop keeps that the bytes passed are written. Assumes nothing.
use native.Mathlib.Omega.{arith}
use Rattle.boards.proofs.Splices.{bytes_turn, spliced_none}
use Rattle.boards.proofs.layout.put_bytes.Goals as goal

pub loop-i-init : goal.loop-i-init
loop-i-init c = spliced_none c.args.at c.args.area.now

pub loop-i-preserved : goal.loop-i-preserved
loop-i-preserved c = bytes_turn c.args.bytes.now c.args.area.now c.loop-i.area c.args.at c.loop-i.i c.loop-i.invariant (omega arith) c.requires
