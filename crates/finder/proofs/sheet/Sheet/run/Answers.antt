-- `run` meets its contract. The loop keeps that the bytes so far lead on. Assumes nothing.
use Rattle.finder.proofs.Walking.{ran_more}
use native.Mathlib.Omega.{arith}
use Rattle.finder.proofs.sheet.Sheet.run.Goals as goal

pub loop-i-preserved : goal.loop-i-preserved
loop-i-preserved c = ran_more c.loop-i.invariant (omega arith) (omega arith) c.stretch-s.result c.stretch-s.ensures
