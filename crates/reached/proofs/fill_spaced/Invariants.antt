-- `fill_spaced` meets its contract. Assumes nothing.
use Rattle.reached.specs.Words.{spaced}
use Rattle.reached.proofs.Copies.{Copied}
use lib.ListN.{length}
use Rattle.reached.proofs.fill_spaced.Given as goal

abbrev pub invariant-loop-i : goal.invariant-loop-i
invariant-loop-i l = Copied (spaced l.m (length l.fn.word)) l.fn.word l.word l.i
