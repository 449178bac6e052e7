-- `take_piece` meets its contract. Each turn takes at least a byte. Assumes nothing.
use lib.ListN.{length}
use Rattle.sweep.proofs.Pieces.{TakenTo}
use Rattle.sweep.proofs.look.take_piece.Given as goal

abbrev pub invariant-loop-rest : goal.invariant-loop-rest
invariant-loop-rest l = TakenTo l.board l.file l.initial.watch l.piece l.initial.printer l.rest l.watch l.printer

abbrev pub decreases-loop-rest : goal.decreases-loop-rest
decreases-loop-rest l = length l.rest
