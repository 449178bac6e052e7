-- `take_piece` meets its contract. Each turn takes at least a byte. Assumes nothing.
use borrow.Author.Rules.{rules}
use Rattle.sweep.proofs.Pieces.{taken_none, rest_is, taken_on, fewer_left, piece_refused, piece_stopped, piece_done}
use Rattle.sweep.proofs.look.take_piece.Goals as goal

pub loop-rest-init : goal.loop-rest-init
loop-rest-init c = taken_none _ _ _ _ _

pub loop-rest-preserved : goal.loop-rest-preserved
loop-rest-preserved c = taken_on c.loop-rest.invariant (rw c.in-Some.is at c.in_ok-taken.ensures) (rest_is c.in-Some.taken c.loop-rest.rest.now)

pub loop-rest-smaller : goal.loop-rest-smaller
loop-rest-smaller c = fewer_left c.loop-rest.invariant (rw c.in-Some.is at c.in_ok-taken.ensures) (rest_is c.in-Some.taken c.loop-rest.rest.now) (search rules)

pub returns-in_default : goal.returns-in_default
returns-in_default c = piece_refused c.loop-rest.invariant (rw c.in_default.is at c.in_ok-taken.ensures)

pub returns-in_err-taken : goal.returns-in_err-taken
returns-in_err-taken c = piece_stopped c.loop-rest.invariant _ c.from_residual.ensures.0 c.in_err-taken.ensures

pub returns : goal.returns
returns c = piece_done c.loop-rest.invariant (search rules)
