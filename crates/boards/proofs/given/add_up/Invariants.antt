-- `add_up` meets its contract. Assumes nothing.
use Rattle.boards.proofs.Listing.{Summing}
use Rattle.boards.proofs.given.add_up.Given as goal

abbrev pub invariant-loop-length : goal.invariant-loop-length
invariant-loop-length l = Summing l.lengths l.length-index l.n
