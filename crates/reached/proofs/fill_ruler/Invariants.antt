-- `fill_ruler` meets its contract. Assumes nothing.
use lib.ListN.{length}
use Rattle.reached.specs.Words.{steep_code}
use Rattle.reached.proofs.Copies.{Copied}
use Rattle.reached.proofs.fill_ruler.Given as goal

abbrev pub invariant-loop-i : goal.invariant-loop-i
invariant-loop-i l = Copied (steep_code (length l.fn.word)) l.fn.word l.word l.i
