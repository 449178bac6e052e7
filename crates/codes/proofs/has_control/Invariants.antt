-- `has_control` meets its contract. Assumes nothing.
use Rattle.codes.proofs.Controls.{LookedTo}
use Rattle.codes.proofs.has_control.Given as goal

abbrev pub invariant-loop-byte : goal.invariant-loop-byte
invariant-loop-byte l = LookedTo l.code l.byte-index l.found
