-- `different` meets its contract. The loop keeps the table and the number of the different bytes that it has read. Assumes nothing.
use Rattle.std.proofs.Common.{◌≤◌, take}
use Rattle.codes.proofs.Tally.{Tally}
use Rattle.codes.proofs.different.Given as goal

abbrev pub invariant-loop-byte : goal.invariant-loop-byte
invariant-loop-byte l = (l.n ≤ l.byte-index) × Tally (take l.byte-index l.code) l.n l.seen
