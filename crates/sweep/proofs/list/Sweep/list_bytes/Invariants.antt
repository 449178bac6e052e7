-- `list_bytes` meets its contract: the loop is left before its end only where something failed. Assumes nothing.
use Rattle.std.proofs.Common.{Ok, take}
use Rattle.sweep.specs.Swept.{ListedOn}
use Rattle.sweep.proofs.list.Sweep.list_bytes.Given as goal

abbrev pub invariant-loop-byte : goal.invariant-loop-byte
invariant-loop-byte l = ListedOn l.board (take l.byte-index l.block) l.initial.self (Ok (tt {0})) l.self
