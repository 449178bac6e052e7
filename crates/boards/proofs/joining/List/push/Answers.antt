-- `push` meets its contract. Assumes nothing.
use native.Mathlib.Omega.{arith}
use Rattle.boards.proofs.Listed.{list_pushed}
use Rattle.boards.proofs.joining.List.push.Goals as goal

pub returns : goal.returns
returns c = list_pushed (omega (arith, c.requires.lengths_room)) c.put_bytes.ensures
