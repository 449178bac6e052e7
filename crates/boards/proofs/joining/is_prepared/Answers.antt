-- `is_prepared` meets its contract. The area has room for a board. Assumes nothing.
use mathlib.Core.Path.{refl, sym}
use native.Mathlib.Omega.{arith}
use Prim.Native.Nat.{ℕ, ◌≤◌}
use lib.ListN.{length, replicate, length-replicate}
use Rattle.runs.proofs.Refusals.{number_some}
use Rattle.boards.specs.Board.{board_room}
use Rattle.boards.proofs.Naming.{named_by, prepared_none, prepared_same}
use Rattle.boards.proofs.joining.is_prepared.Goals as goal

room : board_room ≤ length (replicate {A = ℕ} 32768 0)
room = omega (arith, length-replicate {A = ℕ} 32768 0)

pub returns-in_default : goal.returns-in_default
returns-in_default c = sym (prepared_none (named_by c.requires) room c.in_default.ensures (number_some c.in_default.field-0))

pub returns : goal.returns
returns c = prepared_same (named_by c.requires) room c.in-Ok.ensures refl refl c.same_front.ensures
