-- `codes` meets its contract. Assumes nothing.
use mathlib.Core.Path.{◌≡◌}
use Prim.Native.Nat.{◌+◌, ◌*◌, ◌-◌}
use lib.ListN.{take, drop}
use Rattle.boards.specs.Board.{list_refusal}
use Rattle.boards.proofs.Listing.{good_of}
use Rattle.boards.proofs.Naming.{lent_bytes}
use Rattle.boards.proofs.named.Named.codes.Goals as goal

pub invariant_of-result : goal.invariant_of-result
invariant_of-result c =
    let s = c.args.self.now in
    let n = s.names in
    let none : list_refusal (take s.count s.lengths) (take (s.end - (1 + 2 * s.count)) (drop (1 + 2 * s.count) s.board.now)) ≡ 0 =
    rw (n.lengths_are, lent_bytes n) n.listed in
    let good = good_of _ _ none in
    record { listed = none; codes_few = good.codes; bytes_few = good.bytes }

pub returns-clause-bytes : goal.returns-clause-bytes
returns-clause-bytes c = lent_bytes c.args.self.now.names
