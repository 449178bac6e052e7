-- `write_piece` meets its contract. By whether feeding is refused, and whether the piece is the last. Assumes nothing.
use mathlib.Core.Path.{◌≡◌, refl}
use native.Mathlib.Omega.{arith}
use borrow.Author.Rules.{rules}
use lib.ListN.{length, take}
use lib.Seq.{length-take-le}
use Rattle.finder.proofs.Entries.{says_fed}
use Rattle.find.specs.Printed.{piece_size}
use Rattle.find.proofs.Pieces.{printing_refused, printing_more, printing_last}
use Rattle.find.proofs.Room.write_piece.Goals as goal

pub returns-in-Err : goal.returns-in-Err
returns-in-Err c =
    let wide : length c.args.self.now.places ≡ piece_size = search rules in
    let g = rw wide at (says_fed c.in-Err.ensures) in
    printing_refused _ _ _ g c.in-Err.refusal refl c.clear.ensures (omega arith) (rw c.number.ensures at c.put_refused.ensures)

pub shared_ref_as_front-put_places : goal.shared_ref_as_front-put_places
shared_ref_as_front-put_places c = let fits = (says_fed c.in-Ok.ensures).fits in omega (arith, fits)

pub returns-then-n-lt-PIECE : goal.returns-then-n-lt-PIECE
returns-then-n-lt-PIECE c =
    let wide : length c.args.self.now.places ≡ piece_size = search rules in
    let size : length (take c.args.n c.args.self.now.piece) ≡ c.args.n = length-take-le _ _ (search rules) in
    let g = rw wide at (says_fed c.in-Ok.ensures) in
    printing_last _ _ _ g _ refl (search rules) c.clear.ensures (omega arith) c.put_places.ensures (omega arith) c.put_end.ensures

pub returns : goal.returns
returns c =
    let wide : length c.args.self.now.places ≡ piece_size = search rules in
    let size : length (take c.args.n c.args.self.now.piece) ≡ c.args.n = length-take-le _ _ (search rules) in
    let g = rw wide at (says_fed c.in-Ok.ensures) in
    printing_more _ _ _ g _ refl (search rules) c.clear.ensures (omega arith) c.put_places.ensures (omega arith)
