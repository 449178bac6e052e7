-- `search_piece` meets its contract. By what the read brought. Assumes nothing.
use mathlib.Core.Path.{refl}
use borrow.Author.Rules.{rules}
use Rattle.std.proofs.lemmas.Result.{MatchResult-from_err}
use Rattle.streams.specs.Receipts.{unmoved}
use Rattle.find.proofs.Stopping.{stopped_here}
use Rattle.find.proofs.Searching.{piece_read}
use Rattle.find.proofs.Room.search_piece.Goals as goal

pub returns-in_err-n : goal.returns-in_err-n
returns-in_err-n c =
    let t = c.in_err-n.ensures in
    MatchResult-from_err _ _ _ c.from_residual.ensures.0 (λ _. (t.0, stopped_here _ t.1 (unmoved _ _ refl)))

pub returns : goal.returns
returns c = piece_read _ _ _ _ _ _ _ c.print_piece.result c.in_ok-n.ensures (search rules) (search rules) c.print_piece.ensures
