-- `feed` meets its contract. By whether it is refused. Assumes nothing.
use mathlib.Core.Path.{◌≡◌, sym}
use Rattle.std.proofs.Common.{rules, Err}
use Rattle.finder.specs.Entry.{lent}
use Rattle.finder.proofs.Refusing.{none_ready, says_refused, says_took}
use Rattle.finder.proofs.piece.feed.Goals as goal

pub returns-in_err-sheet : goal.returns-in_err-sheet
returns-in_err-sheet c =
    let a = c.args in
    let e : c.from_residual.result ≡ Err c.in_err-sheet.field-0.0 = search rules in
    rw e (says_refused a.sheet.now a.watch (lent a.piece.now a.places.now) c.in_err-sheet.field-0.0 c.in_err-sheet.ensures.refusal)

-- NO REFUSAL: the sheet's code
pub take_bytes-requires : goal.take_bytes-requires
take_bytes-requires c = let s = c.in_ok-sheet.ensures in none_ready _ _ _ _ (sym s.refusal) s.sheet

pub returns : goal.returns
returns c =
    let a = c.args in
    let s = c.in_ok-sheet.ensures in
    says_took a.sheet.now a.watch (lent a.piece.now a.places.now) (sym s.refusal) s.sheet c.take_bytes.result _ c.take_bytes.ensures
