-- `run` meets its contract. By whether the first line could be read, and whether it is refused. Assumes nothing.
use mathlib.Core.Path.{refl}
use Rattle.std.proofs.lemmas.Result.{MatchResult-from_err}
use Rattle.runs.proofs.Refusals.{number_some}
use Rattle.sheets.specs.Sheet.{sheet_room}
use Rattle.streams.specs.Receipts.{unmoved}
use Rattle.find.proofs.Running.{ran_not, ran_refused, ran_searched}
use Rattle.find.proofs.run.Goals as goal

pub returns-in_err-line : goal.returns-in_err-line
returns-in_err-line c =
    let s = c.requires in
    let t = c.in_err-line.ensures in
    let seen = t.1.on in
    MatchResult-from_err _ _ _ c.from_residual.ensures.0
    (λ _. (t.0, ran_not (record { bytes = seen.bytes; came = seen.came }) s.0 s.1 (unmoved _ _ refl)))

pub returns-in-Err : goal.returns-in-Err
unfolding sheet_room
returns-in-Err c =
    let l = c.in_ok-line.ensures in
    let s = c.requires in
    ran_refused _ l.0 l.1 s.0 s.1 _ c.print_refusal.result c.in-Err.ensures.0 (number_some c.in-Err.refusal) (rw c.number.ensures at c.print_refusal.ensures)

pub returns : goal.returns
unfolding sheet_room
returns c =
    let l = c.in_ok-line.ensures in
    let p = c.in_default.ensures in
    let s = c.requires in
    ran_searched _ l.0 l.1 s.0 s.1 _ _ c.search.result p.0 p.1 c.search.ensures
