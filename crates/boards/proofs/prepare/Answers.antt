-- `prepare` meets its contract. Test by test, in the order of the refusals. Assumes nothing.
use mathlib.Core.Path.{◌≡◌, sym}
use mathlib.Core.Bool.{false}
use Rattle.std.proofs.Common.{rules, Err}
use Rattle.runs.proofs.Refusals.{number_some}
use Rattle.starts.specs.Starts.{twice}
use Rattle.boards.specs.Board.{cut}
use Rattle.boards.proofs.Listing.{twice_refused}
use Rattle.boards.proofs.Prepared.{says_listed, says_twice, says_small, says_prepared}
use Rattle.boards.proofs.prepare.Goals as goal

pub returns-in_err-codes : goal.returns-in_err-codes
returns-in_err-codes c =
    let e : c.from_residual.result ≡ Err c.in_err-codes.field-0.0 = search rules in
    rw e (says_listed _ _ _ _ c.in_err-codes.ensures.refusal (number_some c.in_err-codes.field-0.0))

pub returns-in_err-build : goal.returns-in_err-build
returns-in_err-build c =
    let ok = c.in_ok-codes.ensures.ok in
    let e : c.from_residual-in_err-build.result ≡ Err c.in_err-build.field-0.0 = search rules in
    let t = twice_refused c.in_err-build.field-0.0 _ (rw (ok.0, ok.1) at c.in_err-build.ensures.refusal) in
    rw (e, t.1) (says_twice _ _ _ (sym c.in_ok-codes.ensures.refusal) t.0)

pub returns-then-buffer-lt-ROOM : goal.returns-then-buffer-lt-ROOM
returns-then-buffer-lt-ROOM c =
    let ok = c.in_ok-codes.ensures.ok in
    let once : twice (cut c.args.lengths.now c.args.bytes.now) ≡ false = rw (ok.0, ok.1) at c.in_ok-build.ensures.built.once in
    says_small _ _ _ (sym c.in_ok-codes.ensures.refusal) once c.if-buffer-lt-ROOM.true

pub returns : goal.returns
returns c =
    let ok = c.in_ok-codes.ensures.ok in
    let once : twice (cut c.args.lengths.now c.args.bytes.now) ≡ false = rw (ok.0, ok.1) at c.in_ok-build.ensures.built.once in
    says_prepared _ _ _ (sym c.in_ok-codes.ensures.refusal) once c.if-buffer-lt-ROOM.false _ _ (rw (ok.0, ok.1) at c.write_board.ensures)
