-- `join` meets its contract. Past each test the buffer begins with a board, and its codes are read. Assumes nothing.
use mathlib.Core.Path.{◌≡◌, ap, ◌∙◌}
use mathlib.Core.Bool.{and-false}
use Rattle.std.proofs.Common.{rules, Err}
use Rattle.boards.specs.Board.{begins, named_lengths, named_bytes}
use Rattle.boards.proofs.Naming.{NamedBy}
use Rattle.boards.proofs.Joins.{read_refused, read_passed, says_no_board, says_joined}
use Rattle.boards.proofs.joining.join.Goals as goal

pub returns-in_err-first : goal.returns-in_err-first
returns-in_err-first c =
    let e : c.from_residual.result ≡ Err c.in_err-first.field-0.0 = search rules in
    let t = read_refused c.in_err-first.field-0.0 _ c.in_err-first.ensures.refusal in
    rw (e, t.1) (says_no_board _ _ _ (rw t.0))

pub returns-in_err-second : goal.returns-in_err-second
returns-in_err-second c =
    let e : c.from_residual-in_err-second.result ≡ Err c.in_err-second.field-0.0 = search rules in
    let t = read_refused c.in_err-second.field-0.0 _ c.in_err-second.ensures.refusal in
    rw (e, t.1) (says_no_board _ _ _ (rw t.0 (and-false (begins c.args.first.now))))

pub returns : goal.returns
returns c =
    let m : NamedBy c.args.first.now c.codes.result.lengths.now c.codes.result.bytes.now = record {
      lengths_are = c.codes.ensures.lengths ∙ ap named_lengths c.in_ok-first.ensures.ok;
      bytes_are = c.codes.ensures.bytes ∙ ap named_bytes c.in_ok-first.ensures.ok;
      listed = c.codes.result.listed;
    } in
    let n : NamedBy c.args.second.now c.codes-2.result.lengths.now c.codes-2.result.bytes.now = record {
      lengths_are = c.codes-2.ensures.lengths ∙ ap named_lengths c.in_ok-second.ensures.ok;
      bytes_are = c.codes-2.ensures.bytes ∙ ap named_bytes c.in_ok-second.ensures.ok;
      listed = c.codes-2.result.listed;
    } in
    says_joined _ _ _ m n (read_passed _ c.in_ok-first.ensures.refusal) (read_passed _ c.in_ok-second.ensures.refusal) c.join_codes.ensures
