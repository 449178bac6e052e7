-- `read` meets its contract. A buffer that begins with a board names at most 64 lengths, has them, and behind them the bytes of codes that a board can have.
-- Assumes nothing.
use mathlib.Core.Path.{◌≡◌, sym, ◌∙◌}
use native.Mathlib.Omega.{arith}
use lib.ListN.{get_or, length-take}
use Rattle.words.proofs.Tests.{fails}
use Rattle.boards.proofs.Listing.{err_refused, ok_passed}
use Rattle.boards.proofs.Naming.{begins_within, lengths_of, bytes_missing, bytes_refused, names_there}
use Rattle.boards.proofs.named.Named.read.Goals as goal

pub returns-in_err-first-clause-none : goal.returns-in_err-first-clause-none
returns-in_err-first-clause-none c =
    let none = rw c.in_err-first.was at c.first.ensures.item.3 in
    rw c.from_residual.ensures (fails _ (λ b. omega (arith, (begins_within c.args.board.now b).1, none)))

-- the first byte tells how many
pub returns-then-count-gt-MOST_CODES-clause-none : goal.returns-then-count-gt-MOST_CODES-clause-none
returns-then-count-gt-MOST_CODES-clause-none c =
    let first = rw c.in_ok-first.was at c.first.ensures.item.3 in
    fails _ (λ b. omega (arith, (begins_within c.args.board.now b).0, c.from-count.ensures, first.1 0, c.if-count-gt-MOST_CODES.true))

pub returns-then-board-start-clause-none : goal.returns-then-board-start-clause-none
returns-then-board-start-clause-none c =
    let first = rw c.in_ok-first.was at c.first.ensures.item.3 in
    fails _ (λ b. omega (arith, (begins_within c.args.board.now b).1, c.from-count.ensures, first.1 0, c.if-board-start.true))

pub overflow_add-end : goal.overflow_add-end
overflow_add-end c = omega (arith, c.add_up.ensures.few, length-take c.from-count.result c.read_lengths.new.lengths)

pub returns-then-board-end-clause-none : goal.returns-then-board-end-clause-none
returns-then-board-end-clause-none c =
    let first = rw c.in_ok-first.was at c.first.ensures.item.3 in
    let count : c.from-count.result ≡ get_or c.args.board.now 0 0 = c.from-count.ensures ∙ first.1 0 in
    fails _
    (bytes_missing _ _ _ _ c.if-count-gt-MOST_CODES.false count (lengths_of count c.read_lengths.ensures) c.add_up.ensures.all c.if-board-end.true)

pub returns-then-is_err-clause-none : goal.returns-then-is_err-clause-none
returns-then-is_err-clause-none c =
    let first = rw c.in_ok-first.was at c.first.ensures.item.3 in
    let count : c.from-count.result ≡ get_or c.args.board.now 0 0 = c.from-count.ensures ∙ first.1 0 in
    fails _
    (bytes_refused _ _ _ _ c.if-count-gt-MOST_CODES.false count (lengths_of count c.read_lengths.ensures) c.add_up.ensures.all c.check_list.ensures (err_refused c.check_list.result (sym c.is_err.ensures.value ∙ c.if-is_err.true)))

pub invariant_of-result : goal.invariant_of-result
invariant_of-result c =
    let first = rw c.in_ok-first.was at c.first.ensures.item.3 in
    let count : c.from-count.result ≡ get_or c.args.board.now 0 0 = c.from-count.ensures ∙ first.1 0 in
    record {
      names =
          names_there _ _ _ _ c.if-count-gt-MOST_CODES.false count (lengths_of count c.read_lengths.ensures) c.add_up.ensures.all c.if-board-end.false
          (ok_passed c.check_list.result (sym c.is_err.ensures.value ∙ c.if-is_err.false) ∙ c.check_list.ensures);
    }
