-- `read_board` meets its contract. Assumes nothing.
use mathlib.Core.Path.{◌≡◌, refl, sym, ap, ◌∙◌}
use mathlib.Core.Bool.{true, false}
use Rattle.codes.specs.Refusals.{refused_if}
use Rattle.boards.specs.Board.{begins, named_lengths, named_bytes}
use Rattle.boards.proofs.joining.read_board.Goals as goal

pub returns-in_default-clause-refusal : goal.returns-in_default-clause-refusal
unfolding refused_if
returns-in_default-clause-refusal c = rw c.in_default.ensures.none refl

pub is_prepared-requires : goal.is_prepared-requires
is_prepared-requires c =
    let same = c.in-Some.ensures.some in
    record { lengths_are = c.codes.ensures.lengths ∙ ap named_lengths same; bytes_are = c.codes.ensures.bytes ∙ ap named_bytes same }

pub returns-then-not-is_prepared-clause-refusal : goal.returns-then-not-is_prepared-clause-refusal
unfolding refused_if
returns-then-not-is_prepared-clause-refusal c =
    let e : begins c.args.board.now ≡ false = sym c.is_prepared.ensures ∙ c.if-not-is_prepared.true in rw e refl

pub returns-clause-refusal : goal.returns-clause-refusal
unfolding refused_if
returns-clause-refusal c =
    let e : begins c.args.board.now ≡ true = sym c.is_prepared.ensures ∙ c.if-not-is_prepared.false in rw e refl
