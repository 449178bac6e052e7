-- `feed_codes` meets its contract. Test by test, in the order of the refusals. Assumes nothing.
use mathlib.Core.Path.{sym, ◌∙◌}
use native.Mathlib.Omega.{arith}
use Rattle.words.proofs.Tests.{never_both}
use Rattle.boards.specs.Tables.{codes_of}
use Rattle.boards.proofs.Listing.{err_twice, on_ok}
use Rattle.boards.proofs.Naming.{named_by, codes_twice}
use Rattle.boards.proofs.Calling.{says_none, links_for, board_same, says_unfit, says_full, says_over, says_took}
use Rattle.boards.proofs.piece.feed_codes.Goals as goal

pub returns-then-is_err : goal.returns-then-is_err
returns-then-is_err c =
    let twice = err_twice c.build.result _ (sym c.is_err.ensures.value ∙ c.if-is_err.true) c.build.ensures.refusal in
    says_none _ _ _ (codes_twice (named_by c.requires) twice)

pub returns-then-not-same_front : goal.returns-then-not-same_front
returns-then-not-same_front c =
    let u = on_ok c.build.result (sym c.is_err.ensures.value ∙ c.if-is_err.false) c.build.ensures.built in
    let compared = board_same c.args.codes c.requires u c.write_board-size.ensures c.same_front.ensures in
    says_none _ _ _ (λ b. never_both b (sym compared ∙ c.if-not-same_front.true))

pub is_fit-requires : goal.is_fit-requires
is_fit-requires c =
    let u = on_ok c.build.result (sym c.is_err.ensures.value ∙ c.if-is_err.false) c.build.ensures.built in
    record { ws = codes_of c.args.codes; linked = links_for c.args.codes u }

pub returns-then-not-is_fit : goal.returns-then-not-is_fit
returns-then-not-is_fit c =
    let u = on_ok c.build.result (sym c.is_err.ensures.value ∙ c.if-is_err.false) c.build.ensures.built in
    let compared = board_same c.args.codes c.requires u c.write_board-size.ensures c.same_front.ensures in
    let told = c.is_fit.ensures _ (links_for c.args.codes u) in
    says_unfit c.requires (sym compared ∙ c.if-not-same_front.false) _ _ (sym told ∙ c.if-not-is_fit.true)

pub returns-then-min-codes : goal.returns-then-min-codes
returns-then-min-codes c =
    let u = on_ok c.build.result (sym c.is_err.ensures.value ∙ c.if-is_err.false) c.build.ensures.built in
    let compared = board_same c.args.codes c.requires u c.write_board-size.ensures c.same_front.ensures in
    let told = c.is_fit.ensures _ (links_for c.args.codes u) in
    says_full c.requires (sym compared ∙ c.if-not-same_front.false) _ _ (sym told ∙ c.if-not-is_fit.false) c.min.ensures c.if-min-codes.true

pub returns-then-watch-piece : goal.returns-then-watch-piece
returns-then-watch-piece c =
    let u = on_ok c.build.result (sym c.is_err.ensures.value ∙ c.if-is_err.false) c.build.ensures.built in
    let compared = board_same c.args.codes c.requires u c.write_board-size.ensures c.same_front.ensures in
    let told = c.is_fit.ensures _ (links_for c.args.codes u) in
    says_over c.requires (sym compared ∙ c.if-not-same_front.false) _ _ (sym told ∙ c.if-not-is_fit.false) c.min.ensures c.if-min-codes.false
    (omega (arith, c.if-watch-piece.true))

pub take_bytes-requires : goal.take_bytes-requires
take_bytes-requires c =
    let u = on_ok c.build.result (sym c.is_err.ensures.value ∙ c.if-is_err.false) c.build.ensures.built in
    let told = c.is_fit.ensures _ (links_for c.args.codes u) in
    (u, record { fits = sym told ∙ c.if-not-is_fit.false; few = omega arith })

pub returns : goal.returns
returns c =
    let u = on_ok c.build.result (sym c.is_err.ensures.value ∙ c.if-is_err.false) c.build.ensures.built in
    let compared = board_same c.args.codes c.requires u c.write_board-size.ensures c.same_front.ensures in
    let told = c.is_fit.ensures _ (links_for c.args.codes u) in
    says_took c.requires (sym compared ∙ c.if-not-same_front.false) _ _ (sym told ∙ c.if-not-is_fit.false)
    c.min.ensures c.if-min-codes.false (omega arith) c.take_bytes.ensures
