-- `check_list` meets its contract. Test by test, in the order of the refusals. Assumes nothing.
use mathlib.Core.Path.{◌≡◌, sym, ◌∙◌}
use mathlib.Core.Bool.{true, false}
use lib.Dec.{ltb}
use native.Mathlib.Omega.{arith}
use borrow.Author.Rules.{rules}
use borrow.Author.Tests.{tests}
use Rattle.std.proofs.lemmas.Iterator.{cases_from_any, YieldsList-from_slice}
use Rattle.words.specs.Words.{member}
use Rattle.codes.specs.Codes.{longest_code}
use Rattle.boards.specs.Board.{some_above}
use Rattle.boards.proofs.Listing.{empty_some, long_some, any_is, any_at, any_none, refuses_1, refuses_2, refuses_10, refuses_13, refuses_none}
use Rattle.boards.proofs.given.check_list.Goals as goal

pub returns-then-contains : goal.returns-then-contains
returns-then-contains c =
    sym (refuses_1 _ _ (sym (any_is empty_some c.args.lengths.now) ∙ sym c.contains.ensures.value ∙ c.if-contains.true))

pub returns-then-any : goal.returns-then-any
returns-then-any c =
    let empty : member 0 c.args.lengths.now ≡ false = sym (any_is empty_some c.args.lengths.now) ∙ sym c.contains.ensures.value ∙ c.if-contains.false in
    let some =
    rw c.if-any.true at
    (cases_from_any _ _ _ (λ l. ltb 4000 l ≡ true) (λ l. ltb 4000 l ≡ false) c.any.ensures.ran (YieldsList-from_slice c.args.lengths.now cc)
    (λ x q k. search (rules, tests)) (λ x q k. search (rules, tests))) in
    sym (refuses_2 _ _ empty (any_at (long_some longest_code) c.args.lengths.now some.0 some.1 (some.2 0)))

pub returns-then-is_no_board : goal.returns-then-is_no_board
returns-then-is_no_board c =
    let empty : member 0 c.args.lengths.now ≡ false = sym (any_is empty_some c.args.lengths.now) ∙ sym c.contains.ensures.value ∙ c.if-contains.false in
    let few : some_above longest_code c.args.lengths.now ≡ false =
    any_none (long_some longest_code) c.args.lengths.now
    (λ k h.
    (rw c.if-any.false at
    (cases_from_any _ _ _ (λ l. ltb 4000 l ≡ true) (λ l. ltb 4000 l ≡ false) c.any.ensures.ran (YieldsList-from_slice c.args.lengths.now cc)
    (λ x q k. search (rules, tests)) (λ x q k. search (rules, tests)))) k 0 (omega arith) h) in
    sym (refuses_10 _ _ empty few (sym c.is_no_board.ensures ∙ c.if-is_no_board.true))

pub returns-then-has_control : goal.returns-then-has_control
returns-then-has_control c =
    let empty : member 0 c.args.lengths.now ≡ false = sym (any_is empty_some c.args.lengths.now) ∙ sym c.contains.ensures.value ∙ c.if-contains.false in
    let few : some_above longest_code c.args.lengths.now ≡ false =
    any_none (long_some longest_code) c.args.lengths.now
    (λ k h.
    (rw c.if-any.false at
    (cases_from_any _ _ _ (λ l. ltb 4000 l ≡ true) (λ l. ltb 4000 l ≡ false) c.any.ensures.ran (YieldsList-from_slice c.args.lengths.now cc)
    (λ x q k. search (rules, tests)) (λ x q k. search (rules, tests)))) k 0 (omega arith) h) in
    sym (refuses_13 _ _ empty few (sym c.is_no_board.ensures ∙ c.if-is_no_board.false) (sym c.has_control.ensures ∙ c.if-has_control.true))

pub returns : goal.returns
returns c =
    let empty : member 0 c.args.lengths.now ≡ false = sym (any_is empty_some c.args.lengths.now) ∙ sym c.contains.ensures.value ∙ c.if-contains.false in
    let few : some_above longest_code c.args.lengths.now ≡ false =
    any_none (long_some longest_code) c.args.lengths.now
    (λ k h.
    (rw c.if-any.false at
    (cases_from_any _ _ _ (λ l. ltb 4000 l ≡ true) (λ l. ltb 4000 l ≡ false) c.any.ensures.ran (YieldsList-from_slice c.args.lengths.now cc)
    (λ x q k. search (rules, tests)) (λ x q k. search (rules, tests)))) k 0 (omega arith) h) in
    sym (refuses_none _ _ empty few (sym c.is_no_board.ensures ∙ c.if-is_no_board.false) (sym c.has_control.ensures ∙ c.if-has_control.false))
