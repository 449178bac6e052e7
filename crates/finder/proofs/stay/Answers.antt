-- `stay` meets its contract. Assumes nothing.
use mathlib.Core.Path.{◌≡◌, ◌∙◌}
use mathlib.Core.Logic.{◌≢◌}
use lib.ListN.{drop}
use borrow.Author.Tests.{tests}
use Rattle.std.proofs.Common.{rules}
use Rattle.std.proofs.lemmas.Iterator.{YieldsList-from_slice, IsFirst-from_position}
use Rattle.finder.proofs.Passing.{position_found, position_none, part_on}
use Rattle.finder.proofs.stay.Goals as goal

pub returns-in-Some : goal.returns-in-Some
returns-in-Some c =
    let f =
    IsFirst-from_position _ _ _ (λ x. x ≢ c.args.byte) (λ x. x ≡ c.args.byte) c.position.ensures.ran
    (YieldsList-from_slice (drop c.args.from c.args.piece.now) (c.iter.ensures.rest ∙ part_on c.args.piece.now c.args.from)) (λ x q k. search (rules, tests)) (λ x q k. search (rules, tests)) in
    position_found (λ x. x ≡ c.args.byte) (λ x. x ≢ c.args.byte) _ _ c.requires _ (rw c.in-Some.is at f)

pub returns-in-None : goal.returns-in-None
returns-in-None c =
    let f =
    IsFirst-from_position _ _ _ (λ x. x ≢ c.args.byte) (λ x. x ≡ c.args.byte) c.position.ensures.ran
    (YieldsList-from_slice (drop c.args.from c.args.piece.now) (c.iter.ensures.rest ∙ part_on c.args.piece.now c.args.from)) (λ x q k. search (rules, tests)) (λ x q k. search (rules, tests)) in
    position_none (λ x. x ≡ c.args.byte) (λ x. x ≢ c.args.byte) _ _ c.requires (rw c.in-None.is at f)
