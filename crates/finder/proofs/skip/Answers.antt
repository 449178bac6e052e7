-- `skip` meets its contract. Behind the loop fewer than four bytes are left. Assumes nothing.
use mathlib.Core.Path.{◌≡◌, ◌∙◌}
use mathlib.Core.Logic.{◌≢◌}
use lib.ListN.{drop}
use borrow.Author.Tests.{tests}
use Rattle.std.proofs.Common.{rules}
use Rattle.std.proofs.lemmas.Iterator.{YieldsList-from_slice, IsFirst-from_position}
use Rattle.finder.proofs.Passing.{position_found, position_none, stopped_on}
use Rattle.finder.proofs.skip.Goals as goal

pub returns-in-Some : goal.returns-in-Some
returns-in-Some c =
    let v = c.loop-rest.invariant in
    let f =
    IsFirst-from_position _ _ _ (λ x. x ≡ c.args.byte) (λ x. x ≢ c.args.byte) c.position.ensures.ran
    (YieldsList-from_slice (drop c.loop-rest.i c.args.piece.now) (c.iter.ensures.rest ∙ v.2)) (λ x q k. search (rules, tests))
    (λ x q k. search (rules, tests)) in
    stopped_on v.0 (position_found (λ x. x ≢ c.args.byte) (λ x. x ≡ c.args.byte) _ _ v.1 _ (rw c.in-Some.is at f))

pub returns-in-None : goal.returns-in-None
returns-in-None c =
    let v = c.loop-rest.invariant in
    let f =
    IsFirst-from_position _ _ _ (λ x. x ≡ c.args.byte) (λ x. x ≢ c.args.byte) c.position.ensures.ran
    (YieldsList-from_slice (drop c.loop-rest.i c.args.piece.now) (c.iter.ensures.rest ∙ v.2)) (λ x q k. search (rules, tests))
    (λ x q k. search (rules, tests)) in
    stopped_on v.0 (position_none (λ x. x ≢ c.args.byte) (λ x. x ≡ c.args.byte) _ _ v.1 (rw c.in-None.is at f))
