-- `search` meets its contract: the loop is left only when no more of the text is to come. Assumes nothing.
use Rattle.std.proofs.lemmas.Result.{MatchResult-from_err}
use Rattle.find.proofs.Searching.{search_join, stopped_join}
use Rattle.find.proofs.search.Goals as goal

pub returns-in_err-next : goal.returns-in_err-next
returns-in_err-next c =
    let t = c.in_err-next.ensures in
    MatchResult-from_err _ _ _ c.from_residual.ensures.0 (λ _. (t.0, stopped_join (rw c.in-Some.is at c.loop-next.invariant) t.1))

pub loop-next-preserved : goal.loop-next-preserved
loop-next-preserved c = search_join (rw c.in-Some.is at c.loop-next.invariant) c.in_ok-next.ensures.0
