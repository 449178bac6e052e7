-- `read_line` meets its contract: the loop is left only when no more of the line is to come. Assumes nothing.
use mathlib.Core.Path.{sym, ◌∙◌}
use Rattle.std.proofs.lemmas.Result.{MatchResult-from_err}
use Rattle.streams.proofs.FirstLine.{line_join, line_stopped}
use Rattle.streams.proofs.Input.read_line.Goals as goal

pub returns-in_err-so_far : goal.returns-in_err-so_far
returns-in_err-so_far c =
    let t = c.in_err-so_far.ensures in
    MatchResult-from_err _ _ _ c.from_residual.ensures.0
    (λ _. (t.0, line_stopped (sym c.goes_on.ensures ∙ c.loop-self-test.true) c.loop-self.invariant t.1))

pub loop-self-preserved : goal.loop-self-preserved
loop-self-preserved c = line_join (sym c.goes_on.ensures ∙ c.loop-self-test.true) c.loop-self.invariant c.in_ok-so_far.ensures.0
