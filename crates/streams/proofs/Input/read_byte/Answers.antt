-- `read_byte` meets its contract. By what the read brought. Assumes nothing.
use mathlib.Core.Bool.{true≢false}
use mathlib.Core.Path.{sym}
use Rattle.std.proofs.lemmas.Result.{MatchResult-from_err}
use borrow.Author.Rules.{rules}
use Rattle.streams.proofs.FirstLine.{line_ended, line_next, line_failed}
use Rattle.streams.proofs.Input.read_byte.Goals as goal

pub returns-in_err-read_some : goal.returns-in_err-read_some
returns-in_err-read_some c =
    let t = c.in_err-read_some.ensures in
    MatchResult-from_err _ _ _ c.from_residual.ensures.0 (λ _. (t.0, line_failed _ _ _ _ t.1))

pub returns-then-branch-eq0 : goal.returns-then-branch-eq0
returns-then-branch-eq0 c =
    (line_ended _ _ c.requires c.in_ok-read_some.ensures c.if-branch-eq0.true, λ h. absurd (true≢false (sym h)))

pub returns : goal.returns
returns c =
    line_next _ _ c.requires _ _ c.in_ok-read_some.ensures (search rules) c.if-branch-eq0.false
    c.line_byte.ensures.0 c.line_byte.ensures.1
