-- `read_code` meets its contract. By whether the line could be read. Assumes nothing.
use borrow.Author.Rules.{rules}
use Rattle.sweep.proofs.Lines.{code_stopped, code_came, next_failed}
use Rattle.sweep.proofs.head.read_code.Goals as goal

pub returns-in_err-end : goal.returns-in_err-end
returns-in_err-end c =
    λ before m h.
    let t = c.in_err-end.ensures in
    next_failed _ _ c.from_residual.ensures.0 (t.0, code_stopped _ _ c.line_byte-line.ensures.0 c.line_byte-line.ensures.1 m t.1)

pub returns : goal.returns
returns c =
    λ before m h.
    let t = c.in_ok-end.ensures in
    rw c.from.ensures (code_came _ _ c.line_byte-line.ensures.0 c.line_byte-line.ensures.1 m t.0 t.1 h (search rules))
