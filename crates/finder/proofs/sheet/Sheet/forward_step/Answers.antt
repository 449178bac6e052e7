-- `forward_step` meets its contract. The forward label of p is that of target p + 1. Assumes nothing.
use mathlib.Core.Path.{◌∙◌, sym}
use native.Mathlib.Numerals.{add-one}
use native.Mathlib.Omega.{arith}
use Rattle.automaton.proofs.Targets.{label_next}
use Rattle.automaton.proofs.Steps.{forward_on, forward_off, forward_past}
use Rattle.finder.proofs.sheet.Sheet.forward_step.Goals as goal

pub returns-then-label-byte : goal.returns-then-label-byte
returns-then-label-byte c =
    let a = c.args in
    let w = a.self.now in
    rw (add-one a.p, add-one a.cost)
    (sym (forward_on a.cost w a.p a.byte (omega arith) (sym (c.label.ensures ∙ label_next w a.p) ∙ c.if-label-byte.true)))

pub returns-then-p-length : goal.returns-then-p-length
returns-then-p-length c =
    let a = c.args in
    let w = a.self.now in
    rw add-one
    (sym
    (forward_off a.cost w a.p a.byte (omega arith) (λ e. c.if-label-byte.false (c.label.ensures ∙ label_next w a.p ∙ e))))

pub returns : goal.returns
returns c = let a = c.args in sym (forward_past a.cost a.self.now a.p a.byte (omega arith))
