-- `backward` meets its contract. The loop keeps that no label compared is the byte. Assumes nothing.
use mathlib.Core.Logic.{◌≢◌}
use Rattle.automaton.specs.Arrows.{label}
use Rattle.finder.specs.Inside.{Passed, target_of}
use Rattle.finder.proofs.sheet.Sheet.backward.Given as goal

abbrev pub invariant-loop-l : goal.invariant-loop-l
invariant-loop-l l = Passed (λ k. label l.self (target_of l.self k) ≢ l.byte) l.start l.l
