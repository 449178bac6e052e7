-- `line_byte` meets its contract. By how far the line was read. Assumes nothing.
use mathlib.Core.Path.{refl}
use native.Mathlib.Omega.{arith}
use Rattle.forms.specs.Line.{line_after, kept_after}
use Rattle.forms.proofs.Lines.{line_done, line_wrong, line_over}
use Rattle.forms.proofs.line_byte.Goals as goal

pub returns-in-Opening : goal.returns-in-Opening
unfolding line_after kept_after
returns-in-Opening c = rw c.in-Opening.is (c.opening_byte.ensures, refl)

pub returns-in-Closed : goal.returns-in-Closed
returns-in-Closed c = rw c.in-Closed.is (line_done _ _ _ (omega arith))

pub returns-in-Closed-2 : goal.returns-in-Closed-2
returns-in-Closed-2 c = rw c.in-Closed-2.is (line_wrong _ _ _ (λ e. omega (arith, e)))

pub returns-in-Done : goal.returns-in-Done
returns-in-Done c = line_over _ _ _ c.in-Done.is
