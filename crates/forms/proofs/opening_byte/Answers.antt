-- `opening_byte` meets its contract. Assumes nothing.
use mathlib.Core.Path.{sym}
use native.Mathlib.Omega.{arith}
use Rattle.forms.proofs.Lines.{opening_more, opening_last, opening_wrong, opening_past}
use Rattle.forms.proofs.opening_byte.Goals as goal
use Rattle.forms.proofs.opening_byte.Goals.{then-n-ge6-via-then-n-ge6, then-n-ge6-via-else-n-ge6+then-opening-n}

pub returns-then-n-ge6 : goal.returns-then-n-ge6
returns-then-n-ge6 c =
    elim c.then-n-ge6.branch [
      | then-n-ge6-via-then-n-ge6 w ↦ sym (opening_past 0 _ _ w.if-n-ge6.true)
      | then-n-ge6-via-else-n-ge6+then-opening-n w ↦ sym (opening_wrong 0 _ _ w.if-opening-n.true)
    ]

pub returns-then-n-eq5 : goal.returns-then-n-eq5
returns-then-n-eq5 c = sym (opening_last 0 _ _ c.if-n-eq5.true c.if-opening-n.false)

pub returns : goal.returns
returns c = sym (opening_more 0 _ _ (omega arith) c.if-opening-n.false)
