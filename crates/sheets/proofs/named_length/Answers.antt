-- `named_length` meets its contract. By the first byte. Assumes nothing.
use native.Mathlib.Omega.{arith}
use borrow.Author.Tests.{eq-eqb, ne_eqb}
use Rattle.sheets.specs.Sheet.{named_length}
use Rattle.sheets.proofs.named_length.Goals as goal

pub returns-then-buffer-eq0 : goal.returns-then-buffer-eq0
unfolding named_length
returns-then-buffer-eq0 c = (rw (eq-eqb _ 0 c.if-buffer-eq0.true) (omega (arith, c.from.ensures, c.from_be_bytes.ensures)), omega (arith, c.from.ensures))

pub returns : goal.returns
unfolding named_length
returns c = (rw (ne_eqb _ 0 c.if-buffer-eq0.false) c.from-2.ensures, omega (arith, c.from-2.ensures))
