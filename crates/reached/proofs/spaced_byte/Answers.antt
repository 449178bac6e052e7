-- `spaced_byte` meets its contract. Assumes nothing.
use mathlib.Core.Path.{sym}
use Rattle.reached.proofs.TotalReached.{spaced_a, spaced_b}
use Rattle.reached.proofs.spaced_byte.Goals as goal

pub returns-then-i-m-eq0 : goal.returns-then-i-m-eq0
returns-then-i-m-eq0 c = sym (spaced_a c.args.m c.args.i c.if-i-m-eq0.true)

pub returns : goal.returns
returns c = sym (spaced_b c.args.m c.args.i c.if-i-m-eq0.false)
