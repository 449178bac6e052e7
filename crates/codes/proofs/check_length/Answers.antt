-- `check_length` meets its contract. Assumes nothing.
use mathlib.Core.Path.{sym}
use Rattle.codes.proofs.Refusals.{length_none, length_over, length_good}
use Rattle.codes.proofs.check_length.Goals as goal

pub returns-then-m-eq0 : goal.returns-then-m-eq0
returns-then-m-eq0 c = sym (length_none c.args.longest _ c.if-m-eq0.true)

pub returns-then-longest-m : goal.returns-then-longest-m
returns-then-longest-m c = sym (length_over _ _ c.if-m-eq0.false c.if-longest-m.true)

pub returns : goal.returns
returns c = sym (length_good _ _ c.if-m-eq0.false c.if-longest-m.false)
