-- `look_through` meets its contract. By what each read brought. Assumes nothing.
use borrow.Author.Rules.{rules}
use Rattle.sweep.proofs.Looks.{look_none, look_on, look_failed, look_ended, look_refused, look_stopped, fewer_to_read}
use Rattle.sweep.proofs.look.Reader.look_through.Goals as goal

pub loop-n-init : goal.loop-n-init
loop-n-init c = (look_none _ _ _ _, c.requires)

pub returns-then-n-eq0 : goal.returns-then-n-eq0
returns-then-n-eq0 c = look_ended c.loop-n.invariant.0 c.in-Some.ensures.0 c.if-n-eq0.true (search rules)

pub returns-in_err-all : goal.returns-in_err-all
returns-in_err-all c =
    look_stopped c.loop-n.invariant.0 c.in-Some.ensures.0 _ c.from_residual.ensures.0 c.in_err-all.ensures (search rules)

pub returns-then-not-all : goal.returns-then-not-all
returns-then-not-all c =
    look_refused c.loop-n.invariant.0 c.in-Some.ensures.0 (rw c.if-not-all.true at c.in_ok-all.ensures) (search rules)

pub loop-n-preserved : goal.loop-n-preserved
loop-n-preserved c =
    (look_on c.loop-n.invariant.0 c.in-Some.ensures.0 (rw c.if-not-all.false at c.in_ok-all.ensures), c.in-Some.ensures.1)

pub loop-n-smaller : goal.loop-n-smaller
loop-n-smaller c = fewer_to_read c.loop-n.invariant.0 c.in-Some.ensures.0 c.if-n-eq0.false

pub returns : goal.returns
returns c = look_failed c.loop-n.invariant.0 c.in_default.ensures.0
