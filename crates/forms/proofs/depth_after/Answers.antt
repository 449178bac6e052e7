-- `depth_after` meets its contract. By the byte. Assumes nothing.
use mathlib.Core.Logic.{◌≢◌}
use native.Mathlib.Omega.{arith}
use Rattle.forms.proofs.Pairs.{behind_opening, behind_closing, behind_feed, behind_other}
use Rattle.forms.proofs.depth_after.Goals as goal

pub returns-in-40 : goal.returns-in-40
returns-in-40 c = behind_opening _ _ _ c.in-40.is c.checked_add.ensures

pub returns-in-41 : goal.returns-in-41
returns-in-41 c = behind_closing _ _ _ c.in-41.is c.checked_sub.ensures

pub returns-in-10 : goal.returns-in-10
returns-in-10 c = behind_feed _ _ c.in-10.is

pub returns-in_default : goal.returns-in_default
returns-in_default c =
    let o : c.args.byte ≢ 40 = omega arith in
    let s : c.args.byte ≢ 41 = omega arith in
    let f : c.args.byte ≢ 10 = omega arith in
    behind_other _ _ o s f
