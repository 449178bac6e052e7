-- `put_line` meets its contract. Assumes nothing.
use native.Mathlib.Omega.{arith}
use Rattle.forms.proofs.Paging.{put_on}
use Rattle.reached.specs.Figures.{figures_form}
use Rattle.reached.proofs.Counting.{figures_short}
use Rattle.reached.proofs.put_line.Goals as goal

pub returns : goal.returns
unfolding figures_form
returns c =
    let m = rw (c.from.ensures, c.clear.ensures) at c.put_number.ensures in
    let n = rw c.from-2.ensures at c.put_number-2.ensures in (
      put_on (put_on (put_on (put_on m n) c.put_number-3.ensures) c.put_number-4.ensures) c.put.ensures,
      figures_short c.args.start.now c.args.f c.requires (omega arith) (omega arith) (omega arith) (omega arith),
    )
