-- `number_width` meets its contract. Assumes nothing.
use mathlib.Core.Path.{sym}
use native.Mathlib.Omega.{arith}
use Rattle.sheets.proofs.Widths.{short_width, wide_width}
use Rattle.sheets.proofs.number_width.Goals as goal

pub returns-then-m-le255 : goal.returns-then-m-le255
returns-then-m-le255 c = sym (short_width _ c.if-m-le255.true)

pub returns-else-m-le255 : goal.returns-else-m-le255
returns-else-m-le255 c = sym (wide_width _ (omega arith))
