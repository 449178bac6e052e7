-- `write_number` meets its contract. A number of one byte, or of two. Assumes nothing.
use mathlib.Core.Path.{◌≡◌, sym, ◌∙◌}
use Prim.Native.Nat.{◌/◌, ◌%◌}
use native.Mathlib.Omega.{arith}
use lib.ListN.{length-set}
use Rattle.sheets.proofs.Widths.{puts_one, puts_two, width_range, one_byte}
use Rattle.sheets.proofs.filling.Draft.write_number.Goals as goal

pub overflow_cast-buffer : goal.overflow_cast-buffer
overflow_cast-buffer g c = omega (arith, one_byte _ (sym c.args.self.numbered.width_is ∙ c.if-this-eq1.true))

pub bounds-buffer-at-else-this-eq1 : goal.bounds-buffer-at-else-this-eq1
bounds-buffer-at-else-this-eq1 g c = omega (arith, c.args.self.numbered.width_is, width_range)

pub bounds-buffer-at-else-this-eq1-2 : goal.bounds-buffer-at-else-this-eq1-2
bounds-buffer-at-else-this-eq1-2 g c = simp length-set (omega (arith, c.args.self.numbered.width_is, width_range))

pub returns-then-this-eq1 : goal.returns-then-this-eq1
returns-then-this-eq1 g c = puts_one _ _ _ _ c.if-this-eq1.true

pub returns-else-this-eq1 : goal.returns-else-this-eq1
returns-else-this-eq1 g c =
    let v = c.args.v in
    let high : (v / 256) % 256 ≡ v / 256 = omega (arith, c.args.self.numbered.few) in
    rw (c.to_be_bytes.ensures, high) (puts_two _ _ _ _ (omega (arith, c.args.self.numbered.width_is, width_range)))
