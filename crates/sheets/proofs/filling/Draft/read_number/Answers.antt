-- `read_number` meets its contract. A number of one byte, or of two. Assumes nothing.
use native.Mathlib.Omega.{arith}
use Rattle.sheets.proofs.Widths.{reads_one, reads_two, width_range}
use Rattle.sheets.proofs.filling.Draft.read_number.Goals as goal

pub returns-then-this-eq1 : goal.returns-then-this-eq1
returns-then-this-eq1 g c = reads_one c.args.buffer.now g.row.WIDTH c.args.at _ c.if-this-eq1.true c.from.ensures

pub bounds-buffer-at-2 : goal.bounds-buffer-at-2
bounds-buffer-at-2 g c = omega (arith, c.args.self.numbered.width_is, width_range)

pub bounds-buffer-at-3 : goal.bounds-buffer-at-3
bounds-buffer-at-3 g c = omega (arith, c.args.self.numbered.width_is, width_range)

pub returns : goal.returns
returns g c =
    reads_two c.args.buffer.now g.row.WIDTH c.args.at _ (omega (arith, c.args.self.numbered.width_is, width_range))
    (omega (arith, c.from-2.ensures, c.from_be_bytes.ensures))
