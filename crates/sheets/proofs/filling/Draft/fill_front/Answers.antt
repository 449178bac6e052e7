-- `fill_front` meets its contract. On a short sheet or on a wide one. Assumes nothing.
use mathlib.Core.Path.{sym, ◌∙◌}
use native.Mathlib.Omega.{arith}
use lib.ListN.{length, length-set}
use Rattle.sheets.proofs.Widths.{start_range, wide_width, one_byte, two_bytes, places_before}
use Rattle.sheets.proofs.Prepares.{room_before, front_short, front_wide}
use Rattle.sheets.proofs.filling.Draft.fill_front.Goals as goal

pub write_number-requires : goal.write_number-requires
write_number-requires g c =
    let m = length c.args.self.code.now in
    omega (arith, c.args.self.numbered.width_is, room_before m, places_before m, start_range m)

pub bounds-buffer-0 : goal.bounds-buffer-0
bounds-buffer-0 g c = let m = length c.args.self.code.now in omega (arith, room_before m, places_before m)

pub write_number-requires-else-this-eq1 : goal.write_number-requires-else-this-eq1
write_number-requires-else-this-eq1 g c =
    let m = length c.args.self.code.now in
    let n = c.args.self.numbered in
    let long = two_bytes m (λ e. c.if-this-eq1.false (n.width_is ∙ e)) in
    simp length-set (omega (arith, n.width_is, wide_width m long, n.some, room_before m, places_before m))

pub returns-then-this-eq1 : goal.returns-then-this-eq1
returns-then-this-eq1 g c =
    let m = length c.args.self.code.now in
    let short = one_byte m (sym c.args.self.numbered.width_is ∙ c.if-this-eq1.true) in
    rw (c.write_number.ensures, c.if-this-eq1.true) (front_short m c.args.buffer.now (omega (arith, room_before m, c.requires)) short)

pub returns-else-this-eq1 : goal.returns-else-this-eq1
returns-else-this-eq1 g c =
    let m = length c.args.self.code.now in
    let n = c.args.self.numbered in
    let long = two_bytes m (λ e. c.if-this-eq1.false (n.width_is ∙ e)) in
    rw (c.write_number-else-this-eq1.ensures, n.width_is, wide_width m long)
    (front_wide m c.args.buffer.now (omega (arith, room_before m, c.requires)) long)
