-- `target_end` meets its contract. Assumes nothing.
use native.Mathlib.Omega.{arith}
use Rattle.sheets.proofs.Widths.{count_inside}
use Rattle.sheets.proofs.Prepares.{room_before}
use Rattle.sheets.proofs.filling.Draft.target_end.Goals as goal

pub read_number-requires : goal.read_number-requires
read_number-requires g c =
    let n = c.args.self.numbered in omega (arith, c.count_place.ensures, n.width_is, room_before, count_inside _ _ c.requires.1)
