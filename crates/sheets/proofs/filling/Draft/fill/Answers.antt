-- `fill` meets its contract. Assumes nothing.
use native.Mathlib.Omega.{arith}
use Rattle.sheets.proofs.Prepares.{zero_inside, then_states, few_targets, sheet_made}
use Rattle.sheets.proofs.filling.Draft.fill.Goals as goal

pub write_number-requires : goal.write_number-requires
write_number-requires g c = omega (arith, c.count_place.ensures, c.args.self.numbered.width_is, zero_inside _ c.requires c.fill_code.ensures)

pub fill_states-targets-requires : goal.fill_states-targets-requires
fill_states-targets-requires g c = (
  omega arith,
  then_states _ c.requires c.fill_code.ensures (rw (c.count_place.ensures, c.args.self.numbered.width_is) at c.write_number.ensures),
)

pub target_place-requires : goal.target_place-requires
target_place-requires g c = (
  omega arith,
  few_targets _ c.requires c.fill_code.ensures (rw (c.count_place.ensures, c.args.self.numbered.width_is) at c.write_number.ensures)
      c.fill_states-targets.ensures,
)

pub returns : goal.returns
returns g c =
    sheet_made _ c.requires c.fill_code.ensures (rw (c.count_place.ensures, c.args.self.numbered.width_is) at c.write_number.ensures)
    c.fill_states-targets.ensures c.target_place.result c.target_place.ensures
