-- `fill_states` meets its contract. Assumes nothing.
use native.Mathlib.Omega.{arith}
use Rattle.sheets.proofs.Prepares.{states_start, count_inside, count_few, states_turn, states_done}
use Rattle.sheets.proofs.filling.Draft.fill_states.Goals as goal

pub loop-r-init : goal.loop-r-init
loop-r-init g c = states_start c.requires.1

pub write_number-requires : goal.write_number-requires
write_number-requires g c =
    let s = c.loop-r.invariant in
    let l = c.loop-r-test.true in
    let u = c.fill_state-f.ensures in (
      omega arith,
      (
        omega (arith, c.count_place.ensures, c.args.self.numbered.width_is, count_inside c.requires.0 s l u),
        count_few c.requires.0 s l u,
      ),
    )

pub loop-r-preserved : goal.loop-r-preserved
loop-r-preserved g c =
    states_turn c.requires.0 c.loop-r.invariant c.loop-r-test.true c.fill_state-f.ensures c.write_number.new.buffer
    (rw (c.count_place.ensures, c.args.self.numbered.width_is) at c.write_number.ensures)

pub returns-2 : goal.returns-2
returns-2 g c =
    let all = states_turn c.requires.0 c.loop-r.invariant c.loop-r-test.true c.fill_state-f.ensures c.write_number.new.buffer
    (rw (c.count_place.ensures, c.args.self.numbered.width_is) at c.write_number.ensures) in
    states_done c.requires.0 all (omega arith)
