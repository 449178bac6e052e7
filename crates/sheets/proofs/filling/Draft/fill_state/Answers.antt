-- `fill_state` meets its contract. Assumes nothing.
use native.Mathlib.Omega.{arith}
use Rattle.sheets.proofs.Prepares.{target_room}
use Rattle.sheets.proofs.States.{border_under, end_in, start_in, first_ready, first_put, copy_start, number_under, next_ready, copy_on, copy_done, copied_size}
use Rattle.sheets.proofs.filling.Draft.fill_state.Goals as goal

pub target_start-start-requires : goal.target_start-start-requires
target_start-start-requires g c =
    let n = c.args.self.numbered in (omega arith, (c.requires.room, omega (arith, border_under n c.requires, c.requires.ok)))

pub target_end-end-requires : goal.target_end-end-requires
target_end-end-requires g c =
    let n = c.args.self.numbered in (omega arith, (c.requires.room, omega (arith, border_under n c.requires, c.requires.ok)))

pub overflow_add-border : goal.overflow_add-border
overflow_add-border g c = let n = c.args.self.numbered in omega (arith, border_under n c.requires, c.requires.ok, n.few)

pub put_target-f-requires : goal.put_target-f-requires
put_target-f-requires g c = (omega arith, first_ready c.args.self.numbered c.requires)

pub loop-i-init : goal.loop-i-init
loop-i-init g c =
    let n = c.args.self.numbered in
    let s = c.requires in
    let e = c.target_end-end in
    let b = c.target_start-start in
    let p = c.put_target-f.ensures in
    copy_start n s e.result b.result (end_in n s e.result e.ensures) (start_in n s b.result b.ensures) (first_put n s p.0 p.1)

pub target_place-requires : goal.target_place-requires
target_place-requires g c =
    let n = c.args.self.numbered in
    (omega arith, omega (arith, number_under n c.requires c.loop-i.invariant c.loop-i-test.true, c.requires.ok))

pub read_number-t-requires : goal.read_number-t-requires
read_number-t-requires g c =
    let n = c.args.self.numbered in
    let s = c.requires in
    let here = c.loop-i.invariant in
    let under = number_under n s here c.loop-i-test.true in
    omega (arith, c.target_place.ensures, n.width_is, target_room _ _ s.room c.loop-i.i (omega (arith, under, s.ok)), copied_size n s here)

pub put_target-f-requires-in-loop-i : goal.put_target-f-requires-in-loop-i
put_target-f-requires-in-loop-i g c = (
  omega arith,
  next_ready c.args.self.numbered c.requires c.loop-i.invariant c.loop-i-test.true c.read_number-t.result
      (rw c.target_place.ensures at c.read_number-t.ensures),
)

pub loop-i-preserved : goal.loop-i-preserved
loop-i-preserved g c =
    let p = c.put_target-f-in-loop-i in
    copy_on c.args.self.numbered c.requires c.loop-i.invariant c.loop-i-test.true c.read_number-t.result
    (rw c.target_place.ensures at c.read_number-t.ensures) p.result p.new.buffer p.ensures.0 p.ensures.1

pub returns : goal.returns
returns g c = copy_done c.args.self.numbered c.requires c.loop-i.invariant c.loop-i-test.false
