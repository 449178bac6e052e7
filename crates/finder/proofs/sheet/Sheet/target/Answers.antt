-- `target` meets its contract. Behind the counts are the targets of all states. Assumes nothing.
use native.Mathlib.Omega.{arith}
use Rattle.finder.proofs.Coded.{coded_bounds, coded_room, short_target_room, short_target_is, wide_target_room, wide_target_is}
use Rattle.finder.proofs.Comparing.{target_inside}
use Rattle.finder.proofs.sheet.Sheet.target.Goals as goal

pub overflow_add-m : goal.overflow_add-m
overflow_add-m c = omega (arith, coded_bounds c.self.invariant)

pub overflow_add-m-then-width-eq1 : goal.overflow_add-m-then-width-eq1
overflow_add-m-then-width-eq1 c =
    let q = rw (← c.self.view_is) at c.requires in omega (arith, q, coded_bounds c.self.invariant, coded_room c.self.invariant)

pub bounds-self-inside-m : goal.bounds-self-inside-m
bounds-self-inside-m c =
    let q = rw (← c.self.view_is) at c.requires in
    short_target_room c.self.invariant (rw (← c.self.view_is) at c.width.ensures) c.if-width-eq1.true _ q

pub returns-then-width-eq1 : goal.returns-then-width-eq1
returns-then-width-eq1 c =
    let q = rw (← c.self.view_is) at c.requires in
    let is = short_target_is c.self.invariant (rw (← c.self.view_is) at c.width.ensures) c.if-width-eq1.true _ c.from.result q c.from.ensures in
    let r = rw (← is) at (target_inside _ _ q) in
    rw (← c.self.view_is) (is, r.0, r.1, omega (arith, r.1, coded_bounds c.self.invariant))

pub overflow_mul-at : goal.overflow_mul-at
overflow_mul-at c = omega (arith, coded_bounds c.self.invariant)

pub overflow_add-at : goal.overflow_add-at
overflow_add-at c = omega (arith, coded_bounds c.self.invariant)

pub overflow_mul-at-2 : goal.overflow_mul-at-2
overflow_mul-at-2 c =
    let q = rw (← c.self.view_is) at c.requires in omega (arith, q, coded_bounds c.self.invariant, coded_room c.self.invariant)

pub overflow_add-at-2 : goal.overflow_add-at-2
overflow_add-at-2 c =
    let q = rw (← c.self.view_is) at c.requires in omega (arith, q, coded_bounds c.self.invariant, coded_room c.self.invariant)

pub bounds-self-inside-at : goal.bounds-self-inside-at
bounds-self-inside-at c =
    let q = rw (← c.self.view_is) at c.requires in
    omega (arith, wide_target_room c.self.invariant (rw (← c.self.view_is) at c.width.ensures) c.if-width-eq1.false c.args.l q)

pub overflow_add-at-3 : goal.overflow_add-at-3
overflow_add-at-3 c =
    let q = rw (← c.self.view_is) at c.requires in omega (arith, q, coded_bounds c.self.invariant, coded_room c.self.invariant)

pub bounds-self-inside-at-2 : goal.bounds-self-inside-at-2
bounds-self-inside-at-2 c =
    let q = rw (← c.self.view_is) at c.requires in
    wide_target_room c.self.invariant (rw (← c.self.view_is) at c.width.ensures) c.if-width-eq1.false _ q

pub returns : goal.returns
returns c =
    let q = rw (← c.self.view_is) at c.requires in
    let is =
    wide_target_is c.self.invariant (rw (← c.self.view_is) at c.width.ensures) c.if-width-eq1.false _ c.from-2.result q (omega (arith, c.from-2.ensures, c.from_be_bytes.ensures)) in
    let r = rw (← is) at (target_inside _ _ q) in
    rw (← c.self.view_is) (is, r.0, r.1, omega (arith, r.1, coded_bounds c.self.invariant))
