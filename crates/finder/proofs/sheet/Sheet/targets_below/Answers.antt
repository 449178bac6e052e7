-- `targets_below` meets its contract. Behind the code there is a count for each state. Assumes nothing.
use native.Mathlib.Omega.{arith}
use Rattle.finder.proofs.Coded.{coded_bounds, short_count_room, short_count_is, wide_count_room, wide_count_is, few_counts}
use Rattle.finder.proofs.sheet.Sheet.targets_below.Goals as goal

pub bounds-self-inside-m : goal.bounds-self-inside-m
bounds-self-inside-m c =
    let q = rw (← c.self.view_is) at c.requires in
    short_count_room c.self.invariant (rw (← c.self.view_is) at c.width.ensures) c.if-width-eq1.true _ q.0 q.1

pub returns-then-width-eq1 : goal.returns-then-width-eq1
returns-then-width-eq1 c =
    let q = rw (← c.self.view_is) at c.requires in
    let is = short_count_is c.self.invariant (rw (← c.self.view_is) at c.width.ensures) c.if-width-eq1.true _ c.from.result q.0 q.1 c.from.ensures in
    rw (← c.self.view_is) (is, omega (arith, is, few_counts c.self.invariant c.args.s q.1), (coded_bounds c.self.invariant).1)

pub overflow_mul-at : goal.overflow_mul-at
overflow_mul-at c = let q = rw (← c.self.view_is) at c.requires in omega (arith, q.1, coded_bounds c.self.invariant)

pub overflow_add-at-2 : goal.overflow_add-at-2
overflow_add-at-2 c = let q = rw (← c.self.view_is) at c.requires in omega (arith, q.1, coded_bounds c.self.invariant)

pub bounds-self-inside-at : goal.bounds-self-inside-at
bounds-self-inside-at c =
    let q = rw (← c.self.view_is) at c.requires in
    omega (arith, wide_count_room c.self.invariant (rw (← c.self.view_is) at c.width.ensures) c.if-width-eq1.false c.args.s q.0 q.1)

pub overflow_add-at-3 : goal.overflow_add-at-3
overflow_add-at-3 c = let q = rw (← c.self.view_is) at c.requires in omega (arith, q.1, coded_bounds c.self.invariant)

pub bounds-self-inside-at-2 : goal.bounds-self-inside-at-2
bounds-self-inside-at-2 c =
    let q = rw (← c.self.view_is) at c.requires in
    wide_count_room c.self.invariant (rw (← c.self.view_is) at c.width.ensures) c.if-width-eq1.false _ q.0 q.1

pub returns : goal.returns
returns c =
    let q = rw (← c.self.view_is) at c.requires in
    let is =
    wide_count_is c.self.invariant (rw (← c.self.view_is) at c.width.ensures) c.if-width-eq1.false _ c.from-2.result q.0 q.1 (omega (arith, c.from-2.ensures, c.from_be_bytes.ensures)) in
    rw (← c.self.view_is) (is, omega (arith, is, few_counts c.self.invariant c.args.s q.1), (coded_bounds c.self.invariant).1)
