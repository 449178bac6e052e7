-- `step` meets its contract. The loop keeps that from the start of g the same is reached. Assumes nothing.
use native.Mathlib.Omega.{arith}
use Rattle.boards.proofs.Linking.{way_child, way_none, way_back, way_less, way_few}
use Rattle.boards.proofs.links.Links.step.Goals as goal

pub returns-then-h-ne0 : goal.returns-then-h-ne0
returns-then-h-ne0 c ws u t k e l =
    let w = c.loop-from.invariant ws u t k e l in
    way_child w c.child-h.result (c.child-h.ensures ws w.at t w.known_is w.state_is) c.if-h-ne0.true

pub returns-then-g-eq0 : goal.returns-then-g-eq0
returns-then-g-eq0 c ws u t k e l =
    let w = c.loop-from.invariant ws u t k e l in
    way_none w c.child-h.result (c.child-h.ensures ws w.at t w.known_is w.state_is) c.if-h-ne0.false c.if-g-eq0.true

pub overflow_mul-g : goal.overflow_mul-g
overflow_mul-g c =
    let p = c.requires in
    omega (arith, way_few (c.loop-from.invariant p.ws p.u p.is_tree p.known_is p.state_is p.linked) p.is_tree)

pub offset_bounds-self-g : goal.offset_bounds-self-g
offset_bounds-self-g c =
    let p = c.requires in
    omega (arith, way_few (c.loop-from.invariant p.ws p.u p.is_tree p.known_is p.state_is p.linked) p.is_tree)

pub bounds-self-g : goal.bounds-self-g
bounds-self-g c =
    let p = c.requires in
    let w = c.loop-from.invariant p.ws p.u p.is_tree p.known_is p.state_is p.linked in
    omega (arith, way_few w p.is_tree)

pub loop-from-smaller : goal.loop-from-smaller
loop-from-smaller c =
    let p = c.requires in
    let w = c.loop-from.invariant p.ws p.u p.is_tree p.known_is p.state_is p.linked in
    way_less w c.child-h.result (c.child-h.ensures p.ws w.at p.is_tree w.known_is w.state_is) p.linked
    c.from-g.result c.from-g.ensures c.if-g-eq0.false

pub loop-from-preserved : goal.loop-from-preserved
loop-from-preserved c ws u t k e l =
    let w = c.loop-from.invariant ws u t k e l in
    way_back w c.child-h.result (c.child-h.ensures ws w.at t w.known_is w.state_is) l c.from-g.result c.from-g.ensures
    c.if-g-eq0.false c.if-h-ne0.false
