-- `from_start` meets its contract. The loop keeps that the bytes so far lead to state 0. Assumes nothing.
use mathlib.Core.Path.{◌≡◌, sym, ◌∙◌}
use mathlib.Core.List.{List}
use Prim.Native.Nat.{ℕ, ◌≤◌, ◌<◌}
use native.Mathlib.Omega.{arith}
use lib.ListN.{length}
use Rattle.automaton.specs.Arrows.{arrows, arrows_below}
use Rattle.automaton.proofs.Counts.{below_suc, below_one}
use Rattle.finder.proofs.Starting.{started, started_missed, started_first, started_stayed, started_two}
use Rattle.finder.proofs.Starting.{started_again, led_as}
use Rattle.finder.proofs.sheet.Sheet.from_start.Goals as goal

-- the backward arrows of state 1
failing : (w : List ℕ) (back : ℕ) → back ≡ arrows_below w 2 → back ≡ arrows w 1
failing w back e = omega (arith, e, below_suc w 1, below_one w)

pub loop-i-init : goal.loop-i-init
loop-i-init c = let b = c.length-m.ensures in started (omega (arith, b), omega (arith, b)) c.requires

-- the byte that is looked for is the first label
pub returns-then-j-piece : goal.returns-then-j-piece
returns-then-j-piece c =
    led_as _ _ c.led_to.ensures
    (started_missed c.loop-i.invariant _ (rw c.label.ensures at c.skip-j.ensures) (omega (arith, c.if-j-piece.true)))

-- it is there
pub returns-then-m-eq1 : goal.returns-then-m-eq1
returns-then-m-eq1 c =
    let k = rw c.label.ensures at c.skip-j.ensures in
    let here : c.skip-j.result < length c.args.piece.now = omega (arith, k.within, c.if-j-piece.false) in
    led_as _ _ c.led_to-then-m-eq1.ensures (started_first c.loop-i.invariant _ k here)

-- in state 1, with m of 2 or more
pub returns-then-k-piece : goal.returns-then-k-piece
returns-then-k-piece c =
    let k = rw c.label.ensures at c.skip-j.ensures in
    let here : c.skip-j.result < length c.args.piece.now = omega (arith, k.within, c.if-j-piece.false) in
    let two : 2 ≤ length c.args.self.now = omega (arith, c.if-m-eq1.false, c.loop-i.invariant.some) in
    led_as _ _ c.led_to-then-k-piece.ensures (started_stayed c.loop-i.invariant _ k here two _ c.stay_one-k.ensures)

pub returns-then-piece-k : goal.returns-then-piece-k
returns-then-piece-k c =
    let k = rw c.label.ensures at c.skip-j.ensures in
    let y = c.stay_one-k.ensures in
    let here : c.skip-j.result < length c.args.piece.now = omega (arith, k.within, c.if-j-piece.false) in
    let two : 2 ≤ length c.args.self.now = omega (arith, c.if-m-eq1.false, c.loop-i.invariant.some) in
    let there : c.stay_one-k.result < length c.args.piece.now = omega (arith, y.within, c.if-k-piece.false) in
    led_as _ _ c.led_to-then-piece-k.ensures
    (started_two c.loop-i.invariant _ k here two _ y there _ (failing _ _ c.targets_below-back.ensures.0)
    (c.if-piece-k.true ∙ c.label-in-loop-i.ensures))

pub loop-i-preserved : goal.loop-i-preserved
loop-i-preserved c =
    let k = rw c.label.ensures at c.skip-j.ensures in
    let y = c.stay_one-k.ensures in
    let here : c.skip-j.result < length c.args.piece.now = omega (arith, k.within, c.if-j-piece.false) in
    let two : 2 ≤ length c.args.self.now = omega (arith, c.if-m-eq1.false, c.loop-i.invariant.some) in
    let there : c.stay_one-k.result < length c.args.piece.now = omega (arith, y.within, c.if-k-piece.false) in
    started_again c.loop-i.invariant _ k here two _ y there _ (failing _ _ c.targets_below-back.ensures.0)
    (λ z. c.if-piece-k.false (z ∙ sym c.label-in-loop-i.ensures))
