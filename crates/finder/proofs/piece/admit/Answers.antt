-- `admit` meets its contract. Test by test, in the order of the list of refusals. Assumes nothing.
use mathlib.Core.Path.{◌≡◌, ◌∙◌, sym, ap}
use mathlib.Core.Bool.{Bool}
use mathlib.Core.List.{List}
use Prim.Native.Nat.{ℕ}
use native.Mathlib.Omega.{arith}
use lib.ListN.{length}
use Rattle.finder.specs.declared.Watch.{Watch}
use Rattle.finder.specs.Feed.{fit}
use Rattle.finder.proofs.Refusing.{refuses_4, refuses_5, refuses_6, refuses_7, refuses_none}
use Rattle.finder.proofs.piece.admit.Goals as goal

-- whether a watch is fit for the code, as it was asked for a length that is the code's
fits : {v w : List ℕ} {m : ℕ} (x : Watch) {r : Bool} → v ≡ w → m ≡ length v → r ≡ fit m x → fit (length w) x ≡ r
fits x e f g = ap (λ (l : List ℕ). fit (length l) x) (sym e) ∙ ap (λ (j : ℕ). fit j x) (sym f) ∙ sym g

pub returns-in_default-clause-refusal : goal.returns-in_default-clause-refusal
returns-in_default-clause-refusal c =
    let a = c.args in sym (refuses_4 a.buffer.now a.x a.piece a.room c.in_default.ensures)

-- past the first test the buffer begins with a sheet
pub returns-then-not-is_fit-clause-refusal : goal.returns-then-not-is_fit-clause-refusal
returns-then-not-is_fit-clause-refusal c =
    let a = c.args in
    let s = c.in-Some.ensures in
    sym (refuses_5 a.buffer.now a.x a.piece a.room s.0 (fits a.x s.1 c.length.ensures.0 c.if-not-is_fit.ensures))

-- and past the second the watch is fit for its code
pub returns-then-room-eq0-clause-refusal : goal.returns-then-room-eq0-clause-refusal
returns-then-room-eq0-clause-refusal c =
    let a = c.args in
    let s = c.in-Some.ensures in
    sym (refuses_6 a.buffer.now a.x a.piece a.room s.0 (fits a.x s.1 c.length.ensures.0 c.if-not-is_fit.ensures) c.if-room-eq0.true)

pub returns-then-x-piece-clause-refusal : goal.returns-then-x-piece-clause-refusal
returns-then-x-piece-clause-refusal c =
    let a = c.args in
    let s = c.in-Some.ensures in
    sym
    (refuses_7 a.buffer.now a.x a.piece a.room s.0 (fits a.x s.1 c.length.ensures.0 c.if-not-is_fit.ensures) c.if-room-eq0.false
    (omega (arith, c.if-x-piece.true)))

pub returns-clause-refusal : goal.returns-clause-refusal
returns-clause-refusal c =
    let a = c.args in
    let s = c.in-Some.ensures in
    sym
    (refuses_none a.buffer.now a.x a.piece a.room s.0 (fits a.x s.1 c.length.ensures.0 c.if-not-is_fit.ensures) c.if-room-eq0.false
    (omega (arith, c.if-x-piece.false)))
