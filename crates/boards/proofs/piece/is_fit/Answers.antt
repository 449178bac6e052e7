-- `is_fit` meets its contract. Assumes nothing.
use mathlib.Core.Path.{◌≡◌, refl, ◌∙◌}
use mathlib.Core.Bool.{true}
use borrow.Author.Tests.{lt-leb}
use Rattle.starts.specs.Starts.{is_state}
use Rattle.boards.proofs.Fitness.{zero_state, state_at, unfit_over, unfit_none, unfit_deep, fit_hits}
use Rattle.boards.proofs.piece.is_fit.Goals as goal
use Rattle.boards.proofs.piece.is_fit.Goals.{else-state-ne0-via-then-state-ne0+else-depth-eq0, else-state-ne0-via-else-state-ne0}

pub returns-then-n-state : goal.returns-then-n-state
returns-then-n-state c ws l = unfit_over ws _ _ l _ _ refl c.if-n-state.true

pub returns-then-depth-eq0 : goal.returns-then-depth-eq0
returns-then-depth-eq0 c ws l =
    unfit_none ws _ _ l _ _ refl c.if-n-state.false c.from-depth.result c.from-depth.ensures c.if-state-ne0.true c.if-depth-eq0.true

-- past the second test there is a state
pub returns-then-depth-watch : goal.returns-then-depth-watch
returns-then-depth-watch c ws l =
    let s : is_state ws c.args.watch.state ≡ true =
    elim c.else-state-ne0.branch [
      | else-state-ne0-via-then-state-ne0+else-depth-eq0 w ↦ state_at ws _ _ l _ c.from-depth.result c.from-depth.ensures w.if-depth-eq0.false
      | else-state-ne0-via-else-state-ne0 w ↦ zero_state ws _ w.if-state-ne0.false
    ] in
    rw c.from.ensures (fit_hits ws _ _ l _ _ refl c.if-n-state.false c.from-depth.result c.from-depth.ensures s c.if-depth-watch.true)

pub returns-else-depth-watch : goal.returns-else-depth-watch
returns-else-depth-watch c ws l =
    let s : is_state ws c.args.watch.state ≡ true =
    elim c.else-state-ne0.branch [
      | else-state-ne0-via-then-state-ne0+else-depth-eq0 w ↦ state_at ws _ _ l _ c.from-depth.result c.from-depth.ensures w.if-depth-eq0.false
      | else-state-ne0-via-else-state-ne0 w ↦ zero_state ws _ w.if-state-ne0.false
    ] in
    lt-leb _ _ c.if-depth-watch.false
    ∙ unfit_deep ws _ _ l _ _ refl c.if-n-state.false c.from-depth.result c.from-depth.ensures s c.if-depth-watch.false
