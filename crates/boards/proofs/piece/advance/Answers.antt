-- `advance` meets its contract. Assumes nothing.
use borrow.Author.Tests.{lt-ltb}
use Rattle.boards.proofs.Advancing.{At, at_here, at_stop, step_needs, by_step, by_enter}
use Rattle.boards.proofs.piece.advance.Goals as goal
use Rattle.boards.proofs.piece.advance.Goals.{then-g-eq0, else-g-eq0}

pub returns-then-p-piece : goal.returns-then-p-piece
returns-then-p-piece c ws u v =
    let a = c.args in
    let at : At a.fronts.now.words a.piece.now a.g a.i c.if-g-eq0.p =
    elim c.if-g-eq0.branch [
      | then-g-eq0 w ↦ at_stop w.if-g-eq0.true w.pass-p.ensures w.p-is
      | else-g-eq0 w ↦ at_here w.if-g-eq0.false c.requires.advancing.inside w.p-is
    ] in
    by_enter v at c.if-g-eq0-2.true (lt-ltb _ _ c.if-p-piece.true) c.enter.ensures

pub step-requires : goal.step-requires
step-requires c = step_needs c.requires.advancing

pub returns : goal.returns
returns c ws u v =
    let a = c.args in
    let at : At a.fronts.now.words a.piece.now a.g a.i c.if-g-eq0.p =
    elim c.if-g-eq0.branch [
      | then-g-eq0 w ↦ at_stop w.if-g-eq0.true w.pass-p.ensures w.p-is
      | else-g-eq0 w ↦ at_here w.if-g-eq0.false c.requires.advancing.inside w.p-is
    ] in
    by_step v at c.step.ensures
