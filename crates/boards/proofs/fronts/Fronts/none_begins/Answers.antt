-- `none_begins` meets its contract. Where pairs of words have nothing in common, four have not. Assumes nothing.
use Prim.Native.Nat.{◌+◌}
use borrow.Author.Tests.{eqb-true}
use Rattle.boards.specs.Fronts.{pair_at, common_at}
use Rattle.boards.proofs.FirstBytes.{four_none, pair_none}
use Rattle.boards.proofs.fronts.Fronts.none_begins.Goals as goal

pub returns-then-front-back-eq0 : goal.returns-then-front-back-eq0
returns-then-front-back-eq0 c =
    let a = c.args in
    λ _ q h.
    pair_none a.self.now.words a.piece.now (a.i + q)
    (four_none (pair_at a.self.now.words a.piece.now) a.i _ _ _ _ c.pair.ensures
    c.pair-2.ensures c.pair-3.ensures c.pair-4.ensures c.if-front-back-eq0.true q h)

pub returns : goal.returns
returns c =
    let a = c.args in
    λ t.
    four_none (common_at a.self.now.words a.piece.now) a.i _ _ _ _ c.common.ensures c.common-2.ensures
    c.common-3.ensures c.common-4.ensures (eqb-true _ _ t)
