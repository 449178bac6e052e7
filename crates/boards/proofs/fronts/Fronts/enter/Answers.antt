-- `enter` meets its contract. The highest bit in common is that of the first code that begins there. Assumes nothing.
use native.Mathlib.Omega.{arith}
use Rattle.boards.proofs.FirstBytes.{enter_room, enter_state}
use Rattle.boards.proofs.fronts.Fronts.enter.Goals as goal

pub overflow_add-result : goal.overflow_add-result
overflow_add-result c =
    let p = c.requires.entering in
    omega (arith, enter_room p.fronts _ _ p.inside p.bytes p.begins _ (rw c.common.ensures at c.top.ensures), p.fronts.most)

pub returns : goal.returns
returns c = λ ws v. enter_state v.fronts _ _ v.inside v.bytes v.begins _ (rw c.common.ensures at c.top.ensures)
