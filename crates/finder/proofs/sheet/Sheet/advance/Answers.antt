-- `advance` meets its contract. Assumes nothing.
use native.Mathlib.Omega.{arith}
use Rattle.finder.proofs.Walking.{begun_end}
use Rattle.finder.proofs.sheet.Sheet.advance.Goals as goal

pub overflow_add-result : goal.overflow_add-result
overflow_add-result c =
    let s = c.begin-s in
    let v = (begun_end c.requires s.result s.ensures c.run-r.result c.run-r.ensures).leads in
    omega (arith, v.cheap, v.on, v.within, c.requires.text)

pub returns : goal.returns
returns c = let s = c.begin-s in begun_end c.requires s.result s.ensures c.run-r.result c.run-r.ensures
