-- `prepare_code` meets its contract. By whether the code was kept; else its refusal is the one that preparing answers. Assumes nothing.
use Rattle.find.proofs.Pieces.{code_long, code_prepared}
use Rattle.find.proofs.prepare_code.Goals as goal

pub returns-then-kept-n : goal.returns-then-kept-n
returns-then-kept-n c = code_long _ _ _ c.if-kept-n.true

pub returns : goal.returns
returns c = code_prepared _ _ _ _ _ c.if-kept-n.false c.prepare.ensures
