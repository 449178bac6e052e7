-- `code_byte` meets its contract. By whether the byte may stand in the code. Assumes nothing.
use Rattle.forms.proofs.Pairs.{not_of_code}
use Rattle.forms.proofs.Lines.{code_kept, code_full, code_closed, code_wrong}
use Rattle.forms.proofs.code_byte.Goals as goal

pub returns-then-byte-eq41 : goal.returns-then-byte-eq41
returns-then-byte-eq41 c = code_closed _ _ _ _ (not_of_code _ _ c.in_default.ensures) c.if-byte-eq41.true

pub returns-else-byte-eq41 : goal.returns-else-byte-eq41
returns-else-byte-eq41 c = code_wrong _ _ _ _ (not_of_code _ _ c.in_default.ensures) c.if-byte-eq41.false

pub returns-then-n-kept : goal.returns-then-n-kept
returns-then-n-kept c = let t = c.in-Some.ensures in code_kept _ _ _ _ _ t.0 t.1 c.if-n-kept.true

pub returns : goal.returns
returns c = let t = c.in-Some.ensures in code_full _ _ _ _ _ t.0 t.1 c.if-n-kept.false
