-- `put` meets its contract. By whether the place is inside the buffer. Assumes nothing.
use Rattle.forms.proofs.Writing.{written_past, written_copied}
use Rattle.forms.proofs.put.Goals as goal

pub returns-then-buffer-at : goal.returns-then-buffer-at
returns-then-buffer-at c = written_past _ _ _ c.if-buffer-at.true

pub returns : goal.returns
returns c = written_copied _ _ _ _ _ c.if-buffer-at.false c.min-n.ensures c.copy_from_slice.ensures.after
