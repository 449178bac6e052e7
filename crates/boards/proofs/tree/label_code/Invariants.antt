-- `label_code` meets its contract. The loop keeps that the bytes passed are labels. Assumes nothing.
use Rattle.boards.proofs.Trees.{Labelling}
use Rattle.boards.proofs.tree.label_code.Given as goal

abbrev pub invariant-loop-i : goal.invariant-loop-i
invariant-loop-i l = Labelling l.s l.i l.code l.initial.next l.next
