-- `label` meets its contract. Byte t of the code is at index t - 1. Assumes nothing.
use Rattle.words.specs.Words.{byte}
use Rattle.automaton.specs.Arrows.{label}
use Rattle.finder.proofs.sheet.Sheet.label.Goals as goal

pub returns : goal.returns
unfolding label byte
returns c = rw (← c.self.view_is)
