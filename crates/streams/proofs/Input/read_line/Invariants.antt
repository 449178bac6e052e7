-- `read_line` meets its contract: the loop is left only when no more of the line is to come. Assumes nothing.
use Rattle.forms.specs.Line.{goes_on}
use Rattle.streams.specs.Streams.{LineOn}
use Rattle.streams.proofs.Moving.{turns_left}
use Rattle.streams.proofs.Input.read_line.Given as goal

abbrev pub invariant-loop-self : goal.invariant-loop-self
invariant-loop-self l = LineOn l.fn.line l.fn.kept l.fn.self l.so_far l.kept l.self

abbrev pub decreases-loop-self : goal.decreases-loop-self
decreases-loop-self l = turns_left (goes_on l.so_far) l.self
