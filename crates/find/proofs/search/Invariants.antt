-- `search` meets its contract: the loop is left only when no more of the text is to come. Assumes nothing.
use Rattle.std.specs.Prelude.{is_some}
use Rattle.finder.specs.Feed.{opened}
use Rattle.find.specs.Program.{SearchOn}
use Rattle.streams.proofs.Moving.{turns_left}
use Rattle.find.proofs.search.Given as goal

abbrev pub invariant-loop-next : goal.invariant-loop-next
invariant-loop-next l = SearchOn l.sheet opened l.initial.input l.initial.output l.next l.input l.output

abbrev pub decreases-loop-next : goal.decreases-loop-next
decreases-loop-next l = turns_left (is_some l.next) l.input
