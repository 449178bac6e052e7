-- WHAT A TEXT ALONE TELLS of a code: its places, and the watch that belongs to it. Assumes nothing: these are definitions.
use Rattle.std.specs.Prelude.{List, [], ℕ, length}
use Rattle.words.specs.Words.{state_of}
use Rattle.runs.specs.Reading.{over}
use Rattle.automaton.specs.Costs.{costs, sum}
use Rattle.finder.specs.declared.Watch.{Watch}
use Rattle.finder.specs.Machine.{found_after}

-- the places, found where the text so far ends with the code
abbrev pub places : (w text : List ℕ) → List ℕ
places w ts = over (found_after w) [] ts

-- the watch, whatever the pieces in which the text came
abbrev pub watch_of : (w text : List ℕ) → Watch
watch_of w ts = record { state = state_of w ts; taken = length ts; hits = length (places w ts); compares = sum (costs w ts) }
