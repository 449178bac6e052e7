-- WHAT THE BYTES OF A TEXT COST. Assumes nothing: these are definitions.
use Rattle.std.specs.Prelude.{List, [], ◌∷◌, ℕ, ◌+◌}
use Rattle.words.specs.Words.{state_of}
use Rattle.runs.specs.Reading.{over}
use Rattle.automaton.specs.Arrows.{stepped}

-- byte c after a text costs what the step from the state that belongs to the text costs
unfoldable pub cost_after : (w text : List ℕ) → (c : ℕ) → ℕ
cost_after w ts c = (stepped w (state_of w ts) c).cost

-- the costs of the bytes, one by one
abbrev pub costs : (w text : List ℕ) → List ℕ
costs w ts = over (λ bs c. cost_after w bs c ∷ []) [] ts

unfoldable pub sum : List ℕ → ℕ
sum [] = 0
sum (n ∷ ns) = n + sum ns
