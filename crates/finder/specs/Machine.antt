-- THE PLAIN MACHINE of document 01: a text, a total and the places found. It never sees a watch: it is the independent paper that the watch is held against.
-- With feeding it shares the step's cost, none or one place (`place_if`), what a call is lent, and how refusals are listed. Assumes nothing: these are
-- definitions.
use Rattle.std.specs.Prelude.{cond, List, [], ◌∷◌, ◌++◌, ℕ, zero, suc, ◌+◌, ◌-◌, ltb, eqb, length}
use Rattle.words.specs.Words.{ends_with}
use Rattle.runs.specs.Reading.{longest_text, place_if}
use Rattle.runs.specs.Calls.{Call}
use Rattle.automaton.specs.Costs.{cost_after}
use Rattle.codes.specs.Refusals.{refused_if, first_refusal}

pub record Machine : Type 0 where
  pub text : List ℕ
  pub total : ℕ
  pub found : List ℕ

abbrev pub machine : (text : List ℕ) → (total : ℕ) → (found : List ℕ) → Machine
machine ts n ps = record { text = ts; total = n; found = ps }

abbrev pub machine_start : Machine
machine_start = machine [] 0 []

-- the place that is found with byte c after a text, where text and byte end with the code
unfoldable pub found_after : (w text : List ℕ) → (c : ℕ) → List ℕ
found_after w ts c = place_if (ends_with (ts ++ (c ∷ [])) w (length w)) (suc (length ts) - length w)

-- ONE BYTE: its cost (`cost_after`) is that of the step from the state that belongs to the text
unfoldable pub machine_byte : (w : List ℕ) → (c : ℕ) → Machine → Machine
machine_byte w c m =
    machine (m.text ++ (c ∷ [])) (m.total + cost_after w m.text c) (m.found ++ found_after w m.text c)

-- a piece, until it ends or as many places were found as the list has
unfoldable pub machine_piece : (w piece : List ℕ) → (room : ℕ) → Machine → Machine
machine_piece w [] k m = m
machine_piece w (c ∷ cs) zero m = m
machine_piece w (c ∷ cs) (suc k) m =
    machine_piece w cs (suc k - length (found_after w m.text c)) (machine_byte w c m)

-- what refuses a call after n bytes: 6, 7
unfoldable pub call_refusal : Call → (n : ℕ) → ℕ
call_refusal c n =
    first_refusal (refused_if 6 (eqb c.room 0) ∷ refused_if 7 (ltb longest_text (n + length c.piece)) ∷ [])

-- a call, and a list of them
unfoldable pub machine_call : (w : List ℕ) → Call → Machine → Machine
machine_call w c m = cond (eqb (call_refusal c (length m.text)) 0) (machine_piece w c.piece c.room m) m

unfoldable pub machine_after : (w : List ℕ) → List Call → Machine → Machine
machine_after w [] m = m
machine_after w (c ∷ cs) m = machine_after w cs (machine_call w c m)

-- the refusals of a list of calls, one by one, 0 for none
unfoldable pub machine_refusals : (w : List ℕ) → List Call → Machine → List ℕ
machine_refusals w [] m = []
machine_refusals w (c ∷ cs) m = call_refusal c (length m.text) ∷ machine_refusals w cs (machine_call w c m)
