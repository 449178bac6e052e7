-- A small reader whose readings are worked out by hand: it adds the bytes up, tells the sum before a byte and the byte, and so needs two spots. Assumes
-- nothing: these are definitions.
use Rattle.std.specs.Prelude.{◌≡◌, List, [], ◌∷◌, ℕ, ◌+◌, ltb, length, cond}
use Rattle.runs.specs.Reading.{over, Reader, fed, feed, PieceDone, ListFull, ending}
use Rattle.runs.specs.Calls.{run, Call, called}

abbrev adder : Reader ℕ ℕ
adder = record { byte = λ c x. x + c; tells = λ c x. x ∷ c ∷ []; needs = 2 }

abbrev call : (piece : List ℕ) → (room : ℕ) → Call
call cs k = record { piece = cs; room = k }

-- a call with fewer than two spots is refused with 6
abbrev refuses : Call → ℕ → ℕ
refuses c x = cond (ltb c.room 2) 6 0

unfoldable pub AdderSamplesHold : Type 0
AdderSamplesHold =
    (over (λ bs c. length bs ∷ c ∷ []) [] (7 ∷ 8 ∷ 9 ∷ []) ≡ 0 ∷ 7 ∷ 1 ∷ 8 ∷ 2 ∷ 9 ∷ [])
    × (feed adder (7 ∷ 8 ∷ 9 ∷ []) 5 1 ≡ fed 16 2 (1 ∷ 7 ∷ 8 ∷ 8 ∷ []))
    × (ending 2 (7 ∷ 8 ∷ 9 ∷ []) 5 (feed adder (7 ∷ 8 ∷ 9 ∷ []) 5 1) ≡ ListFull)
    × (ending 2 (7 ∷ 8 ∷ []) 4 (feed adder (7 ∷ 8 ∷ []) 4 1) ≡ PieceDone)
    × (run (called adder refuses) (call (7 ∷ 8 ∷ []) 3 ∷ call (9 ∷ []) 1 ∷ call (8 ∷ []) 2 ∷ []) 1
    ≡ record { after = 16; bytes = 7 ∷ 8 ∷ []; told = 1 ∷ 7 ∷ 8 ∷ 8 ∷ [] })
