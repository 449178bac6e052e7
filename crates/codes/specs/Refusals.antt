-- Refusals in their order, and an answer that is a value or a refusal. Assumes nothing: these are definitions.
use Rattle.std.specs.Prelude.{Bool, cond, Result, Ok, Err, List, [], ◌∷◌, ℕ, zero, suc}
use Rattle.runs.specs.declared.Refusal.{Refusal}
use Rattle.runs.specs.Refusals.{refusal_number}

-- a refusal's number where its condition holds, else 0
unfoldable pub refused_if : (number : ℕ) → (condition : Bool) → ℕ
refused_if n t = cond t n 0

-- the first refusal of a list, 0 if there is none
unfoldable pub first_refusal : List ℕ → ℕ
first_refusal [] = 0
first_refusal (zero ∷ ns) = first_refusal ns
first_refusal (suc n ∷ ns) = suc n

-- WHAT AN ENTRY POINT ANSWERS: a value, or refused with a number
pub data Answer : Type 0 where
  Value : (value : ℕ) → Answer
  Refused : (number : ℕ) → Answer

-- what the code answers, in these words
abbrev pub told : Result ℕ Refusal → Answer
told (Ok v) = Value v
told (Err r) = Refused (refusal_number r)

-- the value, or the refusal if there is one
unfoldable pub answered : (refusal value : ℕ) → Answer
answered zero v = Value v
answered (suc n) v = Refused (suc n)

-- the number of an answer's refusal, 0 for none, and its value, 0 where it is refused
abbrev pub answer_refusal : Answer → ℕ
answer_refusal (Value v) = 0
answer_refusal (Refused n) = n

abbrev pub answer_value : Answer → ℕ
answer_value (Value v) = v
answer_value (Refused n) = 0
