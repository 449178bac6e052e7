-- Which codes are accepted. Assumes nothing: these are definitions.
use Rattle.std.specs.Prelude.{Bool, false, ◌||◌, List, [], ◌∷◌, ℕ, ltb, eqb, length}
use Rattle.codes.specs.Refusals.{refused_if, first_refusal}

-- the refusal of a length that may not be over `longest`: 1, 2
unfoldable pub length_refusal : (longest m : ℕ) → ℕ
length_refusal l m = first_refusal (refused_if 1 (eqb m 0) ∷ refused_if 2 (ltb l m) ∷ [])

-- the longest code that is accepted
abbrev pub longest_code : ℕ
longest_code = 4000

-- whether a code has a control byte, one below 32
unfoldable pub has_control : (code : List ℕ) → Bool
has_control [] = false
has_control (v ∷ vs) = ltb v 32 || has_control vs

-- the refusal of a code: 1, 2, 13
unfoldable pub code_refusal : (code : List ℕ) → ℕ
code_refusal w = first_refusal (length_refusal longest_code (length w) ∷ refused_if 13 (has_control w) ∷ [])

unfoldable pub accepted : (code : List ℕ) → Bool
accepted w = eqb (code_refusal w) 0
