-- What preparing answers and leaves behind. Assumes nothing: these are definitions.
use Rattle.std.specs.Prelude.{◌≡◌, cond, List, [], ◌∷◌, ℕ, ltb, eqb, length}
use Rattle.words.specs.Words.{in_front}
use Rattle.codes.specs.Refusals.{Answer, refused_if, first_refusal, answered}
use Rattle.codes.specs.Codes.{code_refusal}
use Rattle.sheets.specs.Sheet.{sheet, sheet_room}

-- REFUSALS, from a code and the length of the buffer: those of the code, then 3
unfoldable pub prepare_refusal : (code : List ℕ) → (room : ℕ) → ℕ
prepare_refusal w k = first_refusal (code_refusal w ∷ refused_if 3 (ltb k (sheet_room (length w))) ∷ [])

-- the sheet's length, or the refusal
unfoldable pub prepare_answer : (code : List ℕ) → (room : ℕ) → Answer
prepare_answer w k = answered (prepare_refusal w k) (length (sheet w))

-- the buffer afterwards: the sheet in front and no byte behind it changed; as it was if refused
unfoldable pub prepare_buffer : (code buffer : List ℕ) → List ℕ
prepare_buffer w a = cond (eqb (prepare_refusal w (length a)) 0) (in_front (sheet w) a) a

-- what `prepare` promises, its contract
pub record PrepareSays (code : List ℕ) (answer : Answer) (before after : List ℕ) : Type 0 where
  pub answers : answer ≡ prepare_answer code (length before)
  pub leaves : after ≡ prepare_buffer code before
