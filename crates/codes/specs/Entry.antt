-- What the ceilings answer. Assumes nothing: these are definitions.
use Rattle.std.specs.Prelude.{List, ℕ}
use Rattle.automaton.specs.Ceilings.{byte_ceiling, total_ceiling}
use Rattle.codes.specs.Refusals.{Answer, answered}
use Rattle.codes.specs.Codes.{length_refusal, longest_code, code_refusal}

-- of a code, and of a code's length and a byte count
unfoldable pub byte_answer : (code : List ℕ) → Answer
byte_answer w = answered (code_refusal w) (byte_ceiling w)

unfoldable pub total_answer : (m n : ℕ) → Answer
total_answer m n = answered (length_refusal longest_code m) (total_ceiling m n)
