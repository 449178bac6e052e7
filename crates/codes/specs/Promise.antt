-- What is promised of answers and of codes. Each statement is a type; docs/PROOFS.md names its proof. Assumes nothing.
use Rattle.std.specs.Prelude.{◌≡◌, true, cond, List, ◌↔◌, ℕ, ◌≤◌, eqb, length}
use Rattle.words.specs.Words.{Every}
use Rattle.codes.specs.Refusals.{answered, answer_refusal, answer_value}
use Rattle.codes.specs.Codes.{accepted}
use Rattle.codes.specs.Entry.{total_answer}

-- an answer has its refusal's number, and its value where there is none
unfoldable pub AnswersTold : Type 0
AnswersTold = (n v : ℕ) → (answer_refusal (answered n v) ≡ n) × (answer_value (answered n v) ≡ cond (eqb n 0) v 0)

-- the accepted codes are those of 1 to 4,000 bytes, none of them below 32
unfoldable pub CodesAccepted : Type 0
CodesAccepted =
    (w : List ℕ) → (accepted w ≡ true) ↔ ((1 ≤ length w) × (length w ≤ 4000) × Every (λ v. 32 ≤ v) w)

-- and the lengths whose total ceiling is not refused are those from 1 to 4,000
unfoldable pub LengthsAccepted : Type 0
LengthsAccepted = (m n : ℕ) → (answer_refusal (total_answer m n) ≡ 0) ↔ ((1 ≤ m) × (m ≤ 4000))
