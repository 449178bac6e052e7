-- Every value that is answered fits a signed number of 64 bits. Assumes nothing.
use mathlib.Core.Path.{◌≡◌, refl, ap, ◌∙◌}
use mathlib.Core.List.{List}
use Prim.Native.Nat.{ℕ, zero, suc, ◌*◌, ◌-◌, ◌^◌, ◌≤◌, ◌<◌}
use native.Mathlib.Omega.{arith}
use native.Mathlib.Nat.{mul-le-mul_right, div-le_of_le-mul, mul_comm, mul_assoc}
use lib.ListN.{length}
use Rattle.automaton.specs.Ceilings.{byte_ceiling, total_ceiling}
use Rattle.automaton.proofs.ByteCeiling.{ceiling_length}
use Rattle.codes.specs.Refusals.{answered, answer_value}
use Rattle.codes.specs.Codes.{longest_code, length_refusal, code_refusal}
use Rattle.sheets.specs.Sheet.{sheet, sheet_room, longest_sheet}
use Rattle.sheets.specs.Promise.{SheetSized}
use Rattle.codes.specs.Entry.{byte_answer, total_answer}
use Rattle.sheets.specs.Entry.{prepare_refusal, prepare_answer}
use Rattle.codes.proofs.Refusals.{none_of, code_bounds}
use Rattle.sheets.proofs.Widths.{room_bound}
use Rattle.sheets.proofs.Sheets.{sheet_sized}

-- a limit of the value where there is no refusal is one of the answer
answer_below : (n v limit : ℕ) → (n ≡ 0 → v < limit) → 0 < limit → answer_value (answered n v) < limit
unfolding answered
answer_below zero v limit below some = below refl
answer_below (suc n) v limit below some = some

-- THE VALUES: a sheet has room in that of the longest code, a byte ceiling is at most the code's length, a total ceiling at most twice the bytes
sheet_limit : (w : List ℕ) → length w ≤ longest_code → length (sheet w) ≤ longest_sheet
unfolding SheetSized
sheet_limit w few = omega (arith, (sheet_sized w).2, room_bound (length w) few)

total_limit : (m n : ℕ) → total_ceiling m n ≤ 2 * n
unfolding total_ceiling
total_limit m n =
    let more : (2 * m - 1) * n ≤ (2 * m) * n = mul-le-mul_right n (omega arith) in
    let turned : (2 * m) * n ≡ m * (2 * n) = ap (λ (k : ℕ). k * n) (mul_comm 2 m) ∙ mul_assoc m 2 n in
    div-le_of_le-mul m (omega arith)

-- THE ANSWERS
prepare_code : (w : List ℕ) (k : ℕ) → prepare_refusal w k ≡ 0 → code_refusal w ≡ 0
unfolding prepare_refusal
prepare_code w k none = (none_of _ none).0

pub prepare_answer_fits : (w : List ℕ) (k : ℕ) → answer_value (prepare_answer w k) < 2 ^ 63
unfolding prepare_answer sheet_room
prepare_answer_fits w k =
    answer_below (prepare_refusal w k) (length (sheet w)) (2 ^ 63)
    (λ none. omega (arith, sheet_limit w (code_bounds w (prepare_code w k none)).1)) (omega arith)

pub byte_answer_fits : (w : List ℕ) → answer_value (byte_answer w) < 2 ^ 63
unfolding byte_answer
byte_answer_fits w =
    answer_below (code_refusal w) (byte_ceiling w) (2 ^ 63) (λ none. omega (arith, ceiling_length w, code_bounds w none)) (omega arith)

pub total_answer_fits : (m n : ℕ) → n < 2 ^ 32 → answer_value (total_answer m n) < 2 ^ 63
unfolding total_answer
total_answer_fits m n few = answer_below (length_refusal longest_code m) (total_ceiling m n) (2 ^ 63) (λ none. omega (arith, total_limit m n)) (omega arith)
