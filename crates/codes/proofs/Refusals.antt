-- Laws of refusals: what a list without one tells, what an answer is, and what a code without a refusal is. A list of refusals computes once its tests are
-- known: one rewriting for each test decides it. Assumes nothing.
use mathlib.Core.Path.{◌≡◌, refl, sym, ap, ◌∙◌}
use mathlib.Core.Bool.{Bool, true, false, not}
use mathlib.Core.List.{List, [], ◌∷◌}
use mathlib.Core.Logic.{◌≢◌}
use Prim.Native.Nat.{ℕ, zero, suc, ◌≤◌, ◌<◌}
use native.Mathlib.Omega.{arith}
use lib.Dec.{ltb, eqb, eqb-suc-zero}
use lib.ListN.{length}
use borrow.Author.Tests.{eq-eqb, ne_eqb, lt-ltb, le-ltb, eqb-true, eqb-false, ltb-false}
use Rattle.std.specs.Prelude.{Result, Err}
use Rattle.runs.specs.declared.Refusal.{Refusal}
use Rattle.runs.specs.Refusals.{refusal_number}
use Rattle.runs.proofs.Refusals.{number_some}
use Rattle.words.specs.Words.{Every}
use Rattle.words.proofs.Tests.{by_test}
use Rattle.automaton.specs.Ceilings.{total_ceiling}
use Rattle.codes.specs.Refusals.{Value, Refused, told, refused_if, first_refusal, answered, answer_refusal}
use Rattle.codes.specs.Codes.{length_refusal, longest_code, has_control, code_refusal, accepted}
use Rattle.codes.specs.Entry.{total_answer}
use Rattle.codes.specs.Promise.{AnswersTold, CodesAccepted, LengthsAccepted}
use Rattle.codes.proofs.Controls.{clean_bytes, bytes_clean}

-- NO REFUSAL: none of the list, and no condition holds
pub none_of : (ns : List ℕ) → first_refusal ns ≡ 0 → Every (λ n. n ≡ 0) ns
unfolding first_refusal
none_of [] e = tt
none_of (zero ∷ ns) e = (refl, none_of ns e)
none_of (suc n ∷ ns) e = absurd (omega arith)

pub not_refused : (n : ℕ) (t : Bool) → refused_if (suc n) t ≡ 0 → t ≡ false
unfolding refused_if
not_refused n true e = absurd (omega arith)
not_refused n false e = refl

-- A REFUSAL is the first, whatever is behind it
pub first_here : (n : ℕ) (ns : List ℕ) → n ≢ 0 → first_refusal (n ∷ ns) ≡ n
unfolding first_refusal
first_here zero ns h = absurd (h refl)
first_here (suc n) ns h = refl

-- ANSWERS
pub answered_value : (n v : ℕ) → n ≡ 0 → answered n v ≡ Value v
unfolding answered
answered_value zero v e = refl
answered_value (suc n) v e = absurd (omega arith)

pub answered_refusal : (n v : ℕ) → n ≢ 0 → answered n v ≡ Refused n
unfolding answered
answered_refusal zero v h = absurd (h refl)
answered_refusal (suc n) v h = refl

pub answers_told : AnswersTold
unfolding AnswersTold answered
answers_told zero v = (refl, refl)
answers_told (suc n) v = (refl, rw eqb-suc-zero refl)

-- what the code answers is that: a value where there is no refusal, else the refusal's number
pub told_value : (n v : ℕ) → 0 ≡ n → Value v ≡ answered n v
told_value n v e = sym (answered_value n v (sym e))

pub told_refused : (r : Result ℕ Refusal) (s : Refusal) (n v : ℕ) → r ≡ Err s → refusal_number s ≡ n → told r ≡ answered n v
told_refused r s n v is e =
    let some : n ≢ 0 = λ z. number_some s (e ∙ z) in
    ap told is ∙ ap Refused e ∙ sym (answered_refusal n v some)

-- A LENGTH is refused where it is 0 or too large, and in no other case
module _ (l m : ℕ) where
  pub length_none : m ≡ 0 → length_refusal l m ≡ 1
  unfolding length_refusal first_refusal refused_if
  length_none e = rw (eq-eqb m 0 e)

  pub length_over : m ≢ 0 → l < m → length_refusal l m ≡ 2
  unfolding length_refusal first_refusal refused_if
  length_over n h = rw (ne_eqb m 0 n, lt-ltb l m h)

  pub length_good : m ≢ 0 → m ≤ l → length_refusal l m ≡ 0
  unfolding length_refusal first_refusal refused_if
  length_good n h = rw (ne_eqb m 0 n, le-ltb l m h)

  pub length_bounds : length_refusal l m ≡ 0 → (1 ≤ m) × (m ≤ l)
  unfolding length_refusal
  length_bounds e =
      let n = none_of _ e in
      let some : m ≢ 0 = eqb-false m 0 (not_refused 0 (eqb m 0) n.0) in
      (omega arith, ltb-false l m (not_refused 1 (ltb l m) n.1.0))

-- A CODE is refused by its length, then by its bytes
module _ (w : List ℕ) where
  pub code_by_length : length_refusal longest_code (length w) ≢ 0 → code_refusal w ≡ length_refusal longest_code (length w)
  unfolding code_refusal
  code_by_length h = first_here _ _ h

  -- a refusal of the length is the code's
  pub code_length : (s : Refusal) → refusal_number s ≡ length_refusal longest_code (length w) → refusal_number s ≡ code_refusal w
  code_length s e = e ∙ sym (code_by_length (λ z. number_some s (e ∙ z)))

  pub code_control : length_refusal longest_code (length w) ≡ 0 → has_control w ≡ true → code_refusal w ≡ 13
  unfolding code_refusal first_refusal refused_if
  code_control none e = rw (none, e)

  pub code_good : length_refusal longest_code (length w) ≡ 0 → has_control w ≡ false → code_refusal w ≡ 0
  unfolding code_refusal first_refusal refused_if
  code_good none e = rw (none, e)

  -- one that is too long is refused as such, whatever its bytes
  pub code_over : longest_code < length w → code_refusal w ≡ 2
  code_over h =
      let e = length_over longest_code (length w) (λ z. omega arith) h in
      code_by_length (λ z. absurd (omega (arith, e))) ∙ e

  -- WITHOUT A REFUSAL
  pub code_bounds : code_refusal w ≡ 0 → (1 ≤ length w) × (length w ≤ longest_code)
  unfolding code_refusal
  code_bounds e = length_bounds longest_code (length w) (none_of _ e).0

  pub code_clean : code_refusal w ≡ 0 → has_control w ≡ false
  unfolding code_refusal
  code_clean e = not_refused 12 (has_control w) (none_of _ e).1.0

pub accepted_none : (w : List ℕ) → accepted w ≡ true → code_refusal w ≡ 0
unfolding accepted
accepted_none w e = eqb-true (code_refusal w) 0 e

pub none_accepted : (w : List ℕ) → code_refusal w ≡ 0 → accepted w ≡ true
unfolding accepted
none_accepted w e = eq-eqb (code_refusal w) 0 e

pub accepted_bounds : (w : List ℕ) → accepted w ≡ true → (1 ≤ length w) × (length w ≤ longest_code)
accepted_bounds w e = code_bounds w (accepted_none w e)

-- of 1 to 4,000 bytes a code is accepted unless it has a control byte
pub accepted_within : (w : List ℕ) → 1 ≤ length w → length w ≤ longest_code → accepted w ≡ not (has_control w)
unfolding accepted
accepted_within w some few =
    let none = length_good longest_code (length w) (λ z. omega arith) few in
    by_test (has_control w)
    (λ t. rw (t, code_control w none t) refl)
    (λ t. rw (t, code_good w none t) refl)

pub codes_accepted : CodesAccepted
unfolding CodesAccepted
codes_accepted w = (
  λ e. let b = accepted_bounds w e in (b.0, b.1, clean_bytes w (code_clean w (accepted_none w e))),
  λ h. accepted_within w h.0 h.1 ∙ ap not (bytes_clean w h.2),
)

pub lengths_accepted : LengthsAccepted
unfolding LengthsAccepted AnswersTold total_answer
lengths_accepted m n =
    let r : ℕ = length_refusal longest_code m in
    let told : answer_refusal (answered r (total_ceiling m n)) ≡ r = (answers_told r (total_ceiling m n)).0 in (
      λ e. length_bounds longest_code m (sym told ∙ e),
      λ h. told ∙ length_good longest_code m (λ z. omega (arith, h.0)) h.1,
    )
