-- What is promised of the ceilings: they are reached. Each statement is a type; docs/PROOFS.md names its proof. Assumes nothing.
use Rattle.std.specs.Prelude.{◌≡◌, true, List, [], ◌∷◌, ◌++◌, ℕ, ◌+◌, ◌≤◌, ◌<◌, length}
use Rattle.words.specs.Words.{Every}
use Rattle.automaton.specs.Ceilings.{log2, byte_ceiling, total_ceiling}
use Rattle.automaton.specs.Costs.{cost_after, costs, sum}
use Rattle.codes.specs.Refusals.{Value}
use Rattle.codes.specs.Codes.{accepted}
use Rattle.codes.specs.Entry.{byte_answer, total_answer}
use Rattle.sheets.specs.Entry.{prepare_refusal, prepare_buffer}
use Rattle.finder.specs.Entry.{Lent, lent, feed_run, told_places}
use Rattle.reached.specs.Words.{costly_code, costly_text, steep_code, steep_text, steep_byte}

-- WORDS OF ANY LENGTH. A code of m bytes and a text of n bytes that together cost exactly the total ceiling
unfoldable pub TotalsReached : Type 0
TotalsReached =
    (m n : ℕ) → 1 ≤ m →
    (length (costly_code m) ≡ m)
    × (length (costly_text m n) ≡ n)
    × (sum (costs (costly_code m) (costly_text m n)) ≡ total_ceiling m n)

-- a code of m bytes, a text, and a byte after it that costs exactly 1 + log2 m, which is this code's byte ceiling
unfoldable pub BytesReached : Type 0
BytesReached =
    (m : ℕ) → 1 ≤ m →
    (length (steep_code m) ≡ m)
    × (cost_after (steep_code m) (steep_text m) (steep_byte m) ≡ 1 + log2 m)
    × (byte_ceiling (steep_code m) ≡ 1 + log2 m)

-- FEEDING a text costs so many comparisons, by the watch's own count: in every run of feeding calls, from preparing and an opening on, that takes the text;
-- and a run of one call does, with the text as its piece and a list with more spots than the text has bytes
pub record FeedingCosts (code text : List ℕ) (cost : ℕ) : Type 0 where
  pub every_run : (buffer : List ℕ) (ls : List Lent) → prepare_refusal code (length buffer) ≡ 0 →
      let r = feed_run told_places (prepare_buffer code buffer) ls in
      r.bytes ≡ text → r.after.compares ≡ cost
  pub one_call : (buffer list : List ℕ) → prepare_refusal code (length buffer) ≡ 0 → length text < length list →
      (feed_run told_places (prepare_buffer code buffer) (lent text list ∷ [])).bytes ≡ text

-- numbers that are bytes
abbrev pub Bytes : List ℕ → Type 0
Bytes bs = Every (λ v. v < 256) bs

-- a code of m bytes that is accepted: preparing takes it, in any buffer with room for the longest sheet
pub record CodeOf (m : ℕ) (code : List ℕ) : Type 0 where
  pub size : length code ≡ m
  pub bytes : Bytes code
  pub good : accepted code ≡ true
  pub prepares : (room : ℕ) → 20005 ≤ room → prepare_refusal code room ≡ 0

-- THE REQUEST, of totals: a text of n bytes whose feeding costs the number that the total ceiling answers
pub record TotalMet (m n : ℕ) : Type 0 where
  pub code : List ℕ
  pub text : List ℕ
  pub of_code : CodeOf m code
  pub size : length text ≡ n
  pub bytes : Bytes text
  pub ceiling : total_answer m n ≡ Value (total_ceiling m n)
  pub counted : FeedingCosts code text (total_ceiling m n)

-- and of bytes: a text and a next byte, which costs the number that the byte ceiling answers for the code
pub record ByteMet (m : ℕ) : Type 0 where
  pub code : List ℕ
  pub text : List ℕ
  pub next : ℕ
  pub before : ℕ
  pub of_code : CodeOf m code
  pub bytes : Bytes (text ++ (next ∷ []))
  pub ceiling : byte_answer code ≡ Value (1 + log2 m)
  pub counted_before : FeedingCosts code text before
  pub counted_after : FeedingCosts code (text ++ (next ∷ [])) (before + (1 + log2 m))

unfoldable pub CeilingsReached : Type 0
CeilingsReached = (m : ℕ) → 1 ≤ m → m ≤ 4000 → ((n : ℕ) → n ≤ 4294967295 → TotalMet m n) × ByteMet m
