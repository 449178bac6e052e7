-- The request: the codes are accepted, and what their texts cost is what the watch counts. Assumes nothing.
use mathlib.Core.Path.{◌≡◌, refl, ap, ◌∙◌}
use mathlib.Core.Bool.{true}
use mathlib.Core.List.{List, [], ◌∷◌, ◌++◌}
use Prim.Native.Nat.{ℕ, ◌+◌, ◌≤◌, ◌<◌}
use native.Mathlib.Omega.{arith}
use lib.ListN.{length}
use lib.Seq.{take_all}
use borrow.Author.Tests.{le-ltb, ne_eqb}
use Rattle.words.specs.Words.{Every}
use Rattle.words.proofs.Lists.{every_map, length_snoc}
use Rattle.automaton.specs.Ceilings.{log2, byte_ceiling, total_ceiling}
use Rattle.automaton.specs.Costs.{costs, sum}
use Rattle.automaton.specs.Promise.{LogarithmRight}
use Rattle.automaton.proofs.Logarithm.{exponent_less, logarithm_right}
use Rattle.automaton.proofs.Costs.{costs_snoc}
use Rattle.runs.specs.Calls.{called, unless_refused}
use Rattle.codes.specs.Refusals.{Value, refused_if, first_refusal}
use Rattle.codes.specs.Codes.{length_refusal, longest_code, code_refusal, accepted}
use Rattle.codes.specs.Entry.{byte_answer, total_answer}
use Rattle.codes.specs.Promise.{CodesAccepted}
use Rattle.codes.proofs.Refusals.{answered_value, length_good, accepted_none, codes_accepted}
use Rattle.sheets.specs.Sheet.{sheet_room}
use Rattle.sheets.specs.Entry.{prepare_refusal, prepare_buffer}
use Rattle.sheets.proofs.Entries.{prepare_roomy}
use Rattle.finder.specs.declared.Watch.{Watch}
use Rattle.finder.specs.Feed.{feed}
use Rattle.finder.specs.Texts.{watch_of}
use Rattle.finder.specs.Machine.{machine_start, call_refusal, machine_after}
use Rattle.finder.specs.Entry.{lent, feed_run, told_places, plain}
use Rattle.finder.specs.Promise.{PreparedCount}
use Rattle.finder.proofs.Places.{feed_whole}
use Rattle.finder.proofs.Texts.{machine_start_of, machine_call_read}
use Rattle.finder.proofs.Entries.{prepared_count}
use Rattle.reached.specs.Words.{costly_code, costly_text, steep_code, steep_text, steep_byte}
use Rattle.reached.specs.Promise.{FeedingCosts, CodeOf, TotalMet, ByteMet, CeilingsReached}
use Rattle.reached.proofs.TotalReached.{spaced_length, every_spaced, total_exact}
use Rattle.reached.proofs.ByteReached.{steep_length, steep_shorter, byte_exact, every_steep}

-- A CALL with the whole text from an opening on, and more spots than bytes: all bytes are taken, and the watch is that of the text
module _ (w text list buffer : List ℕ) (none : prepare_refusal w (length buffer) ≡ 0) (few : length text ≤ 4294967295) (room : length text < length list)
  where
    not_refused : call_refusal (plain (lent text list)) 0 ≡ 0
    unfolding call_refusal refused_if first_refusal
    not_refused = rw (ne_eqb (length list) 0 (λ e. omega arith), le-ltb 4294967295 (0 + length text) (omega arith)) refl

    machine_takes : (machine_after w (plain (lent text list) ∷ []) machine_start).text ≡ text
    unfolding machine_after called unless_refused
    machine_takes =
        rw (machine_start_of w, machine_call_read w [] (plain (lent text list)), not_refused)
        (take_all (feed w text (length list) (watch_of w [])).taken text (omega (arith, feed_whole w text (length list) (watch_of w []) (omega arith))))

    pub call_takes : (feed_run told_places (prepare_buffer w buffer) (lent text list ∷ [])).bytes ≡ text
    unfolding PreparedCount
    call_takes = (prepared_count w buffer (lent text list ∷ []) none).text ∙ machine_takes

    pub call_watch : (feed_run told_places (prepare_buffer w buffer) (lent text list ∷ [])).after ≡ watch_of w text
    unfolding PreparedCount
    call_watch = (prepared_count w buffer (lent text list ∷ []) none).watch ∙ ap (watch_of w) call_takes

-- so feeding a text costs what its bytes cost
feeding_costs : (w text : List ℕ) → length text ≤ 4294967295 → FeedingCosts w text (sum (costs w text))
unfolding PreparedCount
feeding_costs w text few =
    record {
      every_run = λ buffer ls none e.
          ap (λ (x : Watch). x.compares) (prepared_count w buffer ls none).watch ∙ ap (λ (ts : List ℕ). sum (costs w ts)) e;
      one_call = λ buffer list none room. call_takes w text list buffer none few room;
    }

-- THE CODES
pub prepares : (w : List ℕ) → accepted w ≡ true → (room : ℕ) → 20005 ≤ room → prepare_refusal w room ≡ 0
unfolding sheet_room
prepares w good room h = prepare_roomy w room h ∙ accepted_none w good

code_of : (m : ℕ) (w : List ℕ) → 1 ≤ m → m ≤ 4000 → length w ≡ m → Every (λ v. (32 ≤ v) × (v < 256)) w → CodeOf m w
unfolding CodesAccepted
code_of m w some short size all =
    let good = (codes_accepted w).1 (omega (arith, size), omega (arith, size), every_map w (λ v h. h.0) all) in
    record {
      size = size;
      bytes = every_map w (λ v h. h.1) all;
      good = good;
      prepares = prepares w good;
    }

module _ (m : ℕ) (some : 1 ≤ m) (short : m ≤ 4000) where
  pub costly_is : CodeOf m (costly_code m)
  costly_is = code_of m (costly_code m) some short (spaced_length m m) (every_spaced (λ v. (32 ≤ v) × (v < 256)) m m (omega arith) (omega arith))

  -- 32 + log2 m is a byte, since m is below 2 ^ 12
  every_byte : Every (λ v. (32 ≤ v) × (v < 256)) (steep_code m) × Every (λ v. (32 ≤ v) × (v < 256)) (steep_text m ++ (steep_byte m ∷ []))
  unfolding LogarithmRight
  every_byte =
      let low : log2 m < 12 = exponent_less m (log2 m) 12 (logarithm_right m some).0 (omega arith) in
      every_steep m (λ v. (32 ≤ v) × (v < 256)) (λ j h. (omega arith, omega arith))

  pub steep_is : CodeOf m (steep_code m)
  steep_is = code_of m (steep_code m) some short (steep_length m) every_byte.0

  -- THE ENTRY POINTS answer the ceilings
  pub total_answered : (n : ℕ) → total_answer m n ≡ Value (total_ceiling m n)
  unfolding total_answer
  total_answered n = answered_value (length_refusal longest_code m) (total_ceiling m n) (length_good 4000 m (λ e. omega arith) short)

  pub byte_answered : byte_answer (steep_code m) ≡ Value (1 + log2 m)
  unfolding byte_answer
  byte_answered =
      answered_value (code_refusal (steep_code m)) (byte_ceiling (steep_code m)) (accepted_none (steep_code m) steep_is.good)
      ∙ ap Value (byte_exact m some).1

  -- THE REQUEST
  total_met : (n : ℕ) → n ≤ 4294967295 → TotalMet m n
  total_met n few =
      let size = spaced_length m n in
      record {
        code = costly_code m;
        text = costly_text m n;
        of_code = costly_is;
        size = size;
        bytes = every_spaced (λ v. v < 256) m n (omega arith) (omega arith);
        ceiling = total_answered n;
        counted = rw (← total_exact m some n) (feeding_costs (costly_code m) (costly_text m n) (omega arith));
      }

  byte_met : ByteMet m
  byte_met =
      let text = steep_text m in
      let c = steep_byte m in
      let fits : length text < m = steep_shorter m some in
      record {
        code = steep_code m;
        text = text;
        next = c;
        before = sum (costs (steep_code m) text);
        of_code = steep_is;
        bytes = every_map (text ++ (c ∷ [])) (λ v h. h.1) every_byte.1;
        ceiling = byte_answered;
        counted_before = feeding_costs (steep_code m) text (omega arith);
        counted_after =
            rw (← (byte_exact m some).0, ← costs_snoc (steep_code m) text c)
            (feeding_costs (steep_code m) (text ++ (c ∷ [])) (omega (arith, length_snoc text c)));
      }

pub ceilings_reached : CeilingsReached
unfolding CeilingsReached
ceilings_reached m some short = (total_met m some short, byte_met m some short)
