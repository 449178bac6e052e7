-- Bytes read from state 0 on, as long as they lead to 0 and 1: those up to the code's first byte, those that lead from 1 to 1 again, and the one that leaves
-- state 1. Assumes nothing.
use mathlib.Core.Path.{◌≡◌, refl, sym, ap, ◌∙◌}
use mathlib.Core.Logic.{◌≢◌}
use mathlib.Core.List.{List}
use Prim.Native.Nat.{ℕ, suc, ◌+◌, ◌*◌, ◌-◌, ◌≤◌, ◌<◌}
use native.Mathlib.Omega.{arith}
use lib.ListN.{length, get_or, drop_of_length-le}
use Rattle.runs.specs.Reading.{longest_text}
use Rattle.automaton.specs.declared.Arrow.TheVariants.{Forward, Nothing}
use Rattle.automaton.specs.declared.Step.{Step}
use Rattle.automaton.specs.Arrows.{label, back_targets, arrows, arrows_below, step, stepped}
use Rattle.automaton.specs.Promise.{StepsAtZero}
use Rattle.automaton.proofs.Targets.{label_suc, back_one}
use Rattle.automaton.proofs.Counts.{below_suc, below_one}
use Rattle.automaton.proofs.Steps.{steps_at_zero, step_none, step_one, step_not_one, forward_on, forward_off}
use Rattle.codes.specs.Codes.{longest_code}
use Rattle.finder.specs.declared.Led.{Led}
use Rattle.finder.specs.Inside.{Skipped, Stayed, Leads, LedFrom, Readable, StayedOne, led_to}
use Rattle.finder.proofs.Passing.{passed_none, passed_as, stopped_found}
use Rattle.finder.proofs.Leading.{step_cheap, leads_none, leads_on, leads_step, leads_same, leads_other}

-- STATE 1 has at most one backward arrow, to 1 again on the code's first byte
module _ (w piece : List ℕ) (from : ℕ) (h : from ≤ length piece) where
  pub stayed_none : arrows_below w 2 ≡ 0 → StayedOne w piece from from
  stayed_none e =
      let none : arrows w 1 ≡ 0 = omega (arith, e, below_suc w 1) in
      stopped_found (passed_none from) h (step_none w 1 (get_or piece from 0) (drop_of_length-le (back_targets w 1) {i = 0} (omega (arith, none))) ∙ rw none refl)

  pub stayed_on : arrows_below w 2 ≢ 0 → (at : ℕ) → Stayed piece from (label w 1) at → StayedOne w piece from at
  stayed_on n at s =
      let own = back_one w (omega (arith, n, below_suc w 1, below_one w)) in
      record {
        passed = passed_as s.passed (λ i e. step_one w 1 (get_or piece i 0) 1 own (sym e));
        within = s.within;
        found = λ l. step_not_one w 1 (get_or piece at 0) 1 own (λ e. s.found l (sym e)) ∙ rw (ap length own) refl;
      }

-- an answer that is another
pub led_as : {w piece : List ℕ} {p i : ℕ} (s t : Led) → s ≡ t → LedFrom w piece p i t → LedFrom w piece p i s
led_as s t e m = rw e m

-- the bytes from one index to index i lead to 0: one comparison for each, and the labels that failed besides
pub record Started (w piece : List ℕ) (from failed i : ℕ) : Type 0 where
  pub some : 1 ≤ length w
  pub few : length w ≤ longest_code
  pub began : Readable w 0 piece from
  pub leads : Leads w piece 0 from 0 (i - from + failed) i

pub started : {w piece : List ℕ} {from : ℕ} → (1 ≤ length w) × (length w ≤ longest_code) → Readable w 0 piece from → Started w piece from 0 from
started {w} {piece} {from} b g =
    let none : from - from + 0 ≡ 0 = omega arith in
    record {
      some = b.0;
      few = b.1;
      began = g;
      leads = rw none (leads_none w piece 0 from b.0 (omega (arith, g.inside)));
    }

module _ {w piece : List ℕ} {from failed i : ℕ} (s : Started w piece from failed i) where
  cheap : (p c : ℕ) → p ≤ length w → (stepped w p c).cost ≤ longest_code
  cheap p c h = step_cheap w p c h s.few

  -- what sums and calls need
  pub started_bounds : (from ≤ i) × (i ≤ length piece) × (i - from + failed ≤ longest_code * (i - from)) × (length piece ≤ longest_text)
  started_bounds = (s.leads.on, s.leads.within, s.leads.cheap, s.began.text)

  pub started_end : length piece ≤ i → LedFrom w piece 0 from (led_to 0 from i failed)
  started_end h = record { later = omega (arith, s.began.inside); leads = s.leads }

  -- UP TO THE CODE'S FIRST BYTE
  module _ (j : ℕ) (k : Skipped piece i (label w 1) j) where
    on : from ≤ i
    on = s.leads.on

    past : i ≤ j
    past = k.passed.on

    missed : Leads w piece 0 from 0 (j - from + failed) j
    missed =
        let cost : i - from + failed + (j - i) ≡ j - from + failed = omega (arith, on, past) in
        rw cost at
        (leads_on w piece s.leads s.some
        (leads_other w piece s.some i j (passed_as k.passed (λ a n z. n (sym (label_suc w 0 ∙ z)))) k.within))

    pub started_missed : length piece ≤ j → LedFrom w piece 0 from (led_to 0 from j failed)
    started_missed h = record { later = omega (arith, s.began.inside); leads = missed }

    -- and on it
    module _ (here : j < length piece) where
      first : Leads w piece 0 from 1 (j + 1 - from + failed) (j + 1)
      unfolding StepsAtZero
      first =
          let is = (steps_at_zero w (get_or piece j 0) s.some).0 (sym (k.found here ∙ label_suc w 0)) in
          let cost : j - from + failed + 1 ≡ j + 1 - from + failed = omega (arith, on, past) in
          rw cost at (leads_step w piece missed s.some here (step 1 1 Forward) (sym is) (omega arith))

      pub started_first : LedFrom w piece 0 from (led_to 1 from (j + 1) failed)
      started_first = record { later = omega (arith, on, past); leads = first }

      -- IN STATE 1, below m
      module _ (two : 2 ≤ length w) (l : ℕ) (y : StayedOne w piece (j + 1) l) where
        low : 1 < length w
        low = omega arith

        after : j + 1 ≤ l
        after = y.passed.on

        stayed : Leads w piece 0 from 1 (l - from + failed) l
        stayed =
            let cost : j + 1 - from + failed + (l - (j + 1)) ≡ l - from + failed = omega (arith, on, past, after) in
            rw cost at
            (leads_on w piece first low
            (leads_same w piece 1 low (j + 1) l (passed_as y.passed (λ a e. rw e (refl, refl))) y.within))

        pub started_stayed : LedFrom w piece 0 from (led_to 1 from l failed)
        started_stayed = record { later = omega (arith, on, past, after); leads = stayed }

        -- and leaving it
        module _ (there : l < length piece) (n : ℕ) (e : n ≡ arrows w 1) where
          left : (q : Step) → q ≡ stepped w 1 (get_or piece l 0) → q.cost ≡ suc (arrows w 1) →
              Leads w piece 0 from q.state (l + 1 - from + (failed + n)) (l + 1)
          left q f c =
              let cost : l - from + failed + suc (arrows w 1) ≡ l + 1 - from + (failed + n) = omega (arith, on, past, after, e) in
              rw (c, cost) at (leads_step w piece stayed low there q f (rw f (cheap 1 (get_or piece l 0) (omega (arith, low)))))

          pub started_two : get_or piece l 0 ≡ label w 2 → LedFrom w piece 0 from (led_to 2 from (l + 1) (failed + n))
          started_two f =
              record {
                later = omega (arith, on, past, after);
                leads =
                    left (step 2 (suc (arrows w 1)) Forward)
                    (sym (y.found there ∙ forward_on (arrows w 1) w 1 (get_or piece l 0) low (sym (f ∙ label_suc w 1)))) refl;
              }

          pub started_again : get_or piece l 0 ≢ label w 2 → Started w piece from (failed + n) (l + 1)
          started_again f =
              record {
                some = s.some;
                few = s.few;
                began = s.began;
                leads =
                    left (step 0 (suc (arrows w 1)) Nothing)
                    (sym (y.found there ∙ forward_off (arrows w 1) w 1 (get_or piece l 0) low (λ z. f (sym (label_suc w 1 ∙ z))))) refl;
              }
