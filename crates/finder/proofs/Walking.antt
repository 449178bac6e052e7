-- Bytes read in stretches, as long as no place is complete: where they lead on from what was read before. Assumes nothing.
use mathlib.Core.Path.{◌≡◌, refl}
use mathlib.Core.Logic.{◌≢◌}
use mathlib.Core.List.{List}
use Prim.Native.Nat.{ℕ, ◌+◌, ◌*◌, ◌-◌, ◌≤◌, ◌<◌}
use native.Mathlib.Nat.{add-zero, le_refl}
use native.Mathlib.Omega.{arith}
use lib.ListN.{length, get_or}
use Rattle.words.proofs.Tests.{by_le}
use Rattle.automaton.specs.declared.Step.{Step}
use Rattle.automaton.specs.Arrows.{stepped}
use Rattle.codes.specs.Codes.{longest_code}
use Rattle.finder.specs.declared.Led.{Led}
use Rattle.finder.specs.Inside.{Leads, LedFrom, Begun, RanFrom, Readable, Running}
use Rattle.finder.proofs.Leading.{step_cheap, leads_none, leads_byte, leads_on}

-- from index i in state p to index j in state q, at a cost of c; so far no byte was read, or one was
pub record Ran (w : List ℕ) (p : ℕ) (piece : List ℕ) (i q c j : ℕ) : Type 0 where
  pub began : Running w p piece i
  pub on : i ≤ j
  pub within : j ≤ length piece
  pub state : q ≤ length w
  pub cheap : c ≤ longest_code * (j - i)
  pub still : j ≡ i → q ≡ p
  pub leads : (o from d : ℕ) → Leads w piece o from p d i → Leads w piece o from q (d + c) j

pub ran_none : {w : List ℕ} {p : ℕ} {piece : List ℕ} {i : ℕ} → Running w p piece i → Ran w p piece i p 0 i
ran_none {w} {p} {piece} {i} g =
    record {
      began = g;
      on = le_refl i;
      within = g.within;
      state = g.state;
      cheap = omega arith;
      still = λ e. refl;
      leads = λ o from d l. rw (add-zero d) l;
    }

module _ {w : List ℕ} {p : ℕ} {piece : List ℕ} {i q c j : ℕ} (s : Ran w p piece i q c j) where
  -- one stretch more
  module _ (inside : j < length piece) (short : q < length w) where
    pub ran_reading : Readable w q piece j
    ran_reading = record { state = s.state; inside = inside; text = s.began.text }

    pub ran_more : (t : Led) → LedFrom w piece q j t → Ran w p piece i t.state (c + t.cost) t.at
    ran_more t v =
        let on : i ≤ j = s.on in
        let later : j < t.at = v.later in
        record {
          began = s.began;
          on = omega arith;
          within = v.leads.within;
          state = v.leads.state;
          cheap = omega (arith, s.cheap, v.leads.cheap);
          still = λ e. absurd (omega arith);
          leads = λ o from d l.
              let cost : d + c + t.cost ≡ d + (c + t.cost) = omega arith in
              rw cost at (leads_on w piece (s.leads o from d l) short v.leads);
        }

  -- THE END: no byte is left, or the state is 0 or m
  ended : (1 ≤ q → q < length w → length piece ≤ j) → RanFrom w piece p i (record { state = q; cost = c; at = j })
  ended stop =
      record {
        on = s.on;
        later = λ some short inside.
            by_le j i
            (λ (h : j ≤ i).
            let e : q ≡ p = s.still (omega (arith, s.on)) in
            absurd (omega (arith, stop (omega arith) (omega arith))))
            (λ (h : i < j). h);
        leads = s.leads;
      }

  pub ran_out : length piece ≤ j → RanFrom w piece p i (record { state = q; cost = c; at = j })
  ran_out h = ended (λ some short. h)

  pub ran_to_start : q ≤ 0 → RanFrom w piece p i (record { state = q; cost = c; at = j })
  ran_to_start h = ended (λ some short. absurd (omega arith))

  pub ran_to_place : length w ≤ q → RanFrom w piece p i (record { state = q; cost = c; at = j })
  ran_to_place h = ended (λ some short. absurd (omega arith))

-- HOW THEY BEGIN, in state p at index i
module _ {w : List ℕ} {p : ℕ} {piece : List ℕ} {i : ℕ} (g : Readable w p piece i) where
  -- from 0
  pub begun_zero : p ≡ 0 → (s : Led) → LedFrom w piece 0 i s → Begun w piece p i s
  begun_zero e s v =
      let later : i < s.at = v.later in
      record { leads = rw e v.leads; still = λ z. absurd (omega arith) }

  -- from m
  pub begun_step : length w ≤ longest_code → (s : Step) → s ≡ stepped w p (get_or piece i 0) → Begun w piece p i (record { state = s.state; cost = s.cost; at = i + 1 })
  begun_step few s d =
      let cheap : s.cost ≤ longest_code = rw d (step_cheap w p (get_or piece i 0) g.state few) in
      record { leads = leads_byte w piece p i g.state g.inside s d cheap; still = λ z. absurd (omega arith) }

  -- elsewhere
  pub begun_none : p ≢ 0 → p ≢ length w → Begun w piece p i (record { state = p; cost = 0; at = i })
  begun_none some n =
      let low : p < length w = omega (arith, g.state) in
      record { leads = leads_none w piece p i low (omega (arith, g.inside)); still = λ z. (refl, omega arith, low) }

  -- AND GO ON
  module _ (s : Led) (v : Begun w piece p i s) where
    pub begun_running : Running w s.state piece s.at
    begun_running = record { state = v.leads.state; within = v.leads.within; text = g.text }

    pub begun_end : (t : Led) → RanFrom w piece s.state s.at t →
        LedFrom w piece p i (record { state = t.state; cost = s.cost + t.cost; at = t.at })
    begun_end t r =
        record {
          later =
              by_le s.at i
              (λ (h : s.at ≤ i).
              let on : i ≤ s.at = v.leads.on in
              let is = v.still (omega arith) in
              omega (arith, r.later (omega (arith, is)) (omega (arith, is)) (omega (arith, g.inside))))
              (λ (h : i < s.at). omega (arith, r.on));
          leads = r.leads p i s.cost v.leads;
        }
