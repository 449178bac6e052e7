-- Bytes of a piece lead from state to state: none, one, one stretch after another, and those that lead to the same state again. Assumes nothing.
use mathlib.Core.Path.{◌≡◌, refl, ◌∙◌}
use mathlib.Core.Logic.{◌≢◌}
use mathlib.Core.List.{List, [], ◌++◌}
use Prim.Native.Nat.{ℕ, zero, suc, ◌+◌, ◌-◌, ◌≤◌, ◌<◌}
use native.Mathlib.Nat.{add-zero, sub-zero}
use native.Mathlib.Numerals.{add-one}
use native.Mathlib.Omega.{arith}
use lib.ListN.{length, get_or, drop, length-append, drop_of_length-le}
use lib.Seq.{drop-cons}
use Rattle.words.specs.Words.{byte}
use Rattle.words.proofs.Lists.{every_at}
use Rattle.runs.specs.Reading.{fed_more}
use Rattle.runs.proofs.Feeds.{more_none, more_more, feed_end, feed_on}
use Rattle.automaton.specs.declared.Step.{Step}
use Rattle.automaton.specs.Arrows.{stepped}
use Rattle.automaton.specs.Promise.{StepsAtZero, ByteBelow}
use Rattle.automaton.proofs.Steps.{step_bounds, steps_at_zero}
use Rattle.automaton.proofs.ByteCeiling.{byte_below, ceiling_length}
use Rattle.codes.specs.Codes.{longest_code}
use Rattle.finder.specs.declared.Watch.{Watch}
use Rattle.finder.specs.Feed.{completed, reported, with_byte, feeder, feed}
use Rattle.finder.specs.Promise.{BytesPassed}
use Rattle.finder.specs.Inside.{Passed, further, GoesOn, Leads}
use Rattle.finder.proofs.Places.{completed_none}
use Rattle.finder.proofs.Passing.{passed_as}

-- a byte costs no more comparisons than the longest code has bytes
pub step_cheap : (w : List ℕ) (p c : ℕ) → p ≤ length w → length w ≤ longest_code → (stepped w p c).cost ≤ longest_code
unfolding ByteBelow
step_cheap w p c fits few = omega (arith, byte_below w p c fits, ceiling_length w)

module _ (w piece : List ℕ) where
  -- FEEDING GOES ON: behind no byte, and behind some after others
  pub goes_none : (i k : ℕ) (x y : Watch) → x ≡ y → GoesOn w piece i i k [] x y
  goes_none i k x y e = let z : i - i ≡ 0 = omega arith in record { is = rw (z, more_none, sub-zero k, e) refl }

  pub goes_more : {i j l k : ℕ} {ps qs : List ℕ} {x y z : Watch} → i ≤ j → j ≤ l → GoesOn w piece i j k ps x y →
      GoesOn w piece j l (k - length ps) qs y z → GoesOn w piece i l k (ps ++ qs) x z
  goes_more {i} {j} {l} {k} {ps} {qs} {x} {y} {z} h g a b =
      let all : j - i + (l - j) ≡ l - i = omega arith in
      let left : k - length ps - length qs ≡ k - length (ps ++ qs) = omega (arith, length-append ps qs) in
      record { is = rw (a.is, b.is, more_more, all, left) refl }

  -- NO BYTE, where no place is complete
  pub leads_none : (p i : ℕ) → p < length w → i ≤ length piece → Leads w piece p i p 0 i
  leads_none p i a h =
      let z : i - i ≡ 0 = omega arith in
      record {
        on = omega arith;
        within = h;
        state = omega arith;
        reached = omega arith;
        cheap = omega arith;
        feeds = λ x e k l.
            rw (completed_none (length w) p (x.taken + (i - i)) (λ f. omega arith))
            (goes_none i k x (further x p (i - i) 0 0) (rw (z, add-zero x.taken, add-zero x.hits, add-zero x.compares, ← e) refl));
      }

  -- ONE BYTE is one step
  pub leads_byte : (p i : ℕ) → p ≤ length w → i < length piece → (s : Step) → s ≡ stepped w p (get_or piece i 0) → s.cost ≤ longest_code →
      Leads w piece p i s.state s.cost (i + 1)
  unfolding reported with_byte
  leads_byte p i a h s e cheap =
      let one : i + 1 - i ≡ 1 = omega arith in
      let bounds = rw (← e) at (step_bounds w p (get_or piece i 0) a) in
      record {
        on = omega arith;
        within = omega arith;
        state = bounds.0;
        reached = omega (arith, bounds.1);
        cheap = omega arith;
        feeds = λ x q k l. rw one (record { is = rw one (fed_byte x q k l) });
      }
    where
      told : (x : Watch) → x.state ≡ p → reported w (get_or piece i 0) x ≡ completed (length w) s.state (x.taken + 1)
      told x q = rw (q, ← e, add-one x.taken) refl

      watch : (x : Watch) → x.state ≡ p → with_byte w (get_or piece i 0) x ≡ further x s.state 1 (length (reported w (get_or piece i 0) x)) s.cost
      watch x q = rw (q, ← e, add-one x.taken) refl

      fed_byte : (x : Watch) → x.state ≡ p → (k : ℕ) → 1 ≤ k →
          let ps = completed (length w) s.state (x.taken + 1) in
          feed w (drop i piece) k x
          ≡ fed_more 1 ps (feed w (drop (i + 1) piece) (k - length ps) (further x s.state 1 (length ps) s.cost))
      fed_byte x q k l =
          rw (drop-cons piece i 0 h)
          (feed_on (feeder w) (get_or piece i 0) (drop (suc i) piece) k x l
          ∙ rw (watch x q, told x q, add-one i) refl)

  -- ONE STRETCH AFTER ANOTHER, of which the first completes no place
  module _ {p i q c j : ℕ} (a : Leads w piece p i q c j) (short : q < length w) where
    pub leads_on : {r d l : ℕ} → Leads w piece q j r d l → Leads w piece p i r (c + d) l
    leads_on {r} {d} {l} b =
        let on : i ≤ j = a.on in
        let more : j ≤ l = b.on in
        let all : j - i + (l - j) ≡ l - i = omega arith in
        record {
          on = omega arith;
          within = b.within;
          state = b.state;
          reached = omega (arith, a.reached, b.reached);
          cheap = omega (arith, a.cheap, b.cheap);
          feeds = λ x e k h.
              let y : Watch = further x q (j - i) 0 c in
              let none : completed (length w) q (x.taken + (j - i)) ≡ [] = completed_none (length w) q (x.taken + (j - i)) (λ f. omega arith) in
              let at : x.taken + (j - i) + (l - j) ≡ x.taken + (l - i) = omega arith in
              let ps : List ℕ = completed (length w) r (x.taken + (l - i)) in
              let hits : x.hits + 0 + length ps ≡ x.hits + length ps = omega arith in
              let cost : x.compares + c + d ≡ x.compares + (c + d) = omega arith in
              let rest : GoesOn w piece j l (k - 0) ps y (further x r (l - i) (length ps) (c + d)) =
              rw (sub-zero k) (rw (at, hits, cost) at (b.feeds y refl k h)) in
              goes_more on more (rw none at (a.feeds x e k h)) rest;
        }

    pub leads_step : j < length piece → (s : Step) → s ≡ stepped w q (get_or piece j 0) → s.cost ≤ longest_code →
        Leads w piece p i s.state (c + s.cost) (j + 1)
    leads_step h s e cheap = leads_on (leads_byte q j (omega arith) h s e cheap)

  -- BYTES THAT LEAD TO THE SAME STATE again, each at a cost of 1, and complete no place
  abbrev Same : (q i : ℕ) → Type 0
  Same q i = ((stepped w q (get_or piece i 0)).state ≡ q) × ((stepped w q (get_or piece i 0)).cost ≡ 1)

  module _ (q : ℕ) (short : q < length w) where
    leads_count : (n i : ℕ) → i + n ≤ length piece → ((j : ℕ) → i ≤ j → j < i + n → Same q j) → Leads w piece q i q n (i + n)
    leads_count zero i h same = rw (add-zero i) (leads_none q i short (omega arith))
    leads_count (suc n) i h same =
        let s : Step = stepped w q (get_or piece (i + n) 0) in
        let is = same (i + n) (omega arith) (omega arith) in
        let at : i + suc n ≡ i + n + 1 = omega arith in
        let one : suc n ≡ n + 1 = omega arith in
        rw (at, one)
        (rw (is.0, is.1) at
        (leads_step (leads_count n i (omega arith) (λ j lo hi. same j lo (omega arith))) short (omega arith) s refl (rw is.1 (omega arith))))

    pub leads_same : (i j : ℕ) → Passed (Same q) i j → j ≤ length piece → Leads w piece q i q (j - i) j
    leads_same i j p h =
        let on : i ≤ j = p.on in
        let at : i + (j - i) ≡ j = omega arith in
        rw at at (leads_count (j - i) i (omega arith) (λ k lo hi. p.all k lo (omega arith)))

-- IN STATE 0: bytes that are not the code's first
module _ (w piece : List ℕ) (some : 1 ≤ length w) where
  pub leads_other : (i j : ℕ) → Passed (λ k. byte w 0 ≢ get_or piece k 0) i j → j ≤ length piece → Leads w piece 0 i 0 (j - i) j
  unfolding StepsAtZero
  leads_other i j p h =
      leads_same w piece 0 some i j
      (passed_as p (λ k n. let is = (steps_at_zero w (get_or piece k 0) some).1 n in rw is (refl, refl))) h

pub bytes_passed : BytesPassed
unfolding BytesPassed fed_more
bytes_passed w cs k x some e all =
    let n : ℕ = length cs in
    let none : drop n cs ≡ [] = drop_of_length-le cs {i = n} (omega arith) in
    let p : Passed (λ j. byte w 0 ≢ get_or cs j 0) 0 n = record { on = omega arith; all = λ j lo hi. every_at (λ c. byte w 0 ≢ c) cs j all hi } in
    let quiet : completed (length w) 0 (x.taken + n) ≡ [] = completed_none (length w) 0 (x.taken + n) (λ f. omega arith) in
    rw (sub-zero n, quiet) at ((leads_other w cs some 0 n p (omega arith)).feeds x e (suc k) (omega arith)).is
    ∙ rw (none, feed_end (feeder w) (suc k - 0) (further x 0 n 0 n), add-zero x.hits, add-zero n) refl
