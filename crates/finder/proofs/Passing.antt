-- Searches from a number on: what was passed, one more, and where they stop. Assumes nothing.
use mathlib.Core.Path.{◌≡◌}
use mathlib.Core.Logic.{◌≢◌}
use Prim.Native.Nat.{ℕ, ◌+◌, ◌-◌, ◌≤◌, ◌<◌}
use native.Mathlib.Omega.{arith}
use mathlib.Core.List.{List}
use lib.ListN.{length, get_or, take, drop, length-drop}
use lib.Seq.{take_all}
use Rattle.std.specs.List.{AllWithin, HoldsAt}
use Rattle.std.proofs.lemmas.List.{get_or-drop}
use Rattle.words.proofs.Tests.{by_eq, by_le}
use Rattle.finder.specs.Inside.{Passed, Reaches}

pub passed_none : {P : ℕ → Type 0} (from : ℕ) → Passed P from from
passed_none from = record { on = omega arith; all = λ i lo hi. absurd (omega arith) }

module _ {P : ℕ → Type 0} {from i : ℕ} (p : Passed P from i) where
  -- one more, up to k
  pub passed_next : (k : ℕ) → k ≡ i + 1 → P i → Passed P from k
  passed_next k e h =
      record {
        on = omega (arith, p.on);
        all = λ j lo hi. by_eq j i (λ (f : j ≡ i). rw f h) (λ (f : j ≢ i). p.all j lo (omega arith));
      }

  pub passed_on : {j : ℕ} → Passed P i j → Passed P from j
  passed_on {j} q =
      record {
        on = omega (arith, p.on, q.on);
        all = λ k lo hi. by_le i k (λ (h : i ≤ k). q.all k h hi) (λ (h : k < i). p.all k lo h);
      }

  pub passed_as : {R : ℕ → Type 0} → ((k : ℕ) → P k → R k) → Passed R from i
  passed_as f = record { on = p.on; all = λ k lo hi. f k (p.all k lo hi) }

  -- it is found, it is not, or another search goes on
  module _ {Q : ℕ → Type 0} {end : ℕ} where
    pub stopped_found : i ≤ end → Q i → Reaches P Q from end i
    stopped_found h q = record { passed = p; within = h; found = λ l. q }

    pub stopped_end : i ≡ end → Reaches P Q from end i
    stopped_end e = record { passed = p; within = omega arith; found = λ l. absurd (omega arith) }

    pub stopped_on : {j : ℕ} → Reaches P Q i end j → Reaches P Q from end j
    stopped_on s = record { passed = passed_on s.passed; within = s.within; found = s.found }

-- THE BYTES from an index on, searched by `position`: it has passed those of which P holds, up to one of which Q holds, or to the end
module _ (P Q : ℕ → Type 0) (cs : List ℕ) (i : ℕ) (h : i ≤ length cs) where
  passed_items : (n : ℕ) → AllWithin P (drop i cs) 0 n → Passed (λ k. P (get_or cs k 0)) i (i + n)
  passed_items n all =
      record {
        on = omega arith;
        all = λ k lo hi.
            let at : i + (k - i) ≡ k = omega arith in
            rw (get_or-drop i cs (k - i) 0, at) at (all (k - i) 0 (omega arith) (omega arith));
      }

  pub position_found : (n : ℕ) → (n < length (drop i cs)) × HoldsAt Q (drop i cs) n × AllWithin P (drop i cs) 0 n →
      Reaches (λ k. P (get_or cs k 0)) (λ k. Q (get_or cs k 0)) i (length cs) (i + n)
  position_found n f =
      stopped_found (passed_items n f.2) (omega (arith, f.0, length-drop i cs)) (rw (get_or-drop i cs n 0) at (f.1 0))

  pub position_none : AllWithin P (drop i cs) 0 (length (drop i cs)) →
      Reaches (λ k. P (get_or cs k 0)) (λ k. Q (get_or cs k 0)) i (length cs) (length cs)
  position_none all =
      let end : i + length (drop i cs) ≡ length cs = omega (arith, length-drop i cs) in
      let all_passed : Reaches (λ k. P (get_or cs k 0)) (λ k. Q (get_or cs k 0)) i (length cs) (i + length (drop i cs)) =
      stopped_end (passed_items (length (drop i cs)) all) end in
      rw end at all_passed

-- the part from an index on, as code takes it
pub part_on : (cs : List ℕ) (i : ℕ) → take (length cs - i) (drop i cs) ≡ drop i cs
part_on cs i = take_all (length cs - i) (drop i cs) (omega (arith, length-drop i cs))
