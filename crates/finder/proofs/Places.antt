-- The places of a text are where the code stands; what a state completes, and a byte reports. Assumes nothing.
use mathlib.Core.Path.{◌≡◌, sym, ap, ◌∙◌}
use mathlib.Core.Bool.{true}
use mathlib.Core.List.{List, [], ◌∷◌}
use mathlib.Core.Logic.{◌≢◌, ◌↔◌}
use Prim.Native.Nat.{ℕ, suc, ◌+◌, ◌-◌, ◌≤◌}
use native.Mathlib.Omega.{arith}
use borrow.Author.Tests.{eq-eqb, ne_eqb}
use lib.Dec.{eqb}
use lib.ListN.{length, take, drop, length-take, length-drop}
use lib.Seq.{take-length, length-take-le}
use Rattle.words.specs.Words.{member, Rising, ends_with}
use Rattle.words.proofs.Lists.{suffix_take}
use Rattle.words.proofs.Ends.{ends_is, ends_test}
use Rattle.runs.proofs.Feeds.{takes_whole}
use Rattle.runs.proofs.Places as found
use Rattle.automaton.specs.Arrows.{stepped}
use Rattle.finder.specs.declared.Watch.{Watch}
use Rattle.finder.specs.Feed.{completed, reported, feeder, feed}
use Rattle.finder.specs.Machine.{found_after}
use Rattle.finder.specs.Texts.{places}

module _ (w ts : List ℕ) where
  end_stands : (i : ℕ) → i + length w ≤ length ts →
      ends_with (take (i + length w) ts) w (length w) ≡ true → take (length w) (drop i ts) ≡ w
  end_stands i fits t =
      sym (suffix_take i (length w) ts fits) ∙ (ends_is (take (i + length w) ts) w (length w) t).same ∙ take-length w

  stands_end : (i : ℕ) → i + length w ≤ length ts →
      take (length w) (drop i ts) ≡ w → ends_with (take (i + length w) ts) w (length w) ≡ true
  stands_end i fits s =
      ends_test (take (i + length w) ts) w (length w)
      (record {
        fits = omega (arith, length-take-le (i + length w) ts fits);
        same = suffix_take i (length w) ts fits ∙ s ∙ sym (take-length w);
      })

  stands_fits : (i : ℕ) → 1 ≤ length w → take (length w) (drop i ts) ≡ w → i + length w ≤ length ts
  stands_fits i some s = omega (arith, ap length s, length-take (length w) (drop i ts), length-drop i ts)

  pub places_stand_in : 1 ≤ length w →
      Rising (places w ts) × ((i : ℕ) → (member i (places w ts) ≡ true) ↔ (take (length w) (drop i ts) ≡ w))
  unfolding found_after
  places_stand_in some =
      let right = found.found_right (length w) (λ us. ends_with us w (length w)) (λ us e. (ends_is us w (length w) e).fits) some ts in (
        right.0,
        λ i. (
          (λ h. let p = (right.1 i).0 h in end_stands i p.0 p.1),
          (λ s. let fits = stands_fits i some s in (right.1 i).1 (fits, stands_end i fits s)),
        ),
      )

pub few_places : (w ts : List ℕ) → length (places w ts) ≤ length ts
unfolding found_after
few_places w ts = found.found_few (length w) (λ us. ends_with us w (length w)) [] ts

-- A STATE completes a place, or none
module _ (m q n : ℕ) where
  pub completed_one : q ≡ m → completed m q n ≡ (n - m) ∷ []
  unfolding completed
  completed_one e = found.place_some (eqb q m) (n - m) (eq-eqb q m e)

  pub completed_none : q ≢ m → completed m q n ≡ []
  unfolding completed
  completed_none d = found.place_none (eqb q m) (n - m) (ne_eqb q m d)

  pub completed_few : length (completed m q n) ≤ 1
  unfolding completed
  completed_few = found.place_one (eqb q m) (n - m)

-- a byte reports none or one
pub reported_one : (w : List ℕ) (c : ℕ) (x : Watch) → length (reported w c x) ≤ 1
unfolding reported
reported_one w c x = completed_few (length w) (stepped w x.state c).state (suc x.taken)

-- so a list with a place for each byte takes the whole piece
pub feed_whole : (w cs : List ℕ) (k : ℕ) (x : Watch) → length cs ≤ k → (feed w cs k x).taken ≡ length cs
feed_whole w cs k x h = takes_whole (feeder w) (reported_one w) cs k x (omega arith)
