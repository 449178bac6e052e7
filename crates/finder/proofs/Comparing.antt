-- The labels of a state, compared one by one: the backward ones by falling target. Assumes nothing.
use mathlib.Core.Path.{◌≡◌, refl, sym, ap, ◌∙◌}
use mathlib.Core.Logic.{◌≢◌}
use mathlib.Core.List.{List}
use Prim.Native.Nat.{ℕ, zero, suc, ◌+◌, ◌-◌, ◌≤◌, ◌<◌}
use native.Mathlib.Numerals.{add-one}
use native.Mathlib.Omega.{arith}
use lib.ListN.{length, get_or, drop, drop_of_length-le}
use lib.Seq.{drop-cons}
use Rattle.words.proofs.Tests.{by_le}
use Rattle.words.proofs.Lists.{every_at}
use Rattle.automaton.specs.declared.Arrow.TheVariants.{Back}
use Rattle.automaton.specs.Arrows.{label, back_targets, arrows, arrows_below, back_arrows, step, try_forward, try_back, stepped}
use Rattle.automaton.proofs.Targets.{target_range}
use Rattle.automaton.proofs.Counts.{below_zero, below_suc, below_rises, target_at}
use Rattle.automaton.proofs.Steps.{back_on, back_nil, back_passed}
use Rattle.std.specs.Prelude.{Some, None}
use Rattle.finder.specs.Inside.{Passed, target_of, SoughtBy}

module _ (w : List ℕ) where
  -- number n of a state's targets
  target_here : (p n : ℕ) → p ≤ length w → n < arrows w p → target_of w (arrows_below w p + n) ≡ get_or (back_targets w p) n 0
  target_here p n ok h = target_at w (suc (length w)) p n (omega arith) h

  -- every target is a state, and not 0
  below_inside : (s l : ℕ) → s ≤ suc (length w) → l < arrows_below w s → (1 ≤ target_of w l) × (target_of w l ≤ length w)
  below_inside zero l h i = absurd (omega (arith, below_zero w))
  below_inside (suc p) l h i =
      by_le (arrows_below w p) l
      (λ (a : arrows_below w p ≤ l).
      let n : ℕ = l - arrows_below w p in
      let here : n < arrows w p = omega (arith, below_suc w p) in
      let at : arrows_below w p + n ≡ l = omega arith in
      let r = every_at (λ u. (1 ≤ u) × (u ≤ p)) (back_targets w p) n (target_range w p) here in
      let e : target_of w l ≡ get_or (back_targets w p) n 0 = ap (target_of w) (sym at) ∙ target_here p n (omega arith) here in
      rw e (r.0, omega (arith, r.1)))
      (λ (a : l < arrows_below w p). below_inside p l (omega arith) a)

  pub target_inside : (l : ℕ) → l < back_arrows w → (1 ≤ target_of w l) × (target_of w l ≤ length w)
  target_inside l h = below_inside (suc (length w)) l (omega arith) h

-- A STATE p: its targets have the numbers from one up to another
module _ (w : List ℕ) (p : ℕ) (ok : p ≤ length w) (from to : ℕ) (e : from ≡ arrows_below w p) (f : to ≡ arrows_below w (p + 1)) where
  to_is : to ≡ from + arrows w p
  to_is = f ∙ ap (arrows_below w) (add-one p) ∙ below_suc w p ∙ rw e refl

  pub state_rise : (from ≤ to) × (to ≤ back_arrows w)
  state_rise =
      let up : arrows_below w (p + 1) ≤ back_arrows w = below_rises w (p + 1) (suc (length w)) (omega arith) in
      (omega (arith, to_is), omega (arith, f, up))

  here : (n : ℕ) → n < arrows w p → target_of w (from + n) ≡ get_or (back_targets w p) n 0
  here n h = rw e (target_here w p n ok h)

  -- n of its labels were compared, and none was c
  others : (c n : ℕ) → n ≤ arrows w p → Passed (λ k. label w (target_of w k) ≢ c) from (from + n) →
      stepped w p c ≡ try_back (drop n (back_targets w p)) n w p c
  unfolding stepped
  others c n h q =
      let at : 0 + n ≡ n = omega arith in
      rw at at
      (back_passed n (back_targets w p) 0 w p c h
      (λ j l z. q.all (from + j) (omega arith) (omega arith) (ap (label w) (here j (omega arith)) ∙ z)))

  -- ALL of them: the forward one decides
  pub compared_none : (c : ℕ) → SoughtBy w from to c None → stepped w p c ≡ try_forward (to - from) w p c
  compared_none c q =
      let n : ℕ = arrows w p in
      let n-is : to - from ≡ n = omega (arith, to_is) in
      others c n (omega arith) (rw (← to_is) q)
      ∙ rw (drop_of_length-le (back_targets w p) {i = n} (omega arith), n-is) (back_nil n w p c)

  -- up to one that is c
  pub compared_at : (c l t : ℕ) → SoughtBy w from to c (Some l) → t ≡ target_of w l → stepped w p c ≡ step t (l - from + 1) (Back t)
  compared_at c l t q g =
      let n : ℕ = l - from in
      let on : from ≤ l = q.0.on in
      let at : from + n ≡ l = omega arith in
      let inside : n < arrows w p = omega (arith, q.1, to_is) in
      let is : get_or (back_targets w p) n 0 ≡ t = sym (g ∙ ap (target_of w) (sym at) ∙ here n inside) in
      others c n (omega arith) (rw at q.0)
      ∙ rw (drop-cons (back_targets w p) n 0 inside, is, add-one n) (back_on t (drop (suc n) (back_targets w p)) n w p c (ap (label w) g ∙ q.2))
