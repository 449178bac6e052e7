-- The total ceiling: what one step adds, and so a run of steps. A word has any length but 0. Assumes nothing.
use mathlib.Core.Path.{◌≡◌, ap}
use mathlib.Core.List.{List}
use Prim.Native.Nat.{ℕ, zero, suc, ◌+◌, ◌*◌, ◌-◌, ◌≤◌, ◌<◌}
use native.Mathlib.Omega.{arith}
use native.Mathlib.Nat.{mul-le-mul_left, le-div_iff_mul-le, le_of_mul-le-mul_left}
use lib.ListN.{length}
use Rattle.automaton.specs.declared.Step.{Step}
use Rattle.automaton.specs.declared.Arrow.TheVariants.{Back, Forward, Nothing}
use Rattle.automaton.specs.Arrows.{forward, arrows, arrows_below, step, stepped}
use Rattle.automaton.specs.Ceilings.{total_ceiling}
use Rattle.automaton.proofs.Targets.{Target, back_range}
use Rattle.automaton.proofs.Counts.{below_zero, below_suc}
use Rattle.automaton.proofs.Preparing.{arrows_at_most}
use Rattle.automaton.proofs.FewArrows.{few, few_below}
use Rattle.automaton.proofs.Steps.{forward_cases, stepped_cases, step_bounds}

-- what it costs to come from 0 to p by forward arrows
unfoldable pub forward_cost : (w : List ℕ) → (p : ℕ) → ℕ
forward_cost w p = arrows_below w p + p

-- ONE STEP from p to q, with the cost of coming there as the potential: a and z are those of p and q, e is what the step costs over them
amortize : (m p q cost a z e : ℕ) → 0 < m → cost + a + 2 * q ≤ 2 * p + z + e → m * e + p + 1 ≤ 2 * m + q →
    m * (cost + a) + (2 * m - 1) * q ≤ m * z + (2 * m - 1) * suc p
amortize m p q cost a z e pos h l =
    let M : ℕ = 2 * m - 1 in
    let twice : M + 1 ≡ 2 * m = omega arith in
    omega (arith, mul-le-mul_left m h, ap (λ (n : ℕ). n * q) twice, ap (λ (n : ℕ). n * p) twice)

abbrev Amortized : (w : List ℕ) → (p : ℕ) → Step → Type 0
Amortized w p s =
    length w * (s.cost + forward_cost w p) + (2 * length w - 1) * s.state
    ≤ length w * forward_cost w s.state + (2 * length w - 1) * suc p

module _ (w : List ℕ) (p : ℕ) (pos : 0 < length w) (fits : p ≤ length w) where
  amortized_back : (t j : ℕ) → Target w p p (forward w p) t → j ≤ arrows w p → Amortized w p (step t j (Back t))
  unfolding forward_cost
  amortized_back t j u l =
      let x = u.source in
      let below : x < p = u.under in
      let f = few w p fits x u.border in
      let more = arrows_at_most w p in
      rw u.is
      (amortize (length w) p (suc x) j (arrows_below w p + p) (arrows_below w (suc x) + suc x) 1 pos (omega arith) (omega arith))

  amortized_forward : p < length w → Amortized w p (step (suc p) (suc (arrows w p)) Forward)
  unfolding forward_cost
  amortized_forward inside =
      amortize (length w) p (suc p) (suc (arrows w p)) (arrows_below w p + p) (arrows_below w (suc p) + suc p) 2 pos
      (omega (arith, below_suc w p)) (omega arith)

  amortized_none : (j e : ℕ) → j ≤ e + arrows w p → length w * e + p + 1 ≤ 2 * length w → Amortized w p (step 0 j Nothing)
  unfolding forward_cost
  amortized_none j e l fit =
      let few : arrows_below w (suc p) ≤ p = few_below w p fits in
      amortize (length w) p 0 j (arrows_below w p + p) (arrows_below w 0 + 0) e pos (omega (arith, below_suc w p, below_zero w)) (omega arith)

  pub one_step : (c : ℕ) → Amortized w p (stepped w p c)
  one_step c =
      stepped_cases (Amortized w p) (Target w p p (forward w p)) w p c (back_range w p) amortized_back
      (forward_cases (arrows w p) w p c (Amortized w p)
      (λ l e. amortized_forward l)
      (λ l. amortized_none (suc (arrows w p)) 1 (omega arith) (omega arith))
      (λ l. amortized_none (arrows w p) 0 (omega arith) (omega arith)))

-- that cost itself is below the ceiling
amortize_forward : (m p a : ℕ) → p ≤ m → a + 1 ≤ 2 * p → m * a ≤ (2 * m - 1) * p
amortize_forward m p a l h =
    let M : ℕ = 2 * m - 1 in
    let twice : M + 1 ≡ 2 * m = omega arith in
    omega (arith, mul-le-mul_left m h, ap (λ (n : ℕ). n * p) twice)

pub forward_cost_below : (w : List ℕ) (p : ℕ) → p ≤ length w → length w * forward_cost w p ≤ (2 * length w - 1) * p
unfolding forward_cost
forward_cost_below w zero fits = let none : arrows_below w 0 + 0 ≡ 0 = omega (arith, below_zero w) in rw none (omega arith)
forward_cost_below w (suc r) fits =
    let few : arrows_below w (suc r) ≤ r = few_below w r (omega arith) in
    amortize_forward (length w) (suc r) (arrows_below w (suc r) + suc r) fits (omega arith)

-- A RUN: in state p after n bytes that cost k comparisons
pub record Running (w : List ℕ) (n p k : ℕ) : Type 0 where
  pub state : p ≤ length w
  pub reached : p ≤ n
  pub total : length w * k + (2 * length w - 1) * p ≤ length w * forward_cost w p + (2 * length w - 1) * n

pub running_start : (w : List ℕ) → Running w 0 0 0
running_start w = record { state = omega arith; reached = omega arith; total = omega arith }

pub running_byte : (w : List ℕ) (n p k c : ℕ) → 1 ≤ length w → Running w n p k → Running w (suc n) (stepped w p c).state (k + (stepped w p c).cost)
running_byte w n p k c pos h =
    let s = step_bounds w p c h.state in
    record { state = s.0; reached = omega (arith, s.1, h.reached); total = omega (arith, h.total, one_step w p pos h.state c) }

-- the total ceiling, and so at most twice the bytes
pub running_below : (w : List ℕ) (n p k : ℕ) → 1 ≤ length w → Running w n p k → k ≤ total_ceiling (length w) n
unfolding total_ceiling
running_below w n p k pos h =
    (le-div_iff_mul-le {x = k} pos).1 (omega (arith, h.total, forward_cost_below w p h.state))

pub running_twice : (w : List ℕ) (n p k : ℕ) → 1 ≤ length w → Running w n p k → k ≤ 2 * n
running_twice w n p k pos h =
    let m = length w in
    let twice : (2 * m - 1) + 1 ≡ 2 * m = omega arith in
    le_of_mul-le-mul_left {m = k} {n = 2 * n} {k = m} (omega (arith, h.total, forward_cost_below w p h.state, ap (λ (j : ℕ). j * n) twice)) pos
