-- Steps by cases, what they cost and how far they lead. Assumes nothing.
use mathlib.Core.Path.{◌≡◌, refl, ◌∙◌}
use mathlib.Core.Logic.{◌≢◌}
use mathlib.Core.List.{List, [], ◌∷◌, ◌++◌, map}
use Prim.Native.Nat.{ℕ, zero, suc, ◌+◌, ◌≤◌, ◌<◌}
use native.Mathlib.Nat.{add-zero}
use native.Mathlib.Omega.{arith}
use lib.Dec.{ltb, eqb}
use lib.ListN.{length, get_or, drop}
use borrow.Author.Tests.{ltb-true, ltb-false, lt-ltb, le-ltb, eqb-true, eq-eqb, ne_eqb}
use Rattle.words.specs.Words.{byte, Every}
use Rattle.words.proofs.Tests.{by_test}
use Rattle.automaton.specs.declared.Step.{Step}
use Rattle.automaton.specs.declared.Arrow.TheVariants.{Back, Forward, Nothing}
use Rattle.automaton.specs.Arrows.{label, forward, back_targets, arrows, step, try_forward, try_back, stepped, arrow_number, arrow_target}
use Rattle.automaton.specs.Promise.{ArrowsTold, labels_of, compared, CostsRight, StepsAtZero}
use Rattle.automaton.proofs.Targets.{target_range, back_zero}

-- ONE LABEL
module _ (t : ℕ) (ts : List ℕ) (k : ℕ) (w : List ℕ) (p c : ℕ) where
  pub back_on : label w t ≡ c → try_back (t ∷ ts) k w p c ≡ step t (suc k) (Back t)
  unfolding try_back
  back_on e = rw (eq-eqb (label w t) c e)

  pub back_off : label w t ≢ c → try_back (t ∷ ts) k w p c ≡ try_back ts (suc k) w p c
  unfolding try_back
  back_off n = rw (ne_eqb (label w t) c n)

pub back_nil : (k : ℕ) (w : List ℕ) (p c : ℕ) → try_back [] k w p c ≡ try_forward k w p c
unfolding try_back
back_nil k w p c = refl

-- labels that are not equal are passed
pub back_passed : (n : ℕ) (ts : List ℕ) (k : ℕ) (w : List ℕ) (p c : ℕ) → n ≤ length ts → ((j : ℕ) → j < n → label w (get_or ts j 0) ≢ c) →
    try_back ts k w p c ≡ try_back (drop n ts) (k + n) w p c
back_passed zero ts k w p c h others = rw (add-zero k) refl
back_passed (suc n) [] k w p c h others = absurd (omega arith)
back_passed (suc n) (t ∷ ts) k w p c h others =
    let at : suc k + n ≡ k + suc n = omega arith in
    back_off t ts k w p c (others 0 (omega arith))
    ∙ back_passed n ts (suc k) w p c (omega arith) (λ j l. others (suc j) (omega arith))
    ∙ rw at refl

-- A STATE with no backward arrow, or one
module _ (w : List ℕ) (p c : ℕ) where
  pub step_none : back_targets w p ≡ [] → stepped w p c ≡ try_forward 0 w p c
  unfolding stepped
  step_none e = rw e (back_nil 0 w p c)

  pub step_one : (t : ℕ) → back_targets w p ≡ t ∷ [] → label w t ≡ c → stepped w p c ≡ step t 1 (Back t)
  unfolding stepped
  step_one t e f = rw e (back_on t [] 0 w p c f)

  pub step_not_one : (t : ℕ) → back_targets w p ≡ t ∷ [] → label w t ≢ c → stepped w p c ≡ try_forward 1 w p c
  unfolding stepped
  step_not_one t e n = rw e (back_off t [] 0 w p c n ∙ back_nil 1 w p c)

module _ (k : ℕ) (w : List ℕ) (p c : ℕ) where
  pub forward_on : p < length w → byte w p ≡ c → try_forward k w p c ≡ step (suc p) (suc k) Forward
  unfolding try_forward
  forward_on h e = rw (lt-ltb p (length w) h, eq-eqb (byte w p) c e)

  pub forward_off : p < length w → byte w p ≢ c → try_forward k w p c ≡ step 0 (suc k) Nothing
  unfolding try_forward
  forward_off h n = rw (lt-ltb p (length w) h, ne_eqb (byte w p) c n)

  pub forward_past : length w ≤ p → try_forward k w p c ≡ step 0 k Nothing
  unfolding try_forward
  forward_past h = rw (le-ltb p (length w) h)

  pub forward_zero : (p < length w → byte w p ≢ c) → (try_forward k w p c).state ≡ 0
  unfolding try_forward
  forward_zero f =
      by_test (ltb p (length w))
      (λ t. rw (t, ne_eqb (byte w p) c (f (ltb-true p (length w) t))))
      (λ t. rw t)

  -- the forward arrow is followed, it is not, or there is none
  pub forward_cases : (Q : Step → Type 0) → (p < length w → byte w p ≡ c → Q (step (suc p) (suc k) Forward)) →
      (p < length w → Q (step 0 (suc k) Nothing)) → (length w ≤ p → Q (step 0 k Nothing)) → Q (try_forward k w p c)
  unfolding try_forward
  forward_cases Q on off end =
      by_test (ltb p (length w))
      (λ t.
      rw t
      (by_test (eqb (byte w p) c)
      (λ e. rw e (on (ltb-true p (length w) t) (eqb-true (byte w p) c e)))
      (λ e. rw e (off (ltb-true p (length w) t)))))
      (λ t. rw t (end (ltb-false p (length w) t)))

-- what holds at each target, at a cost of at most all backward labels, and where none of them is equal, holds of a step
back_cases : (Q : Step → Type 0) (P : ℕ → Type 0) (ts : List ℕ) (k : ℕ) (w : List ℕ) (p c : ℕ) → Every P ts →
    ((t j : ℕ) → P t → j ≤ k + length ts → Q (step t j (Back t))) → Q (try_forward (k + length ts) w p c) → Q (try_back ts k w p c)
unfolding try_back
back_cases Q P [] k w p c all back front = let e : k + 0 ≡ k = omega arith in rw e at front
back_cases Q P (t ∷ ts) k w p c all back front =
    let e : k + suc (length ts) ≡ suc k + length ts = omega arith in
    by_test (eqb (label w t) c)
    (λ f. rw f (back t (suc k) all.0 (omega arith)))
    (λ f. rw f (back_cases Q P ts (suc k) w p c all.1 (λ u j h l. back u j h (omega arith)) (rw e at front)))

pub stepped_cases : (Q : Step → Type 0) (P : ℕ → Type 0) (w : List ℕ) (p c : ℕ) → Every P (back_targets w p) →
    ((t j : ℕ) → P t → j ≤ arrows w p → Q (step t j (Back t))) → Q (try_forward (arrows w p) w p c) → Q (stepped w p c)
unfolding stepped
stepped_cases Q P w p c all back front =
    let e : length (back_targets w p) ≡ 0 + length (back_targets w p) = omega arith in
    back_cases Q P (back_targets w p) 0 w p c all (λ t j h l. back t j h (omega arith)) (rw e at front)

-- a step leads at most one state on, and to no state past the end
pub step_bounds : (w : List ℕ) (p c : ℕ) → p ≤ length w → ((stepped w p c).state ≤ length w) × ((stepped w p c).state ≤ suc p)
step_bounds w p c fits =
    let Q : Step → Type 0 = λ s. (s.state ≤ length w) × (s.state ≤ suc p) in
    stepped_cases Q (λ t. (1 ≤ t) × (t ≤ p)) w p c (target_range w p)
    (λ t j h l. let le : t ≤ p = h.1 in (omega arith, omega arith))
    (forward_cases (arrows w p) w p c Q (λ l e. (omega arith, omega arith)) (λ l. (omega arith, omega arith)) (λ l. (omega arith, omega arith)))

-- what a step's arrow says of its state
pub arrows_told : ArrowsTold
unfolding ArrowsTold
arrows_told w p c =
    let Q : Step → Type 0 =
    λ s.
    (arrow_number s.arrow ≡ 0 → s.state ≡ 0)
    × (arrow_number s.arrow ≡ 1 → s.state ≡ arrow_target s.arrow)
    × (arrow_number s.arrow ≡ 2 → s.state ≡ suc p) in
    stepped_cases Q (λ t. (1 ≤ t) × (t ≤ p)) w p c (target_range w p)
    (λ t j h l. (λ e. absurd (omega arith), λ e. refl, λ e. absurd (omega arith)))
    (forward_cases (arrows w p) w p c Q
    (λ l e. (λ n. absurd (omega arith), λ n. absurd (omega arith), λ n. refl))
    (λ l. (λ n. refl, λ n. absurd (omega arith), λ n. absurd (omega arith)))
    (λ l. (λ n. refl, λ n. absurd (omega arith), λ n. absurd (omega arith))))

-- THE COST is the number of labels compared: those of the backward arrows, then the forward one
forward_cost_is : (k : ℕ) (w : List ℕ) (p c : ℕ) → (try_forward k w p c).cost ≡ k + compared c (forward w p)
unfolding try_forward forward compared
forward_cost_is k w p c =
    by_test (ltb p (length w))
    (λ t. by_test (eqb (byte w p) c) (λ e. rw (t, e) (omega arith)) (λ e. rw (t, e) (omega arith)))
    (λ t. rw t (omega arith))

back_cost_is : (ts : List ℕ) (k : ℕ) (w : List ℕ) (p c : ℕ) →
    (try_back ts k w p c).cost ≡ k + compared c (map (label w) ts ++ forward w p)
unfolding try_back compared
back_cost_is [] k w p c = forward_cost_is k w p c
back_cost_is (t ∷ ts) k w p c =
    by_test (eqb (label w t) c)
    (λ e. rw e (omega arith))
    (λ e. rw e (omega (arith, back_cost_is ts (suc k) w p c)))

pub costs_right : CostsRight
unfolding CostsRight stepped labels_of
costs_right w p c = omega (arith, back_cost_is (back_targets w p) 0 w p c)

-- STATE 0 has no backward arrow: one comparison with the code's first byte
pub steps_at_zero : StepsAtZero
unfolding StepsAtZero stepped try_back try_forward
steps_at_zero w c some =
    rw (back_zero w, lt-ltb 0 (length w) some) (λ e. rw (eq-eqb (byte w 0) c e), λ n. rw (ne_eqb (byte w 0) c n))
