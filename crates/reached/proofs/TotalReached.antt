-- The total ceiling is reached: each b costs two comparisons at least, since an arrow leads back to state 1, and each a costs one. No text costs more than the
-- ceiling, so this is enough. Assumes nothing.
use mathlib.Core.Path.{◌≡◌, refl, sym, ap, ◌∙◌}
use mathlib.Core.List.{List, [], ◌∷◌, ◌++◌}
use mathlib.Core.Logic.{◌≢◌}
use Prim.Native.Nat.{ℕ, zero, suc, ◌+◌, ◌*◌, ◌-◌, ◌%◌, ◌≤◌, ◌<◌}
use native.Mathlib.Omega.{arith}
use native.Mathlib.Nat.{mod-eq_of_lt, mod_self, suc-mod, div-lt_iff_lt-mul, mul-le-mul_left}
use lib.ListN.{length, get_or-append}
use lib.Seq.{get_or_at}
use borrow.Author.Tests.{eq-eqb, ne_eqb}
use Rattle.words.specs.Words.{byte, Every, state_of}
use Rattle.words.proofs.Tests.{by_le, by_eq}
use Rattle.words.proofs.Lists.{every_append, length_snoc}
use Rattle.words.proofs.Ends.{Ends, ends_zero, ends_longer, ends_inside, ends_label}
use Rattle.words.proofs.Largest.{Largest, state_is}
use Rattle.words.proofs.Borders.{border_zero}
use Rattle.automaton.specs.Arrows.{arrows, stepped}
use Rattle.automaton.specs.Ceilings.{total_ceiling}
use Rattle.automaton.specs.Costs.{cost_after, costs, sum}
use Rattle.automaton.specs.Promise.{StateNext, StepsAtZero, CostsBelow}
use Rattle.automaton.proofs.Steps.{steps_at_zero}
use Rattle.automaton.proofs.PaperArrows.{step_forward, state_next}
use Rattle.automaton.proofs.Costs.{costs_snoc, costs_below}
use Rattle.reached.specs.Words.{spaced_byte, spaced, costly_code, costly_text}
use Rattle.reached.specs.Promise.{TotalsReached}
use Rattle.reached.proofs.ManyArrows.{many_arrows, some_cost, forward_pays}

-- THE WORD
pub spaced_length : (m n : ℕ) → length (spaced m n) ≡ n
unfolding spaced
spaced_length m zero = refl
spaced_length m (suc n) = length_snoc (spaced m n) (spaced_byte m n) ∙ ap suc (spaced_length m n)

pub spaced_a : (m i : ℕ) → i % m ≡ 0 → spaced_byte m i ≡ 97
unfolding spaced_byte
spaced_a m i e = rw (eq-eqb (i % m) 0 e)

pub spaced_b : (m i : ℕ) → i % m ≢ 0 → spaced_byte m i ≡ 98
unfolding spaced_byte
spaced_b m i n = rw (ne_eqb (i % m) 0 n)

pub every_spaced : (P : ℕ → Type 0) (m n : ℕ) → P 97 → P 98 → Every P (spaced m n)
unfolding spaced
every_spaced P m zero a b = tt
every_spaced P m (suc n) a b =
    (every_append P (spaced m n) (spaced_byte m n ∷ [])).1
    (every_spaced P m n a b, (by_eq (n % m) 0 (λ e. rw (spaced_a m n e) a) (λ d. rw (spaced_b m n d) b), tt))

pub byte_spaced : (m n i : ℕ) → i < n → byte (spaced m n) i ≡ spaced_byte m i
unfolding spaced byte
byte_spaced m zero i h = absurd (omega arith)
byte_spaced m (suc n) i h =
    let c : ℕ = spaced_byte m n in
    by_eq i n
    (λ (e : i ≡ n). rw e (get_or_at (spaced m n) c [] 0 n (spaced_length m n)))
    (λ (d : i ≢ n). get_or-append (spaced m n) (c ∷ []) 0 i (omega (arith, spaced_length m n)) ∙ byte_spaced m n i (omega arith))

-- one byte more: d is 2m - 1, and x at most what the byte costs
pay : (m d n p q s k x : ℕ) → d * n + p ≤ m * s + m → d + q ≤ m * x + p → x ≤ k → d * suc n + q ≤ m * (s + k) + m
pay m d n p q s k x paid h l = omega (arith, mul-le-mul_left m l)

module _ (m : ℕ) (some : 1 ≤ m) where
  -- THE CODE
  abbrev code : List ℕ
  code = costly_code m

  first : byte code 0 ≡ 97
  first = byte_spaced m m 0 some ∙ spaced_a m 0 (mod-eq_of_lt some)

  later : (i : ℕ) → 1 ≤ i → i < m → byte code i ≡ 98
  later i l u = byte_spaced m m i u ∙ spaced_b m i (λ e. omega (arith, mod-eq_of_lt u, e))

  within : (p : ℕ) → p < m → p < length code
  within p h = omega (arith, spaced_length m m)

  -- from 1 on, every state has an arrow: its label is a, that of the empty border
  one_arrow : (p : ℕ) → 1 ≤ p → p ≤ m → 1 ≤ arrows code p
  one_arrow p l u =
      many_arrows code p (omega (arith, spaced_length m m)) 1 (λ j. 0) (λ j h. border_zero code p l) (λ i j a b. absurd (omega arith))
      (λ j h i e. omega (arith, e, first, later p l (omega (arith, spaced_length m m))))

  -- after an a the state is 1, and an a costs something in any state
  state_a : (ts : List ℕ) → state_of code (ts ++ (97 ∷ [])) ≡ 1
  state_a ts = go (state_of code (ts ++ (97 ∷ []))) (state_is code (ts ++ (97 ∷ [])))
    where
      go : (q : ℕ) → Largest (Ends (ts ++ (97 ∷ [])) code) (length code) q → q ≡ 1
      go zero u = absurd (u.none 1 (omega arith) (within 0 some) (ends_longer ts code 97 0 (ends_zero ts code) (within 0 some) first))
      go (suc zero) u = refl
      go (suc (suc q)) u =
          let inside : suc q < m = omega (arith, ends_inside ts code 97 (suc q) u.holds, spaced_length m m) in
          absurd (omega (arith, ends_label ts code 97 (suc q) u.holds, later (suc q) (omega arith) inside))

  cost_a : (ts : List ℕ) → 1 ≤ cost_after code ts 97
  unfolding cost_after StepsAtZero
  cost_a ts = go (state_of code ts) (state_is code ts).bound
    where
      go : (p : ℕ) → p ≤ length code → 1 ≤ (stepped code p 97).cost
      go zero h = rw ((steps_at_zero code 97 (within 0 some)).0 first) (omega arith)
      go (suc p) h = some_cost code (suc p) 97 (one_arrow (suc p) (omega arith) (omega (arith, spaced_length m m)))

  -- b leads on, and is compared with the label of an arrow back first
  module _ (ts : List ℕ) (p : ℕ) (state : state_of code ts ≡ p) (l : 1 ≤ p) (u : p < m) where
    state_b : state_of code (ts ++ (98 ∷ [])) ≡ suc p
    unfolding StateNext
    state_b = sym (state_next code ts 98) ∙ rw (state, step_forward code p 98 (within p u) (later p l u)) refl

    cost_b : 2 ≤ cost_after code ts 98
    cost_b = omega (arith, forward_pays code ts p 98 state (within p u) (later p l u), one_arrow p l (omega arith))

  -- AFTER n BYTES, p of them in the code's last copy (m where it is complete, as before the first one): the comparisons so far
  record Spent (n p : ℕ) : Type 0 where
    low : 1 ≤ p
    high : p ≤ m
    copy : n % m ≡ p % m
    state : p < m → state_of code (spaced m n) ≡ p
    paid : (2 * m - 1) * n + p ≤ m * sum (costs code (spaced m n)) + m

  spent_start : Spent 0 m
  spent_start = record {
    low = some;
    high = omega arith;
    copy = mod-eq_of_lt some ∙ sym (mod_self m);
    state = λ h. absurd (omega arith);
    paid = omega arith;
  }

  -- a byte that costs x or more leads from p to q
  spent_byte : (n p q c x : ℕ) → Spent n p → spaced_byte m n ≡ c → 1 ≤ q → q ≤ m → suc p % m ≡ q % m → state_of code (spaced m n ++ (c ∷ [])) ≡ q →
      x ≤ cost_after code (spaced m n) c → (2 * m - 1) + q ≤ m * x + p → Spent (suc n) q
  unfolding spaced
  spent_byte n p q c x h is l u next state cost fit = record {
    low = l;
    high = u;
    copy = suc-mod n m ∙ ap (λ (i : ℕ). suc i % m) h.copy ∙ sym (suc-mod p m) ∙ next;
    state = λ i. rw is state;
    paid =
        rw (is, costs_snoc code (spaced m n) c)
        (pay m (2 * m - 1) n p q (sum (costs code (spaced m n))) (cost_after code (spaced m n) c) x h.paid fit cost);
  }

  record SomeSpent (n : ℕ) : Type 0 where
    in_copy : ℕ
    spent : Spent n in_copy

  spent_next : (n p : ℕ) → Spent n p → SomeSpent (suc n)
  spent_next n p h =
      by_le (suc p) m
      (λ (u : p < m).
      let at : n % m ≡ p = h.copy ∙ mod-eq_of_lt u in
      let b : spaced_byte m n ≡ 98 = spaced_b m n (λ e. omega (arith, e, at, h.low)) in
      record {
        in_copy = suc p;
        spent =
            spent_byte n p (suc p) 98 2 h b (omega arith) u refl (state_b (spaced m n) p (h.state u) h.low u)
            (cost_b (spaced m n) p (h.state u) h.low u) (omega arith);
      })
      (λ (u : m < suc p).
      let is : p ≡ m = omega (arith, h.high) in
      let zero_left : p % m ≡ 0 = ap (λ (i : ℕ). i % m) is ∙ mod_self m in
      record {
        in_copy = 1;
        spent =
            spent_byte n p 1 97 1 h (spaced_a m n (h.copy ∙ zero_left)) (omega arith) some
            (suc-mod p m ∙ ap (λ (i : ℕ). suc i % m) zero_left) (state_a (spaced m n)) (cost_a (spaced m n)) (omega arith);
      })

  spent_all : (n : ℕ) → SomeSpent n
  spent_all zero = record { in_copy = m; spent = spent_start }
  spent_all (suc n) = let r = spent_all n in spent_next n r.in_copy r.spent

  -- so no less than the ceiling
  total_above : (n : ℕ) → total_ceiling m n ≤ sum (costs code (costly_text m n))
  unfolding total_ceiling
  total_above n =
      let s = (spent_all n).spent in
      let below = (div-lt_iff_lt-mul {x = (2 * m - 1) * n} {y = suc (sum (costs code (costly_text m n)))} some).1 (omega (arith, s.paid, s.low)) in
      omega arith

  pub total_exact : (n : ℕ) → sum (costs code (costly_text m n)) ≡ total_ceiling m n
  unfolding CostsBelow
  total_exact n =
      let sizes : total_ceiling (length code) (length (costly_text m n)) ≡ total_ceiling m n = rw (spaced_length m m, spaced_length m n) refl in
      omega (arith, total_above n, (costs_below code (costly_text m n) (within 0 some)).1, sizes)

pub totals_reached : TotalsReached
unfolding TotalsReached
totals_reached m n some = (spaced_length m m, spaced_length m n, total_exact m some n)
