-- What `targets_from` lists: targets of borders, with labels not seen, by falling target. Assumes nothing.
use mathlib.Core.Path.{◌≡◌, refl, ap, ◌∙◌}
use mathlib.Core.Bool.{Bool, true, false, ◌&&◌, not, cond}
use mathlib.Core.List.{List, [], ◌∷◌}
use Prim.Native.Nat.{ℕ, zero, suc, ◌+◌, ◌-◌, ◌≤◌, ◌<◌}
use native.Mathlib.Numerals.{add-one}
use native.Mathlib.Omega.{arith}
use lib.Dec.{eqb}
use lib.ListN.{length}
use borrow.Author.Tests.{lt-ltb, le-ltb, not-true, not-false, eqb-true}
use Rattle.words.specs.Words.{byte, member, Every, Falling, is_border}
use Rattle.words.proofs.Tests.{by_test, and_left, and_right}
use Rattle.words.proofs.Lists.{member_fewer, every_map}
use Rattle.words.proofs.Borders.{Border, border_is, border_test}
use Rattle.automaton.specs.Arrows.{label, targets_from, forward, back_targets}

pub label_suc : (w : List ℕ) (b : ℕ) → label w (suc b) ≡ byte w b
unfolding label
label_suc w b = let at : suc b - 1 ≡ b = omega arith in ap (byte w) at

pub label_next : (w : List ℕ) (p : ℕ) → label w (p + 1) ≡ byte w p
label_next w p = rw (add-one p) (label_suc w p)

pub targets_none : (w : List ℕ) (p : ℕ) (ls : List ℕ) → targets_from 0 w p ls ≡ []
unfolding targets_from
targets_none w p ls = refl

-- ONE BORDER: listed where its label is new, else passed over
module _ (w : List ℕ) (p b : ℕ) (ls : List ℕ) where
  pub targets_new : is_border w p b ≡ true → member (byte w b) ls ≡ false → targets_from (suc b) w p ls ≡ suc b ∷ targets_from b w p (byte w b ∷ ls)
  unfolding targets_from
  targets_new e f = rw (e, f)

  pub targets_old : (Border w p b → member (byte w b) ls ≡ true) → targets_from (suc b) w p ls ≡ targets_from b w p ls
  unfolding targets_from
  targets_old f = by_test (is_border w p b) (λ t. rw (t, f (border_is w p b t))) (λ t. rw t)

-- INDUCTION over the borders below a bound
module _ (w : List ℕ) (p : ℕ) (Q : (b : ℕ) → (seen targets : List ℕ) → Type 0)
    (none : (ls : List ℕ) → Q 0 ls [])
    (new : (b : ℕ) (ls : List ℕ) → Border w p b → member (byte w b) ls ≡ false →
    Q b (byte w b ∷ ls) (targets_from b w p (byte w b ∷ ls)) → Q (suc b) ls (suc b ∷ targets_from b w p (byte w b ∷ ls)))
    (old : (b : ℕ) (ls : List ℕ) → (Border w p b → member (byte w b) ls ≡ true) →
    Q b ls (targets_from b w p ls) → Q (suc b) ls (targets_from b w p ls)) where
  pub targets_ind : (b : ℕ) (ls : List ℕ) → Q b ls (targets_from b w p ls)
  unfolding targets_from
  targets_ind zero ls = none ls
  targets_ind (suc b) ls =
      go (is_border w p b && not (member (byte w b) ls)) refl (targets_ind b (byte w b ∷ ls)) (targets_ind b ls)
    where
      go : (t : Bool) → (is_border w p b && not (member (byte w b) ls)) ≡ t →
          Q b (byte w b ∷ ls) (targets_from b w p (byte w b ∷ ls)) → Q b ls (targets_from b w p ls) →
          Q (suc b) ls (cond t (suc b ∷ targets_from b w p (byte w b ∷ ls)) (targets_from b w p ls))
      go true e u v =
          new b ls (border_is w p b (and_left (is_border w p b) (not (member (byte w b) ls)) e))
          (not-true (member (byte w b) ls) (and_right (is_border w p b) (not (member (byte w b) ls)) e)) u
      go false e u v =
          old b ls (λ a. not-false (member (byte w b) ls) (rw (border_test w p b a) at e)) v

-- a target below a bound: one more than a border, with a label that was not seen
pub record Target (w : List ℕ) (p bound : ℕ) (seen : List ℕ) (t : ℕ) : Type 0 where
  pub source : ℕ
  pub is : t ≡ suc source
  pub under : source < bound
  pub border : Border w p source
  pub fresh : member (byte w source) seen ≡ false

module _ (w : List ℕ) (p : ℕ) where
  target_wider : (b a : ℕ) (ls : List ℕ) (t : ℕ) → Target w p b (a ∷ ls) t → Target w p (suc b) ls t
  target_wider b a ls t u =
      let h : u.source < b = u.under in
      record {
        source = u.source;
        is = u.is;
        under = omega arith;
        border = u.border;
        fresh = (member_fewer (byte w u.source) a ls u.fresh).1;
      }

  target_higher : (b : ℕ) (ls : List ℕ) (t : ℕ) → Target w p b ls t → Target w p (suc b) ls t
  target_higher b ls t u =
      let h : u.source < b = u.under in
      record { source = u.source; is = u.is; under = omega arith; border = u.border; fresh = u.fresh }

  pub every_target : (b : ℕ) (ls : List ℕ) → Every (Target w p b ls) (targets_from b w p ls)
  every_target =
      targets_ind w p (λ b ls ts. Every (Target w p b ls) ts)
      (λ ls. tt)
      (λ b ls a f all. (
        record { source = b; is = refl; under = omega arith; border = a; fresh = f },
        every_map (targets_from b w p (byte w b ∷ ls)) (target_wider b (byte w b) ls) all,
      ))
      (λ b ls f all. every_map (targets_from b w p ls) (target_higher b ls) all)

  -- the largest first
  pub targets_from_fall : (b : ℕ) (ls : List ℕ) → Falling (targets_from b w p ls)
  targets_from_fall =
      targets_ind w p (λ b ls ts. Falling ts)
      (λ ls. tt)
      (λ b ls a f all. (
        every_map (targets_from b w p (byte w b ∷ ls))
            (λ t u. let e : t ≡ suc u.source = u.is in let h : u.source < b = u.under in omega arith)
            (every_target b (byte w b ∷ ls)),
        all,
      ))
      (λ b ls f all. all)

-- only membership counts of the labels seen
pub targets_members : (b : ℕ) (w : List ℕ) (p : ℕ) (ls ms : List ℕ) → ((x : ℕ) → member x ls ≡ member x ms) →
    targets_from b w p ls ≡ targets_from b w p ms
unfolding targets_from member
targets_members zero w p ls ms h = refl
targets_members (suc b) w p ls ms h =
    let one = targets_members b w p (byte w b ∷ ls) (byte w b ∷ ms) (λ x. rw (h x)) in
    let two = targets_members b w p ls ms h in
    rw (h (byte w b), one, two)

-- where the borders below b are the same, so are the targets
pub targets_alike : (b : ℕ) (w : List ℕ) (p q : ℕ) (ls : List ℕ) → ((y : ℕ) → y < b → is_border w p y ≡ is_border w q y) →
    targets_from b w p ls ≡ targets_from b w q ls
unfolding targets_from
targets_alike zero w p q ls h = refl
targets_alike (suc b) w p q ls h =
    let ih : (ms : List ℕ) → targets_from b w p ms ≡ targets_from b w q ms = λ ms. targets_alike b w p q ms (λ y l. h y (omega arith)) in
    rw (h b (omega arith), ih (byte w b ∷ ls), ih ls)

-- where no border lies from b to k, the targets below k are those below b
pub targets_down : (k b : ℕ) (w : List ℕ) (p : ℕ) (ls : List ℕ) → b ≤ k → ((y : ℕ) → b ≤ y → y < k → Border w p y → ⊥) →
    targets_from k w p ls ≡ targets_from b w p ls
targets_down zero b w p ls l h = let e : 0 ≡ b = omega arith in ap (λ (n : ℕ). targets_from n w p ls) e
targets_down (suc k) b w p ls l h =
    by_test (eqb (suc k) b)
    (λ t. ap (λ (n : ℕ). targets_from n w p ls) (eqb-true (suc k) b t))
    (λ t.
    let ne = borrow.Author.Tests.eqb-false (suc k) b t in
    targets_old w p k ls (λ a. absurd (h k (omega arith) (omega arith) a))
    ∙ targets_down k b w p ls (omega arith) (λ y lo hi. h y lo (omega arith)))

-- THE FORWARD LABEL
pub forward_inside : (w : List ℕ) (p : ℕ) → p < length w → forward w p ≡ byte w p ∷ []
unfolding forward
forward_inside w p h = rw (lt-ltb p (length w) h)

pub forward_end : (w : List ℕ) (p : ℕ) → length w ≤ p → forward w p ≡ []
unfolding forward
forward_end w p h = rw (le-ltb p (length w) h)

-- THE BACKWARD ARROWS of a state
pub back_range : (w : List ℕ) (p : ℕ) → Every (Target w p p (forward w p)) (back_targets w p)
unfolding back_targets
back_range w p = every_target w p p (forward w p)

pub target_range : (w : List ℕ) (p : ℕ) → Every (λ t. (1 ≤ t) × (t ≤ p)) (back_targets w p)
target_range w p =
    every_map (back_targets w p)
    (λ t u. let e : t ≡ suc u.source = u.is in let h : u.source < p = u.under in omega arith)
    (back_range w p)

pub back_zero : (w : List ℕ) → back_targets w 0 ≡ []
unfolding back_targets targets_from
back_zero w = refl

-- of state 1 at most one, to 1 again
pub back_one : (w : List ℕ) → 1 ≤ length (back_targets w 1) → back_targets w 1 ≡ 1 ∷ []
unfolding back_targets targets_from
back_one w = go (is_border w 1 0 && not (member (byte w 0) (forward w 1)))
  where
    go : (t : Bool) → 1 ≤ length (cond {A = List ℕ} t (1 ∷ []) []) → cond {A = List ℕ} t (1 ∷ []) [] ≡ 1 ∷ []
    go true h = refl
    go false h = absurd (omega arith)
