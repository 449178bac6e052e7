-- The largest number with a property: a record, its uniqueness, and the definitions that search for one. Assumes nothing.
use mathlib.Core.Path.{◌≡◌, refl}
use mathlib.Core.Bool.{Bool, true, false, cond}
use mathlib.Core.List.{List, []}
use mathlib.Core.Logic.{◌≢◌}
use Prim.Native.Nat.{ℕ, zero, suc, ◌≤◌, ◌<◌}
use native.Mathlib.Omega.{arith}
use lib.Dec.{eqb}
use lib.ListN.{length, take}
use lib.Seq.{length-take-le}
use borrow.Author.Tests.{eqb-true, eq-eqb}
use Rattle.words.specs.Words.{ends_with, largest, state_of}
use Rattle.words.proofs.Tests.{by_le, by_eq, never_both, same_test}
use Rattle.words.proofs.Ends.{Ends, ends_is, ends_test, ends_zero, ends_whole}

-- x is the largest number up to l with P
pub record Largest (P : ℕ → Type 0) (l x : ℕ) : Type 0 where
  pub bound : x ≤ l
  pub holds : P x
  pub none : (y : ℕ) → x < y → y ≤ l → P y → ⊥

pub largest_one : (P : ℕ → Type 0) (l x y : ℕ) → Largest P l x → Largest P l y → x ≡ y
largest_one P l x y u v =
    by_le x y
    (λ (a : x ≤ y). by_le y x (λ (b : y ≤ x). omega arith) (λ (b : x < y). absurd (u.none y b v.bound v.holds)))
    (λ (a : y < x). absurd (v.none x a u.bound u.holds))

-- where two properties agree up to l, and a third number bounds both
pub largest_same : (P Q : ℕ → Type 0) (l x : ℕ) → ((y : ℕ) → y ≤ l → P y → Q y) → ((y : ℕ) → y ≤ l → Q y → P y) →
    Largest P l x → Largest Q l x
largest_same P Q l x f g u =
    record { bound = u.bound; holds = f x u.bound u.holds; none = λ y a b q. u.none y a b (g y b q) }

pub largest_wider : (P : ℕ → Type 0) (k l x : ℕ) → k ≤ l → ((y : ℕ) → k < y → y ≤ l → P y → ⊥) → Largest P k x → Largest P l x
largest_wider P k l x h f u =
    record {
      bound = omega (arith, u.bound);
      holds = u.holds;
      none = λ y a b q. by_le y k (λ (c : y ≤ k). u.none y a c q) (λ (c : k < y). f y c b q);
    }

-- what `largest` finds
module _ (t : ℕ → Bool) (P : ℕ → Type 0) (to : (x : ℕ) → t x ≡ true → P x) (from : (x : ℕ) → 0 < x → P x → t x ≡ true) (start : P 0) where
  pub largest_is : (l : ℕ) → Largest P l (largest t l)
  unfolding largest
  largest_is zero = record { bound = omega arith; holds = start; none = λ y a b q. absurd (omega arith) }
  largest_is (suc l) = go (t (suc l)) refl (largest_is l)
    where
      go : (b : Bool) → t (suc l) ≡ b → Largest P l (largest t l) → Largest P (suc l) (cond b (suc l) (largest t l))
      go true e u = record { bound = omega arith; holds = to (suc l) e; none = λ y a b q. absurd (omega arith) }
      go false e u =
          largest_wider P l (suc l) (largest t l) (omega arith)
          (λ y a b q. let d : suc l ≡ y = omega arith in never_both (rw d (from y (omega arith) q)) e) u

-- of any test: what passes is the number found, unless it is 0
pub largest_passing : (t : ℕ → Bool) (l : ℕ) → Largest (λ x. 0 < x → t x ≡ true) l (largest t l)
largest_passing t l = largest_is t (λ x. 0 < x → t x ≡ true) (λ x e h. e) (λ x h p. p h) (λ h. absurd (omega arith)) l

-- it is l where l passes; none between k and l counts where none passes; it is the same for tests that agree
pub largest_whole : (t : ℕ → Bool) (l : ℕ) → t l ≡ true → largest t l ≡ l
unfolding largest
largest_whole t zero e = refl
largest_whole t (suc l) e = rw e

pub largest_cut : (t : ℕ → Bool) (k l : ℕ) → k ≤ l → ((x : ℕ) → k < x → x ≤ l → t x ≡ false) → largest t l ≡ largest t k
largest_cut t k l h f =
    largest_one (λ x. 0 < x → t x ≡ true) l (largest t l) (largest t k) (largest_passing t l)
    (largest_wider (λ x. 0 < x → t x ≡ true) k l (largest t k) h (λ y a b q. never_both (q (omega arith)) (f y a b)) (largest_passing t k))

pub largest_agree : (t s : ℕ → Bool) (l : ℕ) → ((x : ℕ) → x ≤ l → t x ≡ s x) → largest t l ≡ largest s l
unfolding largest
largest_agree t s zero e = refl
largest_agree t s (suc l) e = rw (e (suc l) (omega arith), largest_agree t s l (λ x h. e x (omega arith)))

-- THE STATE of a text
pub state_is : (w ts : List ℕ) → Largest (Ends ts w) (length w) (state_of w ts)
unfolding state_of
state_is w ts = largest_is (ends_with ts w) (Ends ts w) (ends_is ts w) (λ x h. ends_test ts w x) (ends_zero ts w) (length w)

pub state_read : (w ts : List ℕ) → state_of w ts ≤ length ts
state_read w ts = (state_is w ts).holds.fits

pub state_nil : (w : List ℕ) → state_of w [] ≡ 0
state_nil w = omega (arith, state_read w [])

-- that of the first p bytes is p
pub state_start : (w : List ℕ) (p : ℕ) → p ≤ length w → state_of w (take p w) ≡ p
state_start w p h =
    largest_one (Ends (take p w) w) (length w) (state_of w (take p w)) p (state_is w (take p w))
    (record { bound = h; holds = ends_whole w p h; none = λ y a b u. absurd (omega (arith, u.fits, length-take-le p w h)) })

-- it is the whole word exactly where the text ends with the whole word
pub state_whole : (w ts : List ℕ) → eqb (state_of w ts) (length w) ≡ ends_with ts w (length w)
state_whole w ts =
    let s = state_is w ts in
    same_test (eqb (state_of w ts) (length w)) (ends_with ts w (length w))
    (λ e. ends_test ts w (length w) (rw (eqb-true (state_of w ts) (length w) e) at s.holds))
    (λ e. eq-eqb (state_of w ts) (length w)
    (by_eq (state_of w ts) (length w) (λ d. d)
    (λ (d : state_of w ts ≢ length w). absurd (s.none (length w) (omega (arith, s.bound)) (omega arith) (ends_is ts w (length w) e)))))
