-- Lists: equality as a test, membership as a test, facts of every element, one element more at the end, and the last n elements. Assumes nothing.
use mathlib.Core.Path.{◌≡◌, refl, sym, ap, ◌∙◌}
use mathlib.Core.Bool.{true, false, ◌||◌, and-true}
use mathlib.Core.Logic.{◌≢◌, ◌↔◌}
use mathlib.Core.List.{List, [], ◌∷◌, ◌++◌}
use Prim.Native.Nat.{ℕ, zero, suc, ◌+◌, ◌-◌, ◌≤◌, ◌<◌}
use native.Mathlib.Omega.{arith}
use lib.Dec.{eqb}
use lib.ListN.{length, get_or, take, drop, length-append, length-drop, drop_of_length-le}
use lib.Seq.{take_at, get_or_at, take-add, drop_at, drop-drop, drop-append-le, drop-append-add, length-take-le}
use borrow.Author.Tests.{eqb-true, eqb-false, eq-eqb, ne_eqb}
use Rattle.words.specs.Words.{member, Every, same, suffix, in_front}
use Rattle.words.proofs.Tests.{by_test, never_both, fails, and_left, and_right, and_both, same_test}

-- EQUALITY
pub same_refl : (xs : List ℕ) → same xs xs ≡ true
unfolding same
same_refl [] = refl
same_refl (x ∷ xs) = and_both (eqb x x) (same xs xs) (eq-eqb x x refl) (same_refl xs)

pub eq_same : {xs ys : List ℕ} → xs ≡ ys → same xs ys ≡ true
eq_same {xs} e = rw (← e) (same_refl xs)

pub same_eq : (xs ys : List ℕ) → same xs ys ≡ true → xs ≡ ys
unfolding same
same_eq [] [] e = refl
same_eq [] (y ∷ ys) e = cc
same_eq (x ∷ xs) [] e = cc
same_eq (x ∷ xs) (y ∷ ys) e =
    let head : x ≡ y = eqb-true x y (and_left (eqb x y) (same xs ys) e) in
    let tail : xs ≡ ys = same_eq xs ys (and_right (eqb x y) (same xs ys) e) in
    cc

pub not_same : (xs ys : List ℕ) → xs ≢ ys → same xs ys ≡ false
not_same xs ys n = fails (same xs ys) (λ e. n (same_eq xs ys e))

pub same_sym : (xs ys : List ℕ) → same xs ys ≡ same ys xs
same_sym xs ys =
    same_test (same xs ys) (same ys xs) (λ e. eq_same (sym (same_eq xs ys e))) (λ e. eq_same (sym (same_eq ys xs e)))

-- a list of one with another
pub same_one : (xs : List ℕ) (v : ℕ) → length xs ≡ 1 → same xs (v ∷ []) ≡ eqb (get_or xs 0 0) v
unfolding same
same_one [] v e = absurd (omega (arith, e))
same_one (x ∷ []) v e = and-true (eqb x v)
same_one (x ∷ y ∷ ys) v e = absurd (omega (arith, e))

-- MEMBERSHIP
pub member_nil : (v : ℕ) → member v [] ≡ false
unfolding member
member_nil v = refl

pub member_head : (v : ℕ) (xs : List ℕ) → member v (v ∷ xs) ≡ true
unfolding member
member_head v xs = rw (eq-eqb v v refl)

pub member_other : (v x : ℕ) (xs : List ℕ) → x ≢ v → member v (x ∷ xs) ≡ member v xs
unfolding member
member_other v x xs n = rw (ne_eqb x v n)

pub member_more : (v x : ℕ) (xs : List ℕ) → member v xs ≡ true → member v (x ∷ xs) ≡ true
unfolding member
member_more v x xs m = by_test (eqb x v) (λ t. rw t) (λ t. rw (t, m))

pub member_fewer : (v x : ℕ) (xs : List ℕ) → member v (x ∷ xs) ≡ false → (x ≢ v) × (member v xs ≡ false)
unfolding member
member_fewer v x xs m =
    by_test (eqb x v)
    (λ t. let head : member v (x ∷ xs) ≡ true = rw t in absurd (never_both head m))
    (λ t. (eqb-false x v t, rw t at m))

pub member_append : (v : ℕ) (xs ys : List ℕ) → member v (xs ++ ys) ≡ member v xs || member v ys
unfolding member
member_append v [] ys = refl
member_append v (x ∷ xs) ys = by_test (eqb x v) (λ t. rw t) (λ t. rw t (member_append v xs ys))

-- EVERY element
pub every_map : {P Q : ℕ → Type 0} (xs : List ℕ) → ((x : ℕ) → P x → Q x) → Every P xs → Every Q xs
every_map [] f all = tt
every_map (x ∷ xs) f all = (f x all.0, every_map xs f all.1)

pub every_member : (P : ℕ → Type 0) (xs : List ℕ) → Every P xs → (v : ℕ) → member v xs ≡ true → P v
unfolding member
every_member P [] all v m = absurd (never_both m refl)
every_member P (x ∷ xs) all v m =
    by_test (eqb x v)
    (λ t. rw (eqb-true x v t) at all.0)
    (λ t. every_member P xs all.1 v (rw t at m))

pub every_at : (P : ℕ → Type 0) (xs : List ℕ) (i : ℕ) → Every P xs → i < length xs → P (get_or xs i 0)
every_at P [] i all h = absurd (omega arith)
every_at P (x ∷ xs) zero all h = all.0
every_at P (x ∷ xs) (suc i) all h = every_at P xs i all.1 (omega arith)

pub every_append : (P : ℕ → Type 0) (xs ys : List ℕ) → Every P (xs ++ ys) ↔ (Every P xs × Every P ys)
every_append P [] ys = (λ h. (tt, h), λ h. h.1)
every_append P (x ∷ xs) ys =
    let u = every_append P xs ys in (
      λ h. let both = u.0 h.1 in ((h.0, both.0), both.1),
      λ h. (h.0.0, u.1 (h.0.1, h.1)),
    )

pub every_self : (xs : List ℕ) → Every (λ x. member x xs ≡ true) xs
every_self [] = tt
every_self (x ∷ xs) = (member_head x xs, every_map xs (λ y m. member_more y x xs m) (every_self xs))

-- ONE MORE at the end
pub length_snoc : (xs : List ℕ) (a : ℕ) → length (xs ++ (a ∷ [])) ≡ suc (length xs)
length_snoc xs a = simp length-append (omega arith)

module _ (xs ys : List ℕ) (a b : ℕ) (e : xs ++ (a ∷ []) ≡ ys ++ (b ∷ [])) where
  snoc_length : length ys ≡ length xs
  snoc_length = omega (arith, length_snoc xs a, length_snoc ys b, ap length e)

  pub snoc_front : xs ≡ ys
  snoc_front =
      sym (take_at xs (a ∷ []) (length xs) refl) ∙ ap (take (length xs)) e ∙ take_at ys (b ∷ []) (length xs) snoc_length

  pub snoc_last : a ≡ b
  snoc_last =
      sym (get_or_at xs a [] 0 (length xs) refl) ∙ ap (λ (l : List ℕ). get_or l (length xs) 0) e
      ∙ get_or_at ys b [] 0 (length xs) snoc_length

-- the first j of what is behind i are what is behind i of the first i + j
pub take_drop : (i j : ℕ) (l : List ℕ) → i ≤ length l → take j (drop i l) ≡ drop i (take (i + j) l)
take_drop i j l h =
    sym (ap (drop i) (take-add i j l) ∙ drop_at (take i l) (take j (drop i l)) i (length-take-le i l h))

-- what is the same from k on is the same from any later place on
pub drop_more : (k l : ℕ) (a b : List ℕ) → k ≤ l → drop k a ≡ drop k b → drop l a ≡ drop l b
drop_more k l a b h e =
    let at : l ≡ k + (l - k) = omega arith in
    rw (at, ← drop-drop (l - k) k a, ← drop-drop (l - k) k b) (ap (drop (l - k)) e)

-- THE LAST n
pub length_suffix : (n : ℕ) (ts : List ℕ) → n ≤ length ts → length (suffix n ts) ≡ n
unfolding suffix
length_suffix n ts h = omega (arith, length-drop (length ts - n) ts)

pub suffix_none : (ts : List ℕ) → suffix 0 ts ≡ []
unfolding suffix
suffix_none ts = let all : length ts ≤ length ts - 0 = omega arith in drop_of_length-le ts all

pub suffix_whole : (n : ℕ) (ts : List ℕ) → length ts ≡ n → suffix n ts ≡ ts
unfolding suffix
suffix_whole n ts e = let at : length ts - n ≡ 0 = omega arith in ap (λ (k : ℕ). drop k ts) at

pub suffix_suffix : (m n : ℕ) (ts : List ℕ) → m ≤ n → n ≤ length ts → suffix m (suffix n ts) ≡ suffix m ts
unfolding suffix
suffix_suffix m n ts h l =
    let at : (length ts - n) + (length (drop (length ts - n) ts) - m) ≡ length ts - m = omega (arith, length-drop (length ts - n) ts) in
    drop-drop (length (drop (length ts - n) ts) - m) (length ts - n) ts ∙ ap (λ (k : ℕ). drop k ts) at

pub suffix_snoc : (n : ℕ) (ts : List ℕ) (c : ℕ) → n ≤ length ts → suffix (suc n) (ts ++ (c ∷ [])) ≡ suffix n ts ++ (c ∷ [])
unfolding suffix
suffix_snoc n ts c h =
    let at : length (ts ++ (c ∷ [])) - suc n ≡ length ts - n = omega (arith, length_snoc ts c) in
    ap (λ (k : ℕ). drop k (ts ++ (c ∷ []))) at ∙ drop-append-le (length ts - n) ts (c ∷ []) (omega arith)

-- those of two lists are those of the second, if it has so many
pub suffix_append : (n : ℕ) (xs ys : List ℕ) → n ≤ length ys → suffix n (xs ++ ys) ≡ suffix n ys
unfolding suffix
suffix_append n xs ys h =
    let at : length (xs ++ ys) - n ≡ length xs + (length ys - n) = omega (arith, length-append xs ys) in
    ap (λ (k : ℕ). drop k (xs ++ ys)) at ∙ drop-append-add xs ys (length ys - n)

-- the last n of the first i + n are the first n from i on
pub suffix_take : (i n : ℕ) (ts : List ℕ) → i + n ≤ length ts → suffix n (take (i + n) ts) ≡ take n (drop i ts)
unfolding suffix
suffix_take i n ts h =
    let at : length (take (i + n) ts) - n ≡ i = omega (arith, length-take-le (i + n) ts h) in
    ap (λ (k : ℕ). drop k (take (i + n) ts)) at ∙ sym (take_drop i n ts (omega arith))

-- WRITTEN IN FRONT: as long as what was written, at least
pub in_front_long : (new old : List ℕ) → length new ≤ length (in_front new old)
unfolding in_front
in_front_long new old = omega (arith, length-append new (drop (length new) old))
