-- Words of bits by what they hold: & and |, single bits, the highest bit, and that equal bits are equal words. Assumes nothing.
use mathlib.Core.Path.{◌≡◌, refl, sym, ap, ◌∙◌}
use mathlib.Core.Bool.{Bool, true, false, ◌&&◌, ◌||◌, and-true, and-false, or-false}
use mathlib.Core.Logic.{◌≢◌}
use Prim.Native.Nat.{ℕ, zero, suc, ◌+◌, ◌*◌, ◌-◌, ◌/◌, ◌%◌, ◌^◌, ◌≤◌, ◌<◌, min, max}
use native.Mathlib.Nat.{mod-lt, mod_self, mul-add-mod_self_right, div-eq_of_lt, div-one, pow-suc}
use native.Mathlib.Omega.{arith}
use lib.Dec.{eqb}
use lib.Bits.{bit_and, bit_or, and_step, or_step, and_le_l, and_le_r, or_add_and, and_shr, or_shr}
use lib.Pow.{pow_pos, pow_mono, pow-lt, high, low, shr-shr, field, mod-mod-pow, shl_exact}
use borrow.Author.Tests.{eq-eqb, ne_eqb, lt-ltb, le-ltb}
use Rattle.words.proofs.Tests.{by_le, by_eq, never_both, and_left, and_right}
use Rattle.automaton.specs.Ceilings.{log2}
use Rattle.automaton.specs.Promise.{LogarithmRight}
use Rattle.automaton.proofs.Logarithm.{logarithm_right}
use Rattle.bits.specs.Bits.{holds, Top, WithBit, WithoutTop}

-- CASES on two digits
by_digits : (P : ℕ → ℕ → Type 0) → P 0 0 → P 0 1 → P 1 0 → P 1 1 → (a b : ℕ) → P (a % 2) (b % 2)
by_digits P none right left both a b = go (a % 2) (b % 2) (mod-lt a (omega arith)) (mod-lt b (omega arith))
  where
    go : (x y : ℕ) → x < 2 → y < 2 → P x y
    go zero zero h k = none
    go zero (suc zero) h k = right
    go (suc zero) zero h k = left
    go (suc zero) (suc zero) h k = both
    go (suc (suc x)) y h k = absurd (omega arith)
    go zero (suc (suc y)) h k = absurd (omega arith)
    go (suc zero) (suc (suc y)) h k = absurd (omega arith)

-- BIT FOR BIT
bit_and_below : (a b : ℕ) → eqb (bit_and a b % 2) 1 ≡ eqb (a % 2) 1 && eqb (b % 2) 1
bit_and_below a b =
    ap (λ (n : ℕ). eqb (n % 2) 1) (and_step a b)
    ∙ ap (λ (n : ℕ). eqb n 1) (mul-add-mod_self_right (bit_and (a / 2) (b / 2)) 2 (min (a % 2) (b % 2)))
    ∙ by_digits (λ x y. eqb (min x y % 2) 1 ≡ eqb x 1 && eqb y 1) refl refl refl refl a b

bit_or_below : (a b : ℕ) → eqb (bit_or a b % 2) 1 ≡ eqb (a % 2) 1 || eqb (b % 2) 1
bit_or_below a b =
    ap (λ (n : ℕ). eqb (n % 2) 1) (or_step a b)
    ∙ ap (λ (n : ℕ). eqb n 1) (mul-add-mod_self_right (bit_or (a / 2) (b / 2)) 2 (max (a % 2) (b % 2)))
    ∙ by_digits (λ x y. eqb (max x y % 2) 1 ≡ eqb x 1 || eqb y 1) refl refl refl refl a b

pub holds_and : (a b q : ℕ) → holds (bit_and a b) q ≡ holds a q && holds b q
unfolding holds
holds_and a b q = ap (λ (n : ℕ). eqb (n % 2) 1) (and_shr a b q) ∙ bit_and_below (a / 2 ^ q) (b / 2 ^ q)

pub holds_or : (a b q : ℕ) → holds (bit_or a b) q ≡ holds a q || holds b q
unfolding holds
holds_or a b q = ap (λ (n : ℕ). eqb (n % 2) 1) (or_shr a b q) ∙ bit_or_below (a / 2 ^ q) (b / 2 ^ q)

-- two words that have no bit together have none
pub or_zeros : (a b : ℕ) → bit_or a b ≡ 0 → (a ≡ 0) × (b ≡ 0)
or_zeros a b e =
    let sum = or_add_and a b in
    let left = and_le_l a b in
    let right = and_le_r a b in
    (omega arith, omega arith)

-- no bit is held at or above one that the word is below
pub holds_above : (n k q : ℕ) → n < 2 ^ k → k ≤ q → holds n q ≡ false
unfolding holds
holds_above n k q h l =
    let below : n < 2 ^ q = omega (arith, pow_mono l) in
    rw (div-eq_of_lt below)

pub holds_zero : (q : ℕ) → holds 0 q ≡ false
holds_zero q = holds_above 0 0 q (omega arith) (omega arith)

-- the word with all bits holds each
all_below : (n : ℕ) → (t : ℕ → Bool) → Bool
all_below zero t = true
all_below (suc n) t = t n && all_below n t

below_is : (n : ℕ) (t : ℕ → Bool) → all_below n t ≡ true → (q : ℕ) → q < n → t q ≡ true
unfolding all_below
below_is zero t e q h = absurd (omega arith)
below_is (suc n) t e q h =
    by_eq q n
    (λ (same : q ≡ n). rw same (and_left (t n) (all_below n t) e))
    (λ (other : q ≢ n). below_is n t (and_right (t n) (all_below n t) e) q (omega arith))

pub holds_all : (q : ℕ) → q < 64 → holds 18446744073709551615 q ≡ true
unfolding holds all_below
holds_all q h = below_is 64 (holds 18446744073709551615) refl q h

-- the bits below k are those of the remainder
holds_mod : (n k q : ℕ) → q < k → holds (n % 2 ^ k) q ≡ holds n q
unfolding holds
holds_mod n k q h =
    let j : ℕ = k - suc q in
    let at : k ≡ suc j + q = omega arith in
    let one : suc j ≡ j + 1 = omega arith in
    ap (λ (i : ℕ). eqb (n % 2 ^ i / 2 ^ q % 2) 1) at
    ∙ ap (λ (x : ℕ). eqb (x % 2) 1) (field n (suc j) q)
    ∙ ap (λ (i : ℕ). eqb (n / 2 ^ q % 2 ^ i % 2) 1) one
    ∙ ap (λ (x : ℕ). eqb x 1) (mod-mod-pow (n / 2 ^ q) j 1)

-- the highest bit is held
holds_top : (n k : ℕ) → 2 ^ k ≤ n → n < 2 ^ suc k → holds n k ≡ true
unfolding holds
holds_top n k l h =
    let rest : n - 2 ^ k < 2 ^ k = omega (arith, pow-suc 2 k) in
    let at : n ≡ 1 * 2 ^ k + (n - 2 ^ k) = omega arith in
    ap (λ (x : ℕ). eqb (x / 2 ^ k % 2) 1) at ∙ ap (λ (x : ℕ). eqb (x % 2) 1) (high 1 k rest)

-- ONE BIT: a 1 shifted by j is 2 ^ j, the word that holds j alone
pub shifted_one : (j : ℕ) → j < 64 → 1 * 2 ^ j % 2 ^ 64 ≡ 2 ^ j
shifted_one j h =
    let one : 1 * 2 ^ j ≡ 2 ^ j = omega arith in
    shl_exact 1 j 64 (omega arith) (omega arith) ∙ one

pub holds_bit : (j q : ℕ) → holds (2 ^ j) q ≡ eqb q j
holds_bit j q =
    by_le j q
    (λ (h : j ≤ q).
    by_eq q j
    (λ (e : q ≡ j). rw (eq-eqb q j e) (rw e (holds_top (2 ^ j) j (omega arith) (pow-lt (omega arith)))))
    (λ (n : q ≢ j). rw (ne_eqb q j n) (holds_above (2 ^ j) q q (pow-lt (omega arith)) (omega arith))))
    (λ (h : q < j).
    rw (ne_eqb q j (λ e. omega arith))
    (sym (holds_mod (2 ^ j) j q h) ∙ ap (λ (n : ℕ). holds n q) (mod_self (2 ^ j)) ∙ holds_zero q))

-- EQUAL BITS are equal words
holds_half : (n q : ℕ) → holds (n / 2) q ≡ holds n (suc q)
unfolding holds
holds_half n q =
    let at : 1 + q ≡ suc q = omega arith in
    ap (λ (x : ℕ). eqb (x % 2) 1) (shr-shr n 1 q ∙ ap (λ (i : ℕ). n / 2 ^ i) at)

same_digit : (a b : ℕ) → holds a 0 ≡ holds b 0 → a % 2 ≡ b % 2
unfolding holds
same_digit a b e =
    by_digits (λ x y. eqb x 1 ≡ eqb y 1 → x ≡ y) (λ e. refl) (λ e. cc) (λ e. cc) (λ e. refl) a b
    (rw (div-one a, div-one b) at e)

pub same_bits : (k a b : ℕ) → a < 2 ^ k → b < 2 ^ k → ((q : ℕ) → q < k → holds a q ≡ holds b q) → a ≡ b
same_bits zero a b h l f = omega arith
same_bits (suc k) a b h l f =
    let p : 2 ^ suc k ≡ 2 ^ k * 2 = pow-suc 2 k in
    let halves : a / 2 ≡ b / 2 =
    same_bits k (a / 2) (b / 2) (omega arith) (omega arith) (λ q r. holds_half a q ∙ f (suc q) (omega arith) ∙ sym (holds_half b q)) in
    omega (arith, same_digit a b (f 0 (omega arith)))

pub zero_bits : (m : ℕ) → m < 2 ^ 64 → ((q : ℕ) → q < 64 → holds m q ≡ false) → m ≡ 0
zero_bits m h f = same_bits 64 m 0 h (pow_pos 64) (λ q l. f q l ∙ sym (holds_zero q))

-- THE HIGHEST BIT: that of 0, the logarithm of any other, and no two
pub top_zero : (m : ℕ) → m ≡ 0 → Top m 0
top_zero m e = record { held = λ n. absurd (n e); above = λ q h. rw e (holds_zero q); few = omega arith; none = λ z. refl }

top_log2 : (m : ℕ) → m ≢ 0 → m < 2 ^ 64 → Top m (log2 m)
unfolding LogarithmRight
top_log2 m some fits =
    let around = logarithm_right m (omega arith) in
    record {
      held = λ n. holds_top m (log2 m) around.0 around.1;
      above = λ q h. holds_above m (suc (log2 m)) q around.1 h;
      few = by_le 64 (log2 m) (λ (h : 64 ≤ log2 m). absurd (omega (arith, around.0, pow_mono h))) (λ h. h);
      none = λ e. absurd (some e);
    }

pub top_is : (m t : ℕ) → m ≢ 0 → m < 2 ^ 64 → t ≡ log2 m → Top m t
top_is m t some fits e = rw e (top_log2 m some fits)

pub top_unique : (m t u : ℕ) → Top m t → Top m u → t ≡ u
top_unique m t u a b =
    by_eq m 0
    (λ (e : m ≡ 0). a.none e ∙ sym (b.none e))
    (λ (n : m ≢ 0).
    by_le t u
    (λ (h : t ≤ u). by_le u t (λ (l : u ≤ t). omega arith) (λ (l : t < u). absurd (never_both (b.held n) (a.above u l))))
    (λ (h : u < t). absurd (never_both (a.held n) (b.above t h))))

-- the powers of two around a word are those at and over its highest bit
pub top_part : (m t : ℕ) → m ≢ 0 → m < 2 ^ 64 → Top m t → (2 ^ t ≤ m) × (m < 2 ^ suc t)
unfolding LogarithmRight
top_part m t some fits a = rw (top_unique m t (log2 m) a (top_log2 m some fits)) (logarithm_right m (omega arith))

-- ONE BIT MORE
pub with_bit_put : (m j : ℕ) → j < 64 → WithBit m j (bit_or m (1 * 2 ^ j % 2 ^ 64))
with_bit_put m j h =
    record { each = λ q. rw (shifted_one j h, lt-ltb j 64 h, and-true) (holds_or m (2 ^ j) q ∙ ap (λ (b : Bool). holds m q || b) (holds_bit j q)) }

pub with_bit_none : (m j : ℕ) → 64 ≤ j → WithBit m j m
with_bit_none m j h = record { each = λ q. rw (le-ltb j 64 h, and-false, or-false) refl }

-- ALL BUT THE HIGHEST
pub without_top_zero : (m : ℕ) → m ≡ 0 → WithoutTop m 0
without_top_zero m e =
    record { each = λ t a q. rw (e, holds_zero q) refl; less = λ n. absurd (n e); none = λ z. refl }

pub without_top_less : (m t r : ℕ) → m ≢ 0 → m < 2 ^ 64 → Top m t → r + 2 ^ t ≡ m → WithoutTop m r
without_top_less m t r some fits a e =
    let rest : r < 2 ^ t = omega (arith, (top_part m t some fits a).1, pow-suc 2 t) in
    let at : m ≡ 1 * 2 ^ t + r = omega arith in
    let left : m % 2 ^ t ≡ r = ap (λ (x : ℕ). x % 2 ^ t) at ∙ low 1 t rest in
    record {
      each =
          λ u b q.
          rw (top_unique m u t b a)
          (by_le t q
          (λ (h : t ≤ q). rw (le-ltb q t h, and-false) (holds_above r t q rest h))
          (λ (h : q < t). rw (lt-ltb q t h, and-true) (ap (λ (x : ℕ). holds x q) (sym left) ∙ holds_mod m t q h)));
      less = λ n. omega (arith, pow_pos t);
      none = λ z. absurd (some z);
    }
