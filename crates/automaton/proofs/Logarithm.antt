-- log2 m is the logarithm rounded down: by halving, by the powers of two around m, and by the leading zeros of m. Assumes nothing.
use mathlib.Core.Path.{◌≡◌, refl, sym, ap, ◌∙◌, subst}
use Prim.Native.Nat.{ℕ, zero, suc, ◌+◌, ◌*◌, ◌/◌, ◌^◌, ◌≤◌, ◌<◌}
use native.Mathlib.Omega.{arith}
use native.Mathlib.Nat.{two-pow-succ}
use lib.Pow.{pow_pos, pow_mono}
use lib.Count.{count_leading_zeros, leading_top}
use borrow.Author.Tests.{lt-ltb, le-ltb}
use Rattle.words.proofs.Tests.{by_le}
use Rattle.automaton.specs.Ceilings.{halvings, log2}
use Rattle.automaton.specs.Promise.{LogarithmRight, LogarithmUnique}

halvings_small : (k m : ℕ) → m < 2 → halvings k m ≡ 0
unfolding halvings
halvings_small zero m h = refl
halvings_small (suc k) m h = rw (lt-ltb m 2 h)

halvings_large : (k m : ℕ) → 2 ≤ m → halvings (suc k) m ≡ suc (halvings k (m / 2))
unfolding halvings
halvings_large k m h = rw (le-ltb m 2 h)

-- m times are enough, and more change nothing
halvings_enough : (j k m : ℕ) → m ≤ j → m ≤ k → halvings j m ≡ halvings k m
halvings_enough zero k m a b = halvings_small zero m (omega arith) ∙ sym (halvings_small k m (omega arith))
halvings_enough (suc j) zero m a b = halvings_small (suc j) m (omega arith) ∙ sym (halvings_small zero m (omega arith))
halvings_enough (suc j) (suc k) m a b =
    by_le 2 m
    (λ (h : 2 ≤ m). halvings_large j m h ∙ ap suc (halvings_enough j k (m / 2) (omega arith) (omega arith)) ∙ sym (halvings_large k m h))
    (λ (h : m < 2). halvings_small (suc j) m h ∙ sym (halvings_small (suc k) m h))

log2_small : (m : ℕ) → m < 2 → log2 m ≡ 0
unfolding log2
log2_small m h = halvings_small m m h

log2_large : (m : ℕ) → 2 ≤ m → log2 m ≡ suc (log2 (m / 2))
unfolding log2
log2_large zero h = absurd (omega arith)
log2_large (suc k) h = halvings_large k (suc k) h ∙ ap suc (halvings_enough k (suc k / 2) (suc k / 2) (omega arith) (omega arith))

-- INDUCTION by halving
by_halving : (P : ℕ → Type 0) → ((m : ℕ) → m < 2 → P m) → ((m : ℕ) → 2 ≤ m → P (m / 2) → P m) → (m : ℕ) → P m
by_halving P small large m = go m m (omega arith)
  where
    go : (k m : ℕ) → m ≤ k → P m
    go zero m l = small m (omega arith)
    go (suc k) m l = by_le 2 m (λ (h : 2 ≤ m). large m h (go k (m / 2) (omega arith))) (λ (h : m < 2). small m h)

-- 2 ^ log2 m ≤ m < 2 ^ (1 + log2 m)
log2_low : (m : ℕ) → 1 ≤ m → 2 ^ log2 m ≤ m
log2_low =
    by_halving (λ m. 1 ≤ m → 2 ^ log2 m ≤ m)
    (λ m h l. rw (log2_small m h) (omega arith))
    (λ m h ih l. rw (log2_large m h) (omega (arith, ih (omega arith), two-pow-succ (log2 (m / 2)))))

log2_high : (m : ℕ) → m < 2 ^ suc (log2 m)
log2_high =
    by_halving (λ m. m < 2 ^ suc (log2 m))
    (λ m h. rw (log2_small m h) (omega arith))
    (λ m h ih. rw (log2_large m h) (omega (arith, ih, two-pow-succ (suc (log2 (m / 2))))))

pub logarithm_right : LogarithmRight
unfolding LogarithmRight
logarithm_right m some = (log2_low m some, log2_high m)

-- a power up to m has an exponent below that of any power over m
pub exponent_less : (m a b : ℕ) → 2 ^ a ≤ m → m < 2 ^ b → a < b
exponent_less m a b low high = by_le b a (λ (l : b ≤ a). absurd (omega (arith, pow_mono l))) (λ (l : a < b). l)

pub logarithm_unique : LogarithmUnique
unfolding LogarithmUnique
logarithm_unique m k low high =
    let some : 1 ≤ m = omega (arith, pow_pos k) in
    omega (arith, exponent_less m k (suc (log2 m)) low (log2_high m), exponent_less m (log2 m) (suc k) (log2_low m some) high)

-- in a width that m fits in, the zeros before the first 1 of m, that 1 and the log2 m digits behind it make up the width
pub leading_zeros : (width m : ℕ) → 1 ≤ m → m < 2 ^ width → count_leading_zeros width m + suc (log2 m) ≡ width
unfolding LogarithmUnique
leading_zeros width m some fits =
    let top = leading_top width m some fits in
    subst (λ (k : ℕ). count_leading_zeros width m + suc k ≡ width) (logarithm_unique m top.0 top.2 top.3) top.1

pub log2_bound : (m : ℕ) → log2 m ≤ m
log2_bound =
    by_halving (λ m. log2 m ≤ m)
    (λ m h. rw (log2_small m h) (omega arith))
    (λ m h ih. rw (log2_large m h) (omega (arith, ih)))

-- the largest exponent of a power up to 2m
pub log2_exponent : (m a : ℕ) → 2 ^ a ≤ 2 * m → a ≤ 1 + log2 m
log2_exponent m a h =
    let above : 2 * m < 2 ^ suc (suc (log2 m)) = omega (arith, log2_high m, two-pow-succ (suc (log2 m))) in
    omega (arith, exponent_less (2 * m) a (suc (suc (log2 m))) h above)
