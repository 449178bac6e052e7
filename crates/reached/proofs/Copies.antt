-- What the program writes byte by byte: the invariant of its two loops, and a ruler's bytes by their numbers. Assumes nothing.
use mathlib.Core.Path.{◌≡◌, refl, sym, ap, ◌∙◌}
use mathlib.Core.List.{List, [], ◌∷◌, ◌++◌}
use mathlib.Core.Logic.{◌≢◌}
use Prim.Native.Nat.{ℕ, zero, suc, ◌+◌, ◌-◌, ◌/◌, ◌%◌, ◌^◌, ◌≤◌, ◌<◌}
use native.Mathlib.Omega.{arith}
use native.Mathlib.Nat.{two-pow-succ}
use native.Mathlib.Numerals.{add-one}
use lib.Count.{count_trailing_zeros}
use lib.ListN.{length, get_or, take, set, length-set, get_or-append}
use lib.Seq.{take_all, take-suc, take-suc-set, get_or-take, get_or_at, get_or-append-add}
use Rattle.words.specs.Words.{byte}
use Rattle.words.proofs.Tests.{by_le, by_eq}
use Rattle.automaton.specs.Ceilings.{log2}
use Rattle.automaton.specs.Promise.{LogarithmRight}
use Rattle.automaton.proofs.Logarithm.{exponent_less, logarithm_right}
use Rattle.reached.specs.Words.{ruler, steep_code}
use Rattle.reached.proofs.ByteReached.{ruler_length, ruler_next, steep_fits}

-- THE LOOP: the first i bytes are those of the word to be written
pub record Copied (target before word : List ℕ) (i : ℕ) : Type 0 where
  pub size : length word ≡ length before
  pub front : take i word ≡ take i target

module _ {target before word : List ℕ} {i : ℕ} (f : Copied target before word i) where
  pub copied_turn : (v : ℕ) → i < length word → i < length target → v ≡ byte target i → Copied target before (set word i v) (i + 1)
  unfolding byte
  copied_turn v h l e =
      record {
        size = length-set word i v ∙ f.size;
        front =
            rw (add-one i)
            (take-suc-set word i v h ∙ ap (λ (ts : List ℕ). ts ++ (v ∷ [])) f.front ∙ ap (λ (c : ℕ). take i target ++ (c ∷ [])) e
            ∙ sym (take-suc target i 0 l));
      }

  pub copied_end : length word ≤ i → length target ≡ length word → word ≡ target
  copied_end h e = sym (take_all i word h) ∙ f.front ∙ take_all i target (omega arith)

-- HALVING: 2 ^ k can be halved k times, and more below a power of two as often as the number that is added to it
trailing_power : (d k : ℕ) → k < d → count_trailing_zeros d (2 ^ k) ≡ k
unfolding count_trailing_zeros
trailing_power zero k h = absurd (omega arith)
trailing_power (suc d) zero h = refl
trailing_power (suc d) (suc k) h =
    let even : 2 ^ suc k % 2 ≡ 0 = omega (arith, two-pow-succ k) in
    let half : 2 ^ suc k / 2 ≡ 2 ^ k = omega (arith, two-pow-succ k) in
    rw (even, half) (ap suc (trailing_power d k (omega arith)))

trailing_added : (d k r : ℕ) → 1 ≤ r → r < 2 ^ k → count_trailing_zeros d (2 ^ k + r) ≡ count_trailing_zeros d r
unfolding count_trailing_zeros
trailing_added zero k r l h = refl
trailing_added (suc d) zero r l h = absurd (omega arith)
trailing_added (suc d) (suc k) r l h =
    let low : (2 ^ suc k + r) % 2 ≡ r % 2 = omega (arith, two-pow-succ k) in
    let half : (2 ^ suc k + r) / 2 ≡ 2 ^ k + r / 2 = omega (arith, two-pow-succ k) in
    by_eq (r % 2) 0
    (λ (e : r % 2 ≡ 0). rw (low, half, e) (ap suc (trailing_added d k (r / 2) (omega arith) (omega (arith, two-pow-succ k)))))
    (λ (n : r % 2 ≢ 0). let odd : r % 2 ≡ 1 = omega arith in rw (low, odd) refl)

-- A RULER'S BYTE tells how often its number, from 1, can be halved
ruler_byte : (d k i : ℕ) → k ≤ d → i < length (ruler k) → byte (ruler k) i ≡ 32 + count_trailing_zeros d (suc i)
unfolding byte
ruler_byte d zero i u h = absurd (omega (arith, ruler_length 0))
ruler_byte d (suc k) i u h =
    let size = ruler_length k in
    rw (ruler_next k)
    (by_le (length (ruler k)) i
    (λ (l : length (ruler k) ≤ i).
    by_eq (length (ruler k)) i
    (λ (e : length (ruler k) ≡ i).
    let at : suc i ≡ 2 ^ k = omega arith in
    get_or_at (ruler k) (32 + k) (ruler k) 0 i e ∙ rw (at, trailing_power d k (omega arith)) refl)
    (λ (n : length (ruler k) ≢ i).
    let r : ℕ = i - suc (length (ruler k)) in
    let at : i ≡ length (ruler k) + suc r = omega arith in
    let inside : r < length (ruler k) = omega (arith, ruler_length (suc k), two-pow-succ k) in
    let number : suc i ≡ 2 ^ k + suc r = omega arith in
    ap (λ (j : ℕ). get_or (ruler k ++ ((32 + k) ∷ ruler k)) j 0) at
    ∙ get_or-append-add (ruler k) ((32 + k) ∷ ruler k) (suc r) 0
    ∙ ruler_byte d k r (omega arith) inside
    ∙ rw (number, trailing_added d k (suc r) (omega arith) (omega arith)) refl))
    (λ (l : i < length (ruler k)). get_or-append (ruler k) ((32 + k) ∷ ruler k) 0 i l ∙ ruler_byte d k i (omega arith) l))

-- so a steep code's, where its length has d binary digits at most
pub steep_at : (d m i : ℕ) → m < 2 ^ d → i < m → byte (steep_code m) i ≡ 32 + count_trailing_zeros d (suc i)
unfolding steep_code byte LogarithmRight
steep_at d m i u h =
    get_or-take m (ruler (suc (log2 m))) i 0 h
    ∙ unfold byte in
    ruler_byte d (suc (log2 m)) i (exponent_less m (log2 m) d (logarithm_right m (omega arith)).0 u) (omega (arith, steep_fits m))
