-- The digits that the kit's `decimal` writes are the fewest, so they are those of the definition. Assumes nothing.
use mathlib.Core.Path.{◌≡◌, refl}
use mathlib.Core.List.{List, [], ◌∷◌, ◌++◌}
use Prim.Native.Nat.{ℕ, zero, suc, ◌+◌, ◌-◌, ◌/◌, ◌%◌, ◌^◌, ◌≤◌, ◌<◌, zero-le}
use native.Mathlib.Nat.{pow-succ'}
use native.Mathlib.Omega.{arith}
use borrow.Author.Tests.{lt-ltb, le-ltb}
use lib.Dec.{lit≤}
use lib.ListN.{length, length-append}
use Rattle.words.proofs.Tests.{by_le}
use Rattle.words.proofs.Lists.{length_snoc}
use Rattle.forms.specs.Ascii.{ascii}
use Rattle.forms.specs.Text.{digits_of, decimal, with_number, place_form, end_form, refused_form}
use Rattle.io.specs.Digits.{hex_digit_ascii, last_digits, IsDigitCount}

-- a power of ten is above its exponent
power_above : (k : ℕ) → k < 10 ^ k
power_above zero = omega arith
power_above (suc k) = omega (arith, power_above k, pow-succ' 10 k)

-- a digit
digit_glyph : (n : ℕ) → hex_digit_ascii (n % 10) ≡ 48 + n % 10
digit_glyph n = rw (lt-ltb (n % 10) 10 (omega arith)) refl

-- one digit, and one more
digits_one : (f n : ℕ) → n < 10 → digits_of (suc f) n ≡ (48 + n % 10) ∷ []
unfolding digits_of
digits_one f n h = rw (lt-ltb n 10 h) refl

digits_more : (f n : ℕ) → 10 ≤ n → digits_of (suc f) n ≡ digits_of f (n / 10) ++ ((48 + n % 10) ∷ [])
unfolding digits_of
digits_more f n h = rw (le-ltb n 10 h) refl

digits_fewest : (k f n : ℕ) → k ≤ f → IsDigitCount 10 1 n k → last_digits 10 k n ≡ digits_of f n
digits_fewest zero f n l h = absurd (omega (arith, h.0))
digits_fewest (suc k) zero n l h = absurd (omega arith)
digits_fewest (suc zero) (suc f) n l h = rw (digits_one f n h.1, digit_glyph n) refl
digits_fewest (suc (suc k)) (suc f) n l h =
    let at : suc (suc k) - 1 ≡ suc k = omega arith in
    let low : 10 ^ suc k ≤ n = rw at at (h.2 (omega arith)) in
    let many : 10 ≤ n = omega (arith, low, pow-succ' 10 k, power_above k) in
    rw (digits_more f n many, digit_glyph n, ← digits_fewest (suc k) f (n / 10) (omega arith) (tenth low)) refl
  where
    tenth : 10 ^ suc k ≤ n → IsDigitCount 10 1 (n / 10) (suc k)
    tenth low =
        let at : suc k - 1 ≡ k = omega arith in (
          omega arith,
          omega (arith, h.1, pow-succ' 10 (suc k)),
          λ _. rw at (omega (arith, low, pow-succ' 10 k)),
        )

pub decimal_is : (k n : ℕ) → IsDigitCount 10 1 n k → last_digits 10 k n ≡ decimal n
unfolding decimal
decimal_is zero n h = absurd (omega (arith, h.0))
decimal_is (suc zero) n h = digits_fewest 1 (suc n) n (omega arith) h
decimal_is (suc (suc k)) n h =
    let at : suc (suc k) - 1 ≡ suc k = omega arith in
    let low : 10 ^ suc k ≤ n = rw at at (h.2 (omega arith)) in
    digits_fewest (suc (suc k)) (suc n) n (omega (arith, low, power_above (suc k))) h

-- HOW MANY DIGITS: a number below the k-th power of ten has at most k
digits_few : (f n k : ℕ) → 1 ≤ k → n < 10 ^ k → length (digits_of f n) ≤ k
unfolding digits_of
digits_few zero n k h l = zero-le
digits_few (suc f) n zero h l = elim h [ ]
digits_few (suc f) n (suc zero) h l = rw (lt-ltb n 10 l) h
digits_few (suc f) n (suc (suc k)) h l =
    by_le 10 n
    (λ (m : 10 ≤ n).
    rw (le-ltb n 10 m, length_snoc (digits_of f (n / 10)) (48 + n % 10))
    (omega (arith, digits_few f (n / 10) (suc k) (omega arith) (omega (arith, pow-succ' 10 (suc k))))))
    (λ (m : n < 10). rw (lt-ltb n 10 m) (omega arith))

pub decimal_few : (n k : ℕ) → 1 ≤ k → n < 10 ^ k → length (decimal n) ≤ k
unfolding decimal
decimal_few n k h l = digits_few (suc n) n k h l

-- the forms of numbers of 32 and 64 bits
pub with_number_short : (bs : List ℕ) (n k : ℕ) → 1 ≤ k → n < 10 ^ k → length (bs ++ decimal n) ≤ length bs + k
with_number_short bs n k h l = omega (arith, length-append bs (decimal n), decimal_few n k h l)

form_short : (bs : List ℕ) (n : ℕ) → n < 2 ^ 32 → length (bs ++ decimal n ++ ascii ")\n") ≤ length bs + 12
form_short bs n l = omega (arith, length-append (bs ++ decimal n) (ascii ")\n"), with_number_short bs n 10 (lit≤ tt) (omega arith))

pub place_short : (p : ℕ) → p < 2 ^ 32 → length (place_form p) ≤ 16
unfolding place_form
place_short p l = form_short (ascii "(at ") p l

pub refused_short : (r : ℕ) → r < 2 ^ 32 → length (refused_form r) ≤ 21
unfolding refused_form
refused_short r l = form_short (ascii "(refused ") r l

pub end_short : (n h c : ℕ) → n < 2 ^ 32 → h < 2 ^ 32 → c < 2 ^ 64 → length (end_form n h c) ≤ 75
unfolding end_form
end_short n h c k l m =
    let a : List ℕ = with_number "(end (bytes " n in
    let b : List ℕ = with_number ") (hits " h in
    let d : List ℕ = with_number ") (compares " c in
    omega (
      arith,
      length-append a b,
      length-append (a ++ b) d,
      length-append (a ++ b ++ d) (ascii "))\n"),
      with_number_short (ascii "(end (bytes ") n 10 (lit≤ tt) (omega arith),
      with_number_short (ascii ") (hits ") h 10 (lit≤ tt) (omega arith),
      with_number_short (ascii ") (compares ") c 20 (lit≤ tt) (omega arith),
    )
