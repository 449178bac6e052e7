-- Where a layout has what, for numbers of any width: the code, the counts and the targets. Assumes nothing.
use mathlib.Core.Path.{◌≡◌, refl, sym, ap, ◌∙◌}
use mathlib.Core.List.{List, [], ◌∷◌, ◌++◌, append_assoc, append-nil}
use Prim.Native.Nat.{ℕ, zero, suc, ◌+◌, ◌*◌, ◌/◌, ◌%◌, ◌≤◌, ◌<◌}
use native.Mathlib.Nat.{zero-mul, suc-mul}
use native.Mathlib.Omega.{arith}
use lib.ListN.{length, get_or, take, drop, length-append, get_or-append}
use lib.Seq.{take_at, get_or_at, take-append_seam, drop-append_seam, drop-append-add}
use Rattle.words.proofs.Tests.{by_le}
use Rattle.words.proofs.Lists.{length_snoc}
use Rattle.automaton.specs.Arrows.{arrows_below, all_targets, back_arrows}
use Rattle.sheets.specs.Sheet.{number, numbers, counts_below, layout}

-- NUMBERS: their lengths, and each at its place
pub length_number : (d v : ℕ) → length (number d v) ≡ d
unfolding number
length_number zero v = refl
length_number (suc zero) v = refl
length_number (suc (suc k)) v = length_snoc (number (suc k) (v / 256)) (v % 256) ∙ ap suc (length_number (suc k) (v / 256))

pub length_numbers : (d : ℕ) (vs : List ℕ) → length (numbers d vs) ≡ length vs * d
unfolding numbers
length_numbers d [] = sym (zero-mul d)
length_numbers d (v ∷ vs) =
    length-append (number d v) (numbers d vs)
    ∙ omega (arith, length_number d v, length_numbers d vs, suc-mul (length vs) d)

pub numbers_append : (d : ℕ) (us vs : List ℕ) → numbers d (us ++ vs) ≡ numbers d us ++ numbers d vs
unfolding numbers
numbers_append d [] vs = refl
numbers_append d (u ∷ us) vs =
    ap (λ (l : List ℕ). number d u ++ l) (numbers_append d us vs) ∙ sym (append_assoc (number d u) (numbers d us) (numbers d vs))

-- one more
pub numbers_snoc : (d : ℕ) (vs : List ℕ) (v : ℕ) → numbers d (vs ++ (v ∷ [])) ≡ numbers d vs ++ number d v
unfolding numbers
numbers_snoc d vs v = numbers_append d vs (v ∷ []) ∙ ap (λ (l : List ℕ). numbers d vs ++ l) (append-nil (number d v))

pub number_first : (d : ℕ) (vs rest : List ℕ) (i : ℕ) → i < length vs →
    take d (drop (i * d) (numbers d vs ++ rest)) ≡ number d (get_or vs i 0)
unfolding numbers
number_first d [] rest i h = absurd (omega arith)
number_first d (v ∷ vs) rest zero h =
    rw (zero-mul d, append_assoc (number d v) (numbers d vs) rest)
    (take_at (number d v) (numbers d vs ++ rest) d (length_number d v))
number_first d (v ∷ vs) rest (suc i) h =
    let at : suc i * d ≡ length (number d v) + i * d = omega (arith, length_number d v, suc-mul i d) in
    rw (at, append_assoc (number d v) (numbers d vs) rest, drop-append-add (number d v) (numbers d vs ++ rest) (i * d))
    (number_first d vs rest i (omega arith))

-- behind n bytes
pub number_at : (d n : ℕ) (front vs rest : List ℕ) (i : ℕ) → length front ≡ n → i < length vs →
    take d (drop (n + i * d) (front ++ (numbers d vs ++ rest))) ≡ number d (get_or vs i 0)
number_at d n front vs rest i e h =
    rw (← e, drop-append-add front (numbers d vs ++ rest) (i * d)) (number_first d vs rest i h)

-- numbers of one byte are those bytes
pub numbers_bytes : (vs : List ℕ) → numbers 1 vs ≡ vs
unfolding numbers number
numbers_bytes [] = refl
numbers_bytes (v ∷ vs) = ap (λ (l : List ℕ). v ∷ l) (numbers_bytes vs)

-- STATES, the lower ones first
module _ (w : List ℕ) where
  -- one count for each, of its targets and all lower ones
  pub length_counts : (s : ℕ) → length (counts_below w s) ≡ s
  unfolding counts_below
  length_counts zero = refl
  length_counts (suc s) = length_snoc (counts_below w s) (arrows_below w (suc s)) ∙ ap suc (length_counts s)

  pub count_at : (s p : ℕ) → p < s → get_or (counts_below w s) p 0 ≡ arrows_below w (suc p)
  unfolding counts_below
  count_at zero p h = absurd (omega arith)
  count_at (suc s) p h =
      by_le s p
      (λ (l : s ≤ p). let e : p ≡ s = omega arith in rw e (get_or_at (counts_below w s) (arrows_below w (suc s)) [] 0 s (length_counts s)))
      (λ (l : p < s). get_or-append (counts_below w s) (arrows_below w (suc s) ∷ []) 0 p (rw (length_counts s) l) ∙ count_at s p l)

-- THE LAYOUT: its length, and what stands where, whatever is behind it
pub layout_length : (d : ℕ) (front w : List ℕ) →
    length (layout d front w) ≡ length front + length w + suc (length w) * d + back_arrows w * d
unfolding layout
layout_length d front w = simp (length-append, length_numbers, length_counts)

module _ (d : ℕ) (front w rest : List ℕ) where
  abbrev m : ℕ
  m = length w

  abbrev counts : List ℕ
  counts = counts_below w (suc m)

  abbrev targets : List ℕ
  targets = all_targets w

  parts : layout d front w ++ rest ≡ front ++ (w ++ (numbers d counts ++ (numbers d targets ++ rest)))
  unfolding layout
  parts = simp append_assoc

  pub layout_front : take (length front) (layout d front w ++ rest) ≡ front
  layout_front = rw parts (take-append_seam front (w ++ (numbers d counts ++ (numbers d targets ++ rest))))

  pub layout_code : take m (drop (length front) (layout d front w ++ rest)) ≡ w
  layout_code =
      rw (parts, drop-append_seam front (w ++ (numbers d counts ++ (numbers d targets ++ rest))))
      (take-append_seam w (numbers d counts ++ (numbers d targets ++ rest)))

  pub layout_count : (p : ℕ) → p ≤ m →
      take d (drop (length front + m + p * d) (layout d front w ++ rest)) ≡ number d (arrows_below w (suc p))
  layout_count p h =
      rw (parts, ← append_assoc front w (numbers d counts ++ (numbers d targets ++ rest)))
      (number_at d (length front + m) (front ++ w) counts (numbers d targets ++ rest) p (length-append front w) (rw (length_counts w (suc m)) (omega arith))
      ∙ ap (number d) (count_at w (suc m) p (omega arith)))

  pub layout_target : (i : ℕ) → i < back_arrows w →
      take d (drop (length front + m + suc m * d + i * d) (layout d front w ++ rest)) ≡ number d (get_or targets i 0)
  layout_target i h =
      let size : length ((front ++ w) ++ numbers d counts) ≡ length front + m + suc m * d = simp (length-append, length_numbers, length_counts) in
      let group : layout d front w ++ rest ≡ ((front ++ w) ++ numbers d counts) ++ (numbers d targets ++ rest) = parts ∙ simp append_assoc in
      rw group (number_at d (length front + m + suc m * d) ((front ++ w) ++ numbers d counts) targets rest i size h)
