-- A list written part by part: nothing, some bytes, one part after another, and a list with all of them in front. Assumes nothing.
use mathlib.Core.Path.{◌≡◌, refl, sym, ap, ◌∙◌}
use mathlib.Core.List.{List, [], ◌∷◌, ◌++◌, append-nil, append_assoc}
use Prim.Native.Nat.{ℕ, zero, suc, ◌+◌, ◌*◌, ◌/◌, ◌%◌, ◌≤◌, ◌<◌}
use native.Mathlib.Numerals.{add-one}
use native.Mathlib.Omega.{arith}
use lib.ListN.{length, get_or, take, drop, set, length-append, take-append-drop}
use lib.Seq.{take-suc, take_at, drop_at, length-take-le, sets, sets-eq, length-sets}
use Rattle.words.specs.Words.{in_front}
use Rattle.words.proofs.Lists.{length_snoc, drop_more}
use Rattle.sheets.specs.Sheet.{number, numbers}
use Rattle.sheets.proofs.Layouts.{length_number, length_numbers, numbers_snoc}
use Rattle.boards.specs.Written.{Spliced, rows_in}

pub spliced_none : (k : ℕ) (a : List ℕ) → Spliced k [] a a
spliced_none k a = let e : k + 0 ≡ k = omega arith in record { front = rw (e, append-nil); rest = refl; long = refl }

-- some bytes, and some behind others
pub spliced_sets : (k : ℕ) (vs a : List ℕ) → k + length vs ≤ length a → Spliced k vs a (sets a k vs)
spliced_sets k vs a h =
    let size : length (take k a ++ vs) ≡ k + length vs = omega (arith, length-append (take k a) vs, length-take-le k a (omega arith)) in
    let rest : List ℕ = drop (k + length vs) a in
    record {
      front = ap (take (k + length vs)) (sets-eq vs a k h) ∙ take_at (take k a ++ vs) rest (k + length vs) size;
      rest = ap (drop (k + length vs)) (sets-eq vs a k h) ∙ drop_at (take k a ++ vs) rest (k + length vs) size;
      long = length-sets a k vs;
    }

pub spliced_on : {k : ℕ} {xs ys a b c : List ℕ} → Spliced k xs a b → Spliced (k + length xs) ys b c → Spliced k (xs ++ ys) a c
spliced_on {k} {xs} {ys} {a} {b} {c} s t =
    let size : k + length (xs ++ ys) ≡ k + length xs + length ys = omega (arith, length-append xs ys) in
    record {
      front = rw (size, t.front, s.front) (append_assoc (take k a) xs ys);
      rest = rw (size, t.rest) (drop_more (k + length xs) (k + length xs + length ys) b a (omega arith) s.rest);
      long = t.long ∙ s.long;
    }

-- the same, with the place of the second part told apart
pub spliced_then : {k m : ℕ} {xs ys a b c : List ℕ} → Spliced k xs a b → k + length xs ≡ m → Spliced m ys b c → Spliced k (xs ++ ys) a c
spliced_then s e t = spliced_on s (rw e t)

pub spliced_more : {k : ℕ} {xs a b : List ℕ} (vs : List ℕ) (at : ℕ) → Spliced k xs a b → at ≡ k + length xs → at + length vs ≤ length a →
    Spliced k (xs ++ vs) a (sets b at vs)
spliced_more {b = b} vs at s e h = spliced_then s (sym e) (spliced_sets at vs b (omega (arith, s.long)))

-- from the start on
pub spliced_front : {xs a b : List ℕ} → Spliced 0 xs a b → b ≡ in_front xs a
unfolding in_front
spliced_front {xs} {a} {b} s =
    let none : 0 + length xs ≡ length xs = omega arith in
    sym (take-append-drop (length xs) b) ∙ rw (← none, s.front, s.rest)

-- A NUMBER in two bytes
pub spliced_pair : {k v : ℕ} {a b xs : List ℕ} → v < 65536 → xs ≡ v / 256 % 256 ∷ v % 256 ∷ [] → Spliced k xs a b → Spliced k (number 2 v) a b
unfolding number
spliced_pair {v = v} small is s =
    let high : v / 256 % 256 ≡ v / 256 = omega arith in
    rw (is, high) at s

-- THE LOOPS: one element more, one number more, one row more
pub bytes_turn : (xs a b : List ℕ) (at i : ℕ) → Spliced at (take i xs) a b → i < length xs → at + length xs ≤ length a →
    Spliced at (take (i + 1) xs) a (set b (at + i) (get_or xs i 0))
bytes_turn xs a b at i s h r =
    let size : length (take i xs) ≡ i = length-take-le i xs (omega arith) in
    rw (add-one i, take-suc xs i 0 h) (spliced_more (get_or xs i 0 ∷ []) (at + i) s (omega arith) (omega arith))

pub lengths_turn : (xs : List ℕ) {a b c : List ℕ} {at i : ℕ} → i < length xs → Spliced at (numbers 2 (take i xs)) a b → Spliced (at + 2 * i) (number 2 (get_or xs i 0)) b c →
    Spliced at (numbers 2 (take (i + 1) xs)) a c
lengths_turn xs {at = at} {i} h s t =
    let size = length_numbers 2 (take i xs) in
    let front : length (take i xs) ≡ i = length-take-le i xs (omega arith) in
    rw (add-one i, take-suc xs i 0 h, numbers_snoc 2 (take i xs) (get_or xs i 0)) (spliced_then s (omega arith) t)

pub row_long : (f n : ℕ) → length (number 2 f ++ (n ∷ [])) ≡ 3
row_long f n = omega (arith, length_snoc (number 2 f) n, length_number 2 f)

rows_length : (ls ns : List ℕ) (g : ℕ) → length (rows_in ls ns g) ≡ 3 * g
unfolding rows_in
rows_length ls ns zero = refl
rows_length ls ns (suc g) =
    let f : ℕ = get_or ls (2 * g) 0 in
    let n : ℕ = get_or ns g 0 in
    omega (arith, length-append (rows_in ls ns g) (number 2 f ++ (n ∷ [])), row_long f n, rows_length ls ns g)

pub rows_turn : (ls ns : List ℕ) (g : ℕ) {a b c : List ℕ} {at : ℕ} → Spliced at (rows_in ls ns g) a b → at + 3 * g + 3 ≤ length a →
    Spliced (at + 3 * g) (number 2 (get_or ls (2 * g) 0)) b c → Spliced at (rows_in ls ns (g + 1)) a (set c (at + 3 * g + 2) (get_or ns g 0))
unfolding rows_in
rows_turn ls ns g {a} {b} {c} {at} s r t =
    let f : ℕ = get_or ls (2 * g) 0 in
    let n : ℕ = get_or ns g 0 in
    let row : Spliced (at + 3 * g) (number 2 f ++ (n ∷ [])) b (set c (at + 3 * g + 2) n) =
    spliced_more (n ∷ []) (at + 3 * g + 2) t (omega (arith, length_number 2 f)) (omega (arith, s.long)) in
    rw (add-one g) (spliced_then s (omega (arith, rows_length ls ns g)) row)
