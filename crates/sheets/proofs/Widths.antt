-- Short and wide sheets: what depends on the code's length alone, and a number read from its bytes. Assumes nothing.
use mathlib.Core.Path.{◌≡◌, refl, sym, ap, ◌∙◌}
use mathlib.Core.List.{List, ◌∷◌}
use mathlib.Core.Logic.{◌≢◌}
use Prim.Native.Nat.{ℕ, suc, ◌+◌, ◌*◌, ◌/◌, ◌%◌, ◌≤◌, ◌<◌}
use native.Mathlib.Numerals.{add-one}
use native.Mathlib.Nat.{zero-mul, add-mul}
use native.Mathlib.Omega.{arith}
use lib.ListN.{length, get_or, set, take, drop}
use lib.Seq.{sets, get_or-take, get_or-drop}
use borrow.Author.Tests.{lt-ltb, le-ltb}
use Rattle.words.proofs.Tests.{by_le}
use Rattle.codes.specs.Codes.{longest_code}
use Rattle.sheets.specs.Sheet.{number, longest_short, number_width, front, code_start, count_place, target_place, sheet_room, longest_sheet}
use Rattle.sheets.specs.Inside.{Reads}
use Rattle.sheets.proofs.Layouts.{length_number}

longest_room : longest_sheet ≡ 20005
unfolding sheet_room
longest_room = refl

-- BY THE LENGTH of the code
module _ (m : ℕ) where
  pub short_width : m ≤ longest_short → number_width m ≡ 1
  unfolding number_width
  short_width h = rw (le-ltb longest_short m h)

  pub wide_width : longest_short < m → number_width m ≡ 2
  unfolding number_width
  wide_width h = rw (lt-ltb longest_short m h)

  pub short_start : m ≤ longest_short → code_start m ≡ 1
  unfolding code_start
  short_start h = rw (le-ltb longest_short m h)

  pub wide_start : longest_short < m → code_start m ≡ 3
  unfolding code_start
  wide_start h = rw (lt-ltb longest_short m h)

  pub short_front : m ≤ longest_short → front m ≡ number 1 m
  unfolding front
  short_front h = rw (le-ltb longest_short m h)

  pub wide_front : longest_short < m → front m ≡ 0 ∷ number 2 m
  unfolding front
  wide_front h = rw (lt-ltb longest_short m h)

  -- from the bytes of a number to the length
  pub one_byte : number_width m ≡ 1 → m ≤ longest_short
  one_byte e = by_le m longest_short (λ (h : m ≤ longest_short). h) (λ (h : longest_short < m). absurd (omega (arith, e, wide_width h)))

  pub two_bytes : number_width m ≢ 1 → longest_short < m
  two_bytes n = by_le m longest_short (λ (h : m ≤ longest_short). absurd (n (short_width h))) (λ (h : longest_short < m). h)

  -- THE PLACES of both: what is before the code, the counts, the targets
  pub front_long : length (front m) ≡ code_start m
  front_long =
      by_le m longest_short
      (λ (h : m ≤ longest_short). rw (short_front h, short_start h) (length_number 1 m))
      (λ (h : longest_short < m). rw (wide_front h, wide_start h) (ap suc (length_number 2 m)))

  pub width_range : (1 ≤ number_width m) × (number_width m ≤ 2)
  width_range =
      by_le m longest_short (λ (h : m ≤ longest_short). omega (arith, short_width h)) (λ (h : longest_short < m). omega (arith, wide_width h))

  pub start_range : (1 ≤ code_start m) × (code_start m ≤ 3)
  start_range =
      by_le m longest_short (λ (h : m ≤ longest_short). omega (arith, short_start h)) (λ (h : longest_short < m). omega (arith, wide_start h))

  pub count_first : count_place m 0 ≡ code_start m + m
  unfolding count_place
  count_first = omega arith

  pub count_next : (p : ℕ) → count_place m (suc p) ≡ count_place m p + number_width m
  unfolding count_place
  count_next p = omega (arith, add-mul 1 p (number_width m))

  pub target_first : target_place m 0 ≡ count_place m (suc m)
  unfolding target_place count_place
  target_first = let none : suc m + 0 ≡ suc m = omega arith in rw none refl

  pub target_next : (i : ℕ) → target_place m (suc i) ≡ target_place m i + number_width m
  unfolding target_place
  target_next i = omega (arith, add-mul 1 (suc m + i) (number_width m))

  -- counted from the first
  pub count_from : (p : ℕ) → count_place m p ≡ count_place m 0 + p * number_width m
  unfolding count_place
  count_from p = omega (arith, zero-mul (number_width m))

  pub target_from : (i : ℕ) → target_place m i ≡ target_place m 0 + i * number_width m
  unfolding target_place
  target_from i = let none : suc m + 0 ≡ suc m = omega arith in rw none (omega (arith, add-mul (suc m) i (number_width m)))

  pub short_count : m ≤ longest_short → (p : ℕ) → count_place m p ≡ m + 1 + p
  unfolding count_place
  short_count h p = rw (short_width h, short_start h) (omega arith)

  pub wide_count : longest_short < m → (p : ℕ) → count_place m p ≡ m + 3 + 2 * p
  unfolding count_place
  wide_count h p = rw (wide_width h, wide_start h) (omega arith)

  pub short_target : m ≤ longest_short → (i : ℕ) → target_place m i ≡ 2 * m + 2 + i
  unfolding target_place
  short_target h i = rw (short_width h, short_start h) (omega arith)

  pub wide_target : longest_short < m → (i : ℕ) → target_place m i ≡ 3 * m + 5 + 2 * i
  unfolding target_place
  wide_target h i = rw (wide_width h, wide_start h) (omega arith)

  -- the places rise, and those of a code's counts and targets have room
  pub count_rises : (p q : ℕ) → p ≤ q → count_place m p ≤ count_place m q
  count_rises p q l =
      by_le m longest_short
      (λ (h : m ≤ longest_short). omega (arith, short_count h p, short_count h q))
      (λ (h : longest_short < m). omega (arith, wide_count h p, wide_count h q))

  pub target_rises : (i j : ℕ) → i ≤ j → target_place m i ≤ target_place m j
  target_rises i j l =
      by_le m longest_short
      (λ (h : m ≤ longest_short). omega (arith, short_target h i, short_target h j))
      (λ (h : longest_short < m). omega (arith, wide_target h i, wide_target h j))

  pub count_inside : (p : ℕ) → p ≤ m → count_place m p + number_width m ≤ target_place m 0
  count_inside p l = omega (arith, count_next p, count_rises (suc p) (suc m) (omega arith), target_first)

  pub places_before : (1 ≤ target_place m 0) × (code_start m + m + number_width m ≤ target_place m 0)
  places_before =
      let up = count_rises 1 (suc m) (omega arith) in
      omega (arith, up, count_first, count_next 0, target_first, start_range)

  pub room_is : sheet_room m ≡ target_place m m
  unfolding sheet_room
  room_is =
      by_le m longest_short
      (λ (h : m ≤ longest_short). rw (le-ltb longest_short m h) (omega (arith, short_target h m)))
      (λ (h : longest_short < m). rw (lt-ltb longest_short m h) (omega (arith, wide_target h m)))

  pub short_room_is : m ≤ longest_short → sheet_room m ≡ 3 * m + 2
  unfolding sheet_room
  short_room_is h = rw (le-ltb longest_short m h) refl

  pub wide_room_is : longest_short < m → sheet_room m ≡ 5 * m + 5
  unfolding sheet_room
  wide_room_is h = rw (lt-ltb longest_short m h) refl

  pub short_room : m ≤ longest_short → sheet_room m ≤ 767
  short_room h = omega (arith, room_is, short_target h m)

  pub room_bound : m ≤ longest_code → sheet_room m ≤ longest_sheet
  room_bound l =
      by_le m longest_short
      (λ (h : m ≤ longest_short). omega (arith, room_is, short_target h m, longest_room))
      (λ (h : longest_short < m). omega (arith, room_is, wide_target h m, longest_room))

-- room for any sheet, in bytes
pub room_most : (m : ℕ) → m ≤ longest_code → sheet_room m ≤ 20005
room_most m l = omega (arith, room_bound m l, longest_room)

-- A NUMBER read from its bytes
module _ (bs : List ℕ) (at v : ℕ) where
  byte_of : (d i : ℕ) → i < d → take d (drop at bs) ≡ number d v → get_or bs (at + i) 0 ≡ get_or (number d v) i 0
  byte_of d i l e = sym (get_or-drop at bs i 0) ∙ sym (get_or-take d (drop at bs) i 0 l) ∙ ap (λ (l : List ℕ). get_or l i 0) e

  pub read_one : take 1 (drop at bs) ≡ number 1 v → get_or bs at 0 ≡ v
  unfolding number
  read_one e = let none : at + 0 ≡ at = omega arith in rw none at (byte_of 1 0 (omega arith) e)

  pub read_two : take 2 (drop at bs) ≡ number 2 v → 256 * get_or bs at 0 + get_or bs (at + 1) 0 ≡ v
  unfolding number
  read_two e =
      let none : at + 0 ≡ at = omega arith in
      let high : get_or bs at 0 ≡ v / 256 = rw none at (byte_of 2 0 (omega arith) e) in
      let low : get_or bs (at + 1) 0 ≡ v % 256 = byte_of 2 1 (omega arith) e in
      omega (arith, high, low)

-- read by its width
module _ (bs : List ℕ) (width at r : ℕ) where
  pub reads_one : width ≡ 1 → r ≡ get_or bs at 0 → Reads bs width at r
  reads_one e f v h = f ∙ read_one bs at v (rw e at h)

  pub reads_two : width ≡ 2 → r ≡ 256 * get_or bs at 0 + get_or bs (at + 1) 0 → Reads bs width at r
  reads_two e f v h = f ∙ read_two bs at v (rw e at h)

-- A NUMBER PUT, by its width
module _ (b : List ℕ) (width at v : ℕ) where
  pub puts_one : width ≡ 1 → set b at v ≡ sets b at (number width v)
  unfolding number
  puts_one e = rw e refl

  pub puts_two : width ≡ 2 → set (set b at (v / 256)) (at + 1) (v % 256) ≡ sets b at (number width v)
  unfolding number
  puts_two e = rw (e, add-one at) refl
