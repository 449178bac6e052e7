-- Where a sheet has what, and which buffers begin with one. That a buffer begins with a sheet has one name, `begins`; what it tells of the buffer's bytes is
-- below. Assumes nothing.
use mathlib.Core.Path.{◌≡◌, refl, sym, ap, ◌∙◌}
use mathlib.Core.Bool.{true, false, and-true}
use mathlib.Core.List.{List, [], ◌∷◌, ◌++◌}
use mathlib.Core.Logic.{◌≢◌}
use Prim.Native.Nat.{ℕ, suc, ◌+◌, ◌*◌, ◌/◌, ◌%◌, ◌≤◌, ◌<◌}
use native.Mathlib.Nat.{le_refl, add-mul}
use native.Mathlib.Omega.{arith}
use lib.ListN.{length, get_or, take, drop, length-append, take-append-drop}
use lib.Seq.{take-append_seam, get_or-take}
use borrow.Author.Tests.{eq-eqb, ne_eqb}
use Rattle.words.specs.Words.{same, in_front}
use Rattle.words.proofs.Tests.{by_test, by_le, and_left, and_right}
use Rattle.words.proofs.Lists.{eq_same, same_eq}
use Rattle.automaton.specs.Arrows.{arrows_below, all_targets, back_arrows}
use Rattle.automaton.proofs.Counts.{below_one}
use Rattle.automaton.proofs.FewArrows.{few_below}
use Rattle.codes.specs.Codes.{longest_code, accepted}
use Rattle.codes.proofs.Refusals.{accepted_bounds, accepted_within}
use Rattle.sheets.specs.Sheet.{number, counts_below, layout, longest_short, number_width, front, code_start, sheet, count_place, target_place}
use Rattle.sheets.specs.Sheet.{named_length, named, begins}
use Rattle.sheets.specs.Promise.{SheetLaid, SheetSized, SheetTells, SheetOnce, BeginsRight}
use Rattle.sheets.proofs.Layouts.{numbers_bytes, layout_length, layout_front, layout_code, layout_count, layout_target}
use Rattle.sheets.proofs.Widths.{short_width, wide_width, short_start, wide_start, short_front, wide_front, front_long, target_rises, room_is}
use Rattle.sheets.proofs.Widths.{short_target, wide_target, width_range, places_before, read_one}

-- LENGTHS
pub length_sheet : (w : List ℕ) → length (sheet w) ≡ target_place (length w) (back_arrows w)
unfolding sheet target_place
length_sheet w =
    let m : ℕ = length w in
    layout_length (number_width m) (front m) w
    ∙ omega (arith, front_long m, add-mul (suc m) (back_arrows w) (number_width m))

pub sheet_sized : SheetSized
unfolding SheetSized
sheet_sized w =
    let m : ℕ = length w in (
      λ h. length_sheet w ∙ short_target m h (back_arrows w),
      λ h. length_sheet w ∙ wide_target m h (back_arrows w),
      omega (arith, length_sheet w, room_is m, target_rises m (back_arrows w) m (few_below w m (le_refl m))),
    )

pub sheet_laid : SheetLaid
unfolding SheetLaid sheet layout number
sheet_laid w =
    let m : ℕ = length w in (
      λ h. rw (short_width m h, short_front m h, numbers_bytes (counts_below w (suc m)), numbers_bytes (all_targets w)) refl,
      λ h. rw (wide_width m h, wide_front m h) refl,
      λ v. refl,
    )

-- PLACES in a buffer that begins with the sheet of w
module _ (w rest : List ℕ) where
  abbrev m : ℕ
  m = length w

  -- what is before the code
  front_byte : (i : ℕ) → i < code_start m → get_or (sheet w ++ rest) i 0 ≡ get_or (front m) i 0
  unfolding sheet
  front_byte i l =
      sym (get_or-take (length (front m)) (sheet w ++ rest) i 0 (rw (front_long m) l))
      ∙ ap (λ (f : List ℕ). get_or f i 0) (layout_front (number_width m) (front m) w rest)

  short_first : m ≤ longest_short → get_or (sheet w ++ rest) 0 0 ≡ m
  unfolding number
  short_first h = front_byte 0 (omega (arith, short_start m h)) ∙ ap (λ (f : List ℕ). get_or f 0 0) (short_front m h)

  wide_byte : longest_short < m → (i : ℕ) → i < 3 → get_or (sheet w ++ rest) i 0 ≡ get_or (0 ∷ number 2 m) i 0
  wide_byte h i l = front_byte i (omega (arith, wide_start m h)) ∙ ap (λ (f : List ℕ). get_or f i 0) (wide_front m h)

  wide_first : longest_short < m → get_or (sheet w ++ rest) 0 0 ≡ 0
  wide_first h = wide_byte h 0 (omega arith)

  -- the length that it names
  pub sheet_size : 1 ≤ m → named_length (sheet w ++ rest) ≡ m
  unfolding named_length number
  sheet_size some =
      by_le m longest_short
      (λ (h : m ≤ longest_short). rw (ne_eqb (get_or (sheet w ++ rest) 0 0) 0 (λ e. omega (arith, e, short_first h))) (short_first h))
      (λ (h : longest_short < m).
      let high : get_or (sheet w ++ rest) 1 0 ≡ m / 256 = wide_byte h 1 (omega arith) in
      let low : get_or (sheet w ++ rest) 2 0 ≡ m % 256 = wide_byte h 2 (omega arith) in
      rw (eq-eqb (get_or (sheet w ++ rest) 0 0) 0 (wide_first h)) (omega (arith, high, low)))

  code_part : take m (drop (code_start m) (sheet w ++ rest)) ≡ w
  unfolding sheet
  code_part = rw (← front_long m) (layout_code (number_width m) (front m) w rest)

  pub sheet_named : 1 ≤ m → named (sheet w ++ rest) ≡ w
  unfolding named
  sheet_named some = ap (λ (n : ℕ). take n (drop (code_start n) (sheet w ++ rest))) (sheet_size some) ∙ code_part

  sheet_count : (p : ℕ) → p ≤ m → take (number_width m) (drop (count_place m p) (sheet w ++ rest)) ≡ number (number_width m) (arrows_below w (suc p))
  unfolding sheet count_place
  sheet_count p h = rw (← front_long m) (layout_count (number_width m) (front m) w rest p h)

  sheet_target : (i : ℕ) → i < back_arrows w →
      take (number_width m) (drop (target_place m i) (sheet w ++ rest)) ≡ number (number_width m) (get_or (all_targets w) i 0)
  unfolding sheet target_place
  sheet_target i h =
      let d : ℕ = number_width m in
      let at : code_start m + m + (suc m + i) * d ≡ length (front m) + m + suc m * d + i * d = omega (arith, front_long m, add-mul (suc m) i d) in
      rw at (layout_target d (front m) w rest i h)

-- two sheets that are one are of one code; the list without bytes, which is no code, has the bytes 0 0, as no other
empty_second : (xs : List ℕ) → get_or (sheet [] ++ xs) 1 0 ≡ 0
unfolding number_width code_start count_place
empty_second xs = read_one (sheet [] ++ xs) 1 (arrows_below [] 1) (sheet_count [] xs 0 (omega arith)) ∙ below_one []

empty_differs : (v xs ys : List ℕ) → 1 ≤ length v → sheet [] ++ xs ≢ sheet v ++ ys
unfolding number
empty_differs v xs ys some e =
    by_le (length v) longest_short
    (λ (h : length v ≤ longest_short).
    omega (arith, short_first v ys h, short_first [] xs (omega arith), ap (λ (l : List ℕ). get_or l 0 0) e))
    (λ (h : longest_short < length v).
    let second : get_or (sheet v ++ ys) 1 0 ≡ length v / 256 = wide_byte v ys h 1 (omega arith) in
    omega (arith, second, empty_second xs, ap (λ (l : List ℕ). get_or l 1 0) e))

pub sheet_tells : SheetTells
unfolding SheetTells
sheet_tells [] [] xs ys e = refl
sheet_tells [] (v ∷ vs) xs ys e = absurd (empty_differs (v ∷ vs) xs ys (omega arith) e)
sheet_tells (u ∷ us) [] xs ys e = absurd (empty_differs (u ∷ us) ys xs (omega arith) (sym e))
sheet_tells (u ∷ us) (v ∷ vs) xs ys e = sym (sheet_named (u ∷ us) xs (omega arith)) ∙ ap named e ∙ sheet_named (v ∷ vs) ys (omega arith)

-- the sheet of a code is accepted exactly if the code is
pub begins_by_code : (w rest : List ℕ) → 1 ≤ length w → begins (sheet w ++ rest) ≡ accepted w
unfolding begins
begins_by_code w rest some =
    rw (sheet_named w rest some, eq_same (take-append_seam (sheet w) rest)) (and-true (accepted w))

pub sheet_begins : (w rest : List ℕ) → accepted w ≡ true → begins (sheet w ++ rest) ≡ true
sheet_begins w rest good = begins_by_code w rest (accepted_bounds w good).0 ∙ good

-- A BUFFER THAT BEGINS with a sheet: the code that it names, and what stands where
module _ (bs : List ℕ) (b : begins bs ≡ true) where
  abbrev code : List ℕ
  code = named bs

  abbrev tail : List ℕ
  tail = drop (length (sheet code)) bs

  pub begins_accepted : accepted (named bs) ≡ true
  unfolding begins
  begins_accepted = and_left (accepted code) (same (take (length (sheet code)) bs) (sheet code)) b

  pub begins_bounds : (1 ≤ length (named bs)) × (length (named bs) ≤ longest_code)
  begins_bounds = accepted_bounds code begins_accepted

  whole : bs ≡ sheet code ++ tail
  unfolding begins
  whole =
      sym (take-append-drop (length (sheet code)) bs)
      ∙ ap (λ (l : List ℕ). l ++ tail)
      (same_eq (take (length (sheet code)) bs) (sheet code) (and_right (accepted code) (same (take (length (sheet code)) bs) (sheet code)) b))

  pub begins_front : bs ≡ in_front (sheet (named bs)) bs
  unfolding in_front
  begins_front = whole

  -- the length, and where the code is
  pub begins_size : named_length bs ≡ length (named bs)
  begins_size = ap named_length whole ∙ sheet_size code tail begins_bounds.0

  pub begins_code : take (length (named bs)) (drop (code_start (length (named bs))) bs) ≡ named bs
  begins_code = ap (λ (l : List ℕ). take (length code) (drop (code_start (length code)) l)) whole ∙ code_part code tail

  -- the counts and the targets
  pub begins_count : (p : ℕ) → p ≤ length (named bs) → let m = length (named bs) in
      take (number_width m) (drop (count_place m p) bs) ≡ number (number_width m) (arrows_below (named bs) (suc p))
  begins_count p h =
      let m : ℕ = length code in
      ap (λ (l : List ℕ). take (number_width m) (drop (count_place m p) l)) whole ∙ sheet_count code tail p h

  pub begins_target : (i : ℕ) → i < back_arrows (named bs) → let m = length (named bs) in
      take (number_width m) (drop (target_place m i) bs) ≡ number (number_width m) (get_or (all_targets (named bs)) i 0)
  begins_target i h =
      let m : ℕ = length code in
      ap (λ (l : List ℕ). take (number_width m) (drop (target_place m i) l)) whole ∙ sheet_target code tail i h

  pub begins_room : target_place (length (named bs)) (back_arrows (named bs)) ≤ length bs
  begins_room = omega (arith, ap length whole, length-append (sheet code) tail, length_sheet code)

  -- so its code is inside it, with a byte behind it
  pub begins_long : code_start (length (named bs)) + length (named bs) + 1 ≤ length bs
  begins_long =
      let m : ℕ = length code in
      omega (arith, begins_room, places_before m, width_range m, target_rises m 0 (back_arrows code) (omega arith))

pub begins_right : BeginsRight
unfolding BeginsRight
begins_right = (
  λ w rest some few. (sheet_named w rest some, begins_by_code w rest some ∙ accepted_within w some few),
  λ bs b. (begins_accepted bs b, begins_front bs b),
)

-- a buffer that begins with a 0 byte and names a length of up to 255 begins with no sheet
not_short : (bs : List ℕ) → get_or bs 0 0 ≡ 0 → named_length bs ≤ 255 → begins bs ≡ false
not_short bs first few =
    by_test (begins bs)
    (λ (b : begins bs ≡ true).
    let short : length (named bs) ≤ longest_short = omega (arith, few, begins_size bs b) in
    let own : get_or bs 0 0 ≡ length (named bs) =
    ap (λ (l : List ℕ). get_or l 0 0) (whole bs b) ∙ short_first (named bs) (drop (length (sheet (named bs))) bs) short in
    absurd (omega (arith, own, first, begins_bounds bs b)))
    (λ e. e)

pub sheet_once : SheetOnce
unfolding SheetOnce layout named_length
sheet_once w rest h = not_short (layout 2 (0 ∷ length w / 256 ∷ length w % 256 ∷ []) w ++ rest) refl (omega arith)
