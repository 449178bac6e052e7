-- Filling a whole sheet: what is before the code and the code, then state by state. Assumes nothing.
use mathlib.Core.Path.{◌≡◌, sym, ap, ◌∙◌}
use mathlib.Core.List.{List, [], ◌∷◌, ◌++◌, append_assoc, append-nil}
use Prim.Native.Nat.{ℕ, suc, ◌+◌, ◌*◌, ◌≤◌, ◌<◌}
use native.Mathlib.Numerals.{add-one}
use native.Mathlib.Nat.{le_refl, zero-mul, mul-le-mul_right}
use native.Mathlib.Omega.{arith}
use lib.ListN.{length, get_or, take, set, length-append, length-set}
use lib.Seq.{take-suc, length-take-le, sets}
use Rattle.words.specs.Words.{border_of, in_front}
use Rattle.automaton.specs.Arrows.{targets_below, arrows_below}
use Rattle.automaton.proofs.Preparing.{dropped_is, border_one}
use Rattle.automaton.proofs.Targets.{back_zero}
use Rattle.automaton.proofs.Counts.{below_suc, below_one}
use Rattle.automaton.proofs.FewArrows.{few_below}
use Rattle.sheets.specs.declared.filling.Filled.{Filled}
use Rattle.sheets.specs.Sheet.{number, numbers, counts_below, layout, longest_short, number_width, front, code_start, sheet, count_place, target_place}
use Rattle.sheets.specs.Sheet.{sheet_room}
use Rattle.sheets.specs.Inside.{Fits, Filling, FrontMade, CodeMade, header, FilledWith, FilledTo, StateMade}
use Rattle.sheets.specs.Inside.{StatesMade, SheetMade}
use Rattle.sheets.proofs.Layouts.{length_number, length_numbers, numbers_snoc}
use Rattle.sheets.proofs.Widths.{short_front, wide_front, wide_width, front_long, count_next, count_rises, target_first, target_next}
use Rattle.sheets.proofs.Widths.{target_rises, places_before, room_is}
use Rattle.sheets.proofs.Sheets.{length_sheet}
use Rattle.sheets.proofs.Fillings.{fill_none, fill_self, fill_on, put_front, puts_front, fill_done}
use Rattle.sheets.proofs.States.{length_header}

-- there is room for what is before the targets
pub room_before : (m : ℕ) → target_place m 0 ≤ sheet_room m
room_before m = omega (arith, room_is m, target_rises m 0 m (omega arith))

-- there is room for a target
pub target_room : (w b : List ℕ) → Fits w b → (i : ℕ) → i < length w → target_place (length w) i + number_width (length w) ≤ length b
target_room w b room i l =
    let m : ℕ = length w in
    omega (arith, target_next m i, target_rises m (suc i) m l, room_is m, room)

-- WHAT IS BEFORE THE CODE
module _ (m : ℕ) (a : List ℕ) (room : target_place m 0 ≤ length a) where
  pub front_short : m ≤ longest_short → FrontMade m a (sets a 0 (number 1 m))
  front_short h =
      rw (short_front m h)
      (puts_front (number 1 m) (fill_none (target_place m 0) a) (omega (arith, length_number 1 m, places_before m)) room)

  pub front_wide : longest_short < m → FrontMade m a (sets (set a 0 0) 1 (number 2 m))
  front_wide h =
      let zero = put_front (fill_none (target_place m 0) a) 0 (omega (arith, places_before m)) room in
      rw (wide_front m h)
      (puts_front (number 2 m) zero
      (omega (arith, length_number 2 m, places_before m, wide_width m h, h)) (omega (arith, length-set a 0 0, room)))

-- THE CODE, byte by byte
pub code_more : {a b : List ℕ} (w : List ℕ) (i : ℕ) → i < length w → target_place (length w) 0 ≤ length b →
    Filling (target_place (length w) 0) (front (length w) ++ take i w) [] a b →
    Filling (target_place (length w) 0) (front (length w) ++ take (i + 1) w) [] a (set b (code_start (length w) + i) (get_or w i 0))
code_more {a} {b} w i l h f =
    let m : ℕ = length w in
    let size : length (front m ++ take i w) ≡ code_start m + i =
    length-append (front m) (take i w) ∙ omega (arith, front_long m, length-take-le i w (omega arith)) in
    let more : front m ++ take (i + 1) w ≡ (front m ++ take i w) ++ (get_or w i 0 ∷ []) =
    rw (add-one i, take-suc w i 0 l) (sym (append_assoc (front m) (take i w) (get_or w i 0 ∷ []))) in
    rw (more, ← size) (put_front f (get_or w i 0) (omega (arith, size, places_before m)) h)

-- STATE 0 has no targets
none_below : (w : List ℕ) → targets_below w 1 ≡ []
unfolding targets_below
none_below w = back_zero w

header_more : (w : List ℕ) (r : ℕ) → header w (suc r) ≡ header w r ++ number (number_width (length w)) (arrows_below w (suc r))
unfolding header counts_below
header_more w r =
    let d : ℕ = number_width (length w) in
    ap (λ (l : List ℕ). (front (length w) ++ w) ++ l) (numbers_snoc d (counts_below w r) (arrows_below w (suc r)))
    ∙ sym (append_assoc (front (length w) ++ w) (numbers d (counts_below w r)) (number d (arrows_below w (suc r))))

header_none : (w : List ℕ) → header w 0 ≡ front (length w) ++ w
unfolding header counts_below numbers
header_none w = append-nil (front (length w) ++ w)

-- A COUNT is put behind those that are there
module _ (w ts : List ℕ) (r : ℕ) {a b : List ℕ} (f : FilledWith w r ts a b) (ok : r ≤ length w) (room : Fits w b) where
  pub count_room : count_place (length w) r + number_width (length w) ≤ length b
  count_room =
      let m : ℕ = length w in
      omega (arith, count_next m r, count_rises m (suc r) (suc m) (omega arith), target_first m, room_before m, room)

  pub count_put : FilledWith w (suc r) ts a (sets b (count_place (length w) r) (number (number_width (length w)) (arrows_below w (suc r))))
  count_put =
      let m : ℕ = length w in
      let d : ℕ = number_width m in
      rw (header_more w r, ← length_header w r)
      (puts_front (number d (arrows_below w (suc r))) f
      (omega (arith, length_header w r, length_number d (arrows_below w (suc r)), count_next m r, count_rises m (suc r) (suc m) (omega arith), target_first m))
      (omega (arith, room_before m, room)))

-- the loop over the states: those below r are filled
pub record FillingStates (w a b : List ℕ) (r : ℕ) (f : Filled) : Type 0 where
  pub some : 1 ≤ r
  pub ok : r ≤ length w + 1
  pub filling : FilledTo w r a b
  pub stored_is : f.stored ≡ arrows_below w r
  pub border_is : r ≤ length w → f.border ≡ border_of w r

pub states_start : {w a : List ℕ} → FilledTo w 1 a a → FillingStates w a a 1 (record { stored = 0; border = 0 })
states_start {w} {a} f =
    record {
      some = le_refl 1;
      ok = omega arith;
      filling = f;
      stored_is = sym (below_one w);
      border_is = λ l. sym (border_one w);
    }

module _ {w a b : List ℕ} {r : ℕ} {f : Filled} (room : Fits w a) (s : FillingStates w a b r f) where
  module _ {d : List ℕ} {g : Filled} (l : r ≤ length w) (u : StateMade w r g b d) where
    pub long : length d ≡ length a
    long = u.filling.long ∙ s.filling.long

    pub count_inside : count_place (length w) r + number_width (length w) ≤ length d
    count_inside = count_room w (targets_below w (suc r)) r u.filling l (rw long room)

    pub count_few : g.stored ≤ length w
    count_few = omega (arith, u.stored_is, few_below w r l)

    counted : (e : List ℕ) → e ≡ sets d (count_place (length w) r) (number (number_width (length w)) g.stored) → FilledTo w (suc r) a e
    counted e is =
        let v : ℕ = number_width (length w) in
        let more : arrows_below w r ≤ arrows_below w (suc r) = omega (arith, below_suc w r) in
        let next : FilledWith w r (targets_below w (suc r)) a d =
        fill_on s.filling u.filling
        (omega (arith, length_numbers v (targets_below w r), length_numbers v (targets_below w (suc r)), mul-le-mul_right v more)) in
        rw (is, u.stored_is) (count_put w (targets_below w (suc r)) r next l (rw long room))

    pub states_turn : (e : List ℕ) → e ≡ sets d (count_place (length w) r) (number (number_width (length w)) g.stored) → FillingStates w a e (r + 1) g
    states_turn e is =
        rw (add-one r)
        (record {
          some = omega arith;
          ok = omega arith;
          filling = counted e is;
          stored_is = u.stored_is;
          border_is = λ h. u.border_is ∙ sym (dropped_is w r s.some h);
        })

  pub states_done : length w < r → StatesMade w f.stored a b
  states_done l =
      let e : r ≡ suc (length w) = omega (arith, s.ok) in
      record { stored_is = s.stored_is ∙ ap (λ (z : ℕ). arrows_below w z) e; filling = rw e at s.filling }

-- THE SHEET: code, state 0, then the others
sheet_parts : (w : List ℕ) → let d = number_width (length w) in header w (suc (length w)) ++ numbers d (targets_below w (suc (length w))) ≡ sheet w
unfolding header sheet layout
sheet_parts w = simp append_assoc

module _ (w : List ℕ) {a b : List ℕ} (fits : Fits w a) (f : CodeMade w a b) where
  bare : FilledWith w 0 [] a b
  unfolding numbers
  bare = rw (header_none w) f

  room : Fits w b
  room = omega (arith, fits, f.long)

  pub zero_inside : count_place (length w) 0 + number_width (length w) ≤ length b
  zero_inside = count_room w [] 0 bare (omega arith) room

  module _ {c : List ℕ} (is : c ≡ sets b (count_place (length w) 0) (number (number_width (length w)) 0)) where
    zero_filled : FilledTo w 1 a c
    zero_filled =
        rw (is, none_below w)
        (rw (below_one w) at (count_put w [] 0 bare (omega arith) room))

    pub then_states : Fits w c × FilledTo w 1 c c
    then_states = (omega (arith, fits, zero_filled.long), fill_self zero_filled)

    module _ {d : List ℕ} {n : ℕ} (g : StatesMade w n c d) where
      none_first : length (numbers (number_width (length w)) (targets_below w 1)) ≤ length (numbers (number_width (length w)) (targets_below w (suc (length w))))
      none_first =
          let v : ℕ = number_width (length w) in
          omega (arith, length_numbers v (targets_below w 1), below_one w, zero-mul v, ap (λ (k : ℕ). k * v) (below_one w))

      whole : FilledTo w (suc (length w)) a d
      whole = fill_on zero_filled g.filling none_first

      pub few_targets : n ≤ length w
      few_targets = omega (arith, g.stored_is, few_below w (length w) (le_refl (length w)))

      pub sheet_made : (size : ℕ) → size ≡ target_place (length w) n → SheetMade w size a d
      sheet_made size e =
          record {
            size_is = e ∙ ap (target_place (length w)) g.stored_is ∙ sym (length_sheet w);
            front =
                fill_done whole (length_header w (suc (length w)) ∙ sym (target_first (length w)))
                ∙ ap (λ (bs : List ℕ). in_front bs a) (sheet_parts w);
          }
