-- What preparing answers, by refusal, and what the tests of a buffer tell. Assumes nothing.
use mathlib.Core.Path.{◌≡◌, refl, sym, ap, ◌∙◌}
use mathlib.Core.Bool.{Bool, true, false, ◌&&◌}
use mathlib.Core.List.{List, [], ◌∷◌}
use mathlib.Core.Logic.{◌≢◌, ◌↔◌}
use Prim.Native.Nat.{ℕ, ◌+◌, ◌*◌, ◌-◌, ◌≤◌, ◌<◌}
use native.Mathlib.Omega.{arith}
use lib.Dec.{ltb, leb}
use lib.ListN.{length, take, drop, length-drop}
use lib.Seq.{take-append_seam, length-take-le}
use borrow.Author.Tests.{ne_eqb, lt-ltb, le-ltb, le-leb}
use Rattle.std.specs.Prelude.{Result, Ok, Err}
use Rattle.std.specs.Result.{is_err}
use Rattle.words.specs.Words.{same, in_front}
use Rattle.words.proofs.Tests.{by_test, by_le, by_eq}
use Rattle.words.proofs.Lists.{in_front_long}
use Rattle.runs.specs.declared.Refusal.{Refusal}
use Rattle.runs.specs.Refusals.{refusal_of}
use Rattle.runs.proofs.Refusals.{number_some}
use Rattle.codes.specs.Refusals.{Value, Refused, refused_if, first_refusal}
use Rattle.codes.specs.Codes.{code_refusal, accepted}
use Rattle.codes.specs.Promise.{AnswersTold}
use Rattle.codes.proofs.Refusals.{none_of, first_here, answers_told, answered_value, answered_refusal, code_bounds, accepted_none, none_accepted}
use Rattle.sheets.specs.Sheet.{number_width, code_start, sheet, sheet_room, longest_sheet, named_length, named, begins}
use Rattle.sheets.specs.Entry.{prepare_refusal, prepare_answer, prepare_buffer, PrepareSays}
use Rattle.sheets.specs.Promise.{RoomAsked, PrepareMakes, PreparingAnswers}
use Rattle.sheets.specs.Inside.{Numbered, SheetMade, Freshly}
use Rattle.sheets.proofs.Widths.{start_range, short_target, wide_target, room_is, room_bound}
use Rattle.sheets.proofs.Sheets.{begins_accepted, begins_bounds, begins_size, begins_long}

-- an answer is a refusal or has none
pub err_refused : {A : Type 0} (r : Result A Refusal) → true ≡ is_err r → refusal_of r ≢ 0
err_refused (Ok v) t = absurd (cc)
err_refused (Err s) t = number_some s

pub ok_passed : {A : Type 0} (r : Result A Refusal) → false ≡ is_err r → refusal_of r ≡ 0
ok_passed (Ok v) t = refl
ok_passed (Err s) t = absurd (cc)

-- a code that is not refused may have a sheet
pub numbered_by : (w : List ℕ) (width : ℕ) → code_refusal w ≡ 0 → width ≡ number_width (length w) → Numbered (length w) width
numbered_by w width none e = let b = code_bounds w none in record { some = b.0; few = b.1; width_is = e }

-- PREPARING
module _ (w a : List ℕ) where
  refusing : (n : ℕ) → n ≢ 0 → prepare_refusal w (length a) ≡ n → PrepareSays w (Refused n) a a
  unfolding prepare_answer prepare_buffer
  refusing n h e = record { answers = rw e (sym (answered_refusal n (length (sheet w)) h)); leaves = rw (e, ne_eqb n 0 h) refl }

  pub says_code_refused : (n : ℕ) → n ≡ code_refusal w → n ≢ 0 → PrepareSays w (Refused n) a a
  unfolding prepare_refusal
  says_code_refused n e h = refusing n h (rw (← e) (first_here n (refused_if 3 (ltb (length a) (sheet_room (length w))) ∷ []) h))

  module _ (none : code_refusal w ≡ 0) where
    pub says_small : length a < sheet_room (length w) → PrepareSays w (Refused 3) a a
    unfolding prepare_refusal first_refusal refused_if
    says_small h = refusing 3 (λ e. omega arith) (rw (none, lt-ltb (length a) (sheet_room (length w)) h))

    module _ (room : sheet_room (length w) ≤ length a) where
      passes : prepare_refusal w (length a) ≡ 0
      unfolding prepare_refusal first_refusal refused_if
      passes = rw (none, le-ltb (length a) (sheet_room (length w)) room)

      pub says_prepared : (n : ℕ) (b : List ℕ) → SheetMade w n a b → PrepareSays w (Value n) a b
      unfolding prepare_answer prepare_buffer
      says_prepared n b m =
          record { answers = rw (passes, m.size_is) (sym (answered_value 0 (length (sheet w)) refl)); leaves = rw passes m.front }

-- with room for any sheet only the code can be refused
pub prepare_roomy : (w : List ℕ) (k : ℕ) → longest_sheet ≤ k → prepare_refusal w k ≡ code_refusal w
unfolding prepare_refusal first_refusal refused_if
prepare_roomy w k h =
    by_eq (code_refusal w) 0
    (λ (e : code_refusal w ≡ 0). rw (e, le-ltb k (sheet_room (length w)) (omega (arith, room_bound (length w) (code_bounds w e).1))))
    (λ (n : code_refusal w ≢ 0). first_here (code_refusal w) (refused_if 3 (ltb k (sheet_room (length w))) ∷ []) n)

pub prepare_makes : PrepareMakes
unfolding PrepareMakes prepare_refusal prepare_buffer in_front
prepare_makes w a none = (none_accepted w (none_of _ none).0, rw none refl)

pub preparing_answers : PreparingAnswers
unfolding PreparingAnswers prepare_answer prepare_buffer AnswersTold
preparing_answers w a =
    let n : ℕ = prepare_refusal w (length a) in
    let told = answers_told n (length (sheet w)) in
    (told.0, λ e. told.1 ∙ rw e refl, λ h. rw (ne_eqb n 0 h) refl)

-- so the room asked for decides
room_decides : (w : List ℕ) (k n : ℕ) → accepted w ≡ true → sheet_room (length w) ≡ n → (prepare_refusal w k ≡ 3) ↔ (k < n)
unfolding prepare_refusal first_refusal refused_if
room_decides w k n good e = (
  λ h.
      by_le (sheet_room (length w)) k
      (λ (l : sheet_room (length w) ≤ k). let none : 0 ≡ 3 = rw (accepted_none w good, le-ltb k (sheet_room (length w)) l) at h in absurd (omega arith))
      (λ (l : k < sheet_room (length w)). omega (arith, l, e)),
  λ h. rw (accepted_none w good, lt-ltb k (sheet_room (length w)) (omega (arith, h, e))) refl,
)

pub room_asked : RoomAsked
unfolding RoomAsked
room_asked w k good =
    let m : ℕ = length w in (
      λ h. room_decides w k (3 * m + 2) good (room_is m ∙ short_target m h m ∙ omega arith),
      λ h. room_decides w k (5 * m + 5) good (room_is m ∙ wide_target m h m ∙ omega arith),
    )

-- A SHEET PREPARED AFRESH in a work area, compared
pub made_long : {w a b : List ℕ} {n : ℕ} → SheetMade w n a b → n ≤ length b
made_long {w} {a} m = omega (arith, m.size_is, ap length m.front, in_front_long (sheet w) a)

pub fresh : {w a area : List ℕ} {n : ℕ} (bs : List ℕ) → SheetMade w n a area → (r : Bool) → r ≡ leb n (length area) && same (take n bs) (take n area) →
    Freshly bs w r
unfolding in_front
fresh {w} {a} {area} {n} bs m r e =
    e ∙ rw (le-leb n (length area) (made_long m), m.size_is, m.front, take-append_seam (sheet w) (drop (length (sheet w)) a)) refl

-- THE CHECK of a buffer, test by test
module _ (bs : List ℕ) where
  not_begins : (begins bs ≡ true → ⊥) → false ≡ begins bs
  not_begins f = sym (by_test (begins bs) (λ e. absurd (f e)) (λ e. e))

  pub too_short : length bs < code_start (named_length bs) + named_length bs → false ≡ begins bs
  too_short h = not_begins (λ e. omega (arith, begins_long bs e, begins_size bs e, ap code_start (begins_size bs e)))

  pub too_small : length bs < 3 → false ≡ begins bs
  too_small h = not_begins (λ e. omega (arith, begins_long bs e, begins_bounds bs e, start_range (length (named bs))))

  -- the part that is as long as it says is the code
  module _
      (code : List ℕ) (m start : ℕ) (m_is : m ≡ named_length bs) (start_is : start ≡ code_start m)
      (part : code ≡ take (start + m - start) (drop start bs)) where
    pub code_named : code ≡ named bs
    unfolding named
    code_named = let n : start + m - start ≡ m = omega arith in part ∙ rw (n, start_is, m_is) refl

    pub code_long : start + m ≤ length bs → length code ≡ m
    code_long h =
        let n : start + m - start ≡ m = omega arith in
        ap length part ∙ rw n (length-take-le m (drop start bs) (simp length-drop (omega arith)))

    pub not_accepted : code_refusal code ≢ 0 → false ≡ begins bs
    not_accepted h = not_begins (λ e. h (rw code_named (accepted_none (named bs) (begins_accepted bs e))))

    pub compared : code_refusal code ≡ 0 → (r : Bool) → Freshly bs code r → r ≡ begins bs
    unfolding begins
    compared none r f = f ∙ rw (code_named, none_accepted (named bs) (rw code_named at none)) refl
