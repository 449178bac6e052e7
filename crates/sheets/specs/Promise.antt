-- What is promised of sheets. Each statement is a type; docs/PROOFS.md names its proof. Assumes nothing.
use Rattle.std.specs.Prelude.{◌≡◌, true, false, not, List, [], ◌∷◌, ◌++◌, ◌≢◌, ◌↔◌, ℕ, suc, ◌+◌, ◌*◌, ◌/◌, ◌%◌, ◌≤◌, ◌<◌, length, drop}
use Rattle.words.specs.Words.{in_front}
use Rattle.automaton.specs.Arrows.{all_targets, back_arrows}
use Rattle.codes.specs.Refusals.{answer_refusal, answer_value}
use Rattle.codes.specs.Codes.{has_control, accepted}
use Rattle.sheets.specs.Sheet.{number, numbers, counts_below, layout, sheet, sheet_room, named, begins}
use Rattle.sheets.specs.Entry.{prepare_refusal, prepare_answer, prepare_buffer}

-- BOTH LAYOUTS. Of a code of up to 255 bytes: its length, the code, the counts and the targets, all in single bytes; of a longer one: a 0 byte, its length in
-- two bytes, the high byte first, the code, and the counts and the targets in two bytes each
unfoldable pub SheetLaid : Type 0
SheetLaid =
    (w : List ℕ) → let counts = counts_below w (suc (length w)) in
    (length w ≤ 255 → sheet w ≡ (length w ∷ w) ++ counts ++ all_targets w)
    × (255 < length w → sheet w ≡ (0 ∷ length w / 256 ∷ length w % 256 ∷ w) ++ numbers 2 counts ++ numbers 2 (all_targets w))
    × ((v : ℕ) → number 2 v ≡ v / 256 ∷ v % 256 ∷ [])

-- their sizes, by the number of backward arrows; they always fit the room asked for
unfoldable pub SheetSized : Type 0
SheetSized =
    (w : List ℕ) →
    (length w ≤ 255 → length (sheet w) ≡ 2 * length w + 2 + back_arrows w)
    × (255 < length w → length (sheet w) ≡ 3 * length w + 5 + 2 * back_arrows w)
    × (length (sheet w) ≤ sheet_room (length w))

-- a sheet tells its code (`sheet` is injective): two codes have one sheet only if they are equal
unfoldable pub SheetTells : Type 0
SheetTells = (w v xs ys : List ℕ) → sheet w ++ xs ≡ sheet v ++ ys → w ≡ v

-- and each code has one sheet: the wide layout of a code of up to 255 bytes is none
unfoldable pub SheetOnce : Type 0
SheetOnce =
    (w rest : List ℕ) → length w ≤ 255 → begins (layout 2 (0 ∷ length w / 256 ∷ length w % 256 ∷ []) w ++ rest) ≡ false

-- ACCEPTANCE: a buffer that begins with the sheet of a code of 1 to 4,000 bytes, whatever stands behind it, names that code and is accepted, with one
-- exception: the code has a control byte, one below 32. And no other buffer is accepted
unfoldable pub BeginsRight : Type 0
BeginsRight =
    ((w rest : List ℕ) → 1 ≤ length w → length w ≤ 4000 →
    (named (sheet w ++ rest) ≡ w) × (begins (sheet w ++ rest) ≡ not (has_control w)))
    × ((bs : List ℕ) → begins bs ≡ true → (accepted (named bs) ≡ true) × (bs ≡ in_front (sheet (named bs)) bs))

-- THE ROOM that preparing asks for
unfoldable pub RoomAsked : Type 0
RoomAsked =
    (w : List ℕ) (room : ℕ) → accepted w ≡ true →
    (length w ≤ 255 → (prepare_refusal w room ≡ 3) ↔ (room < 3 * length w + 2))
    × (255 < length w → (prepare_refusal w room ≡ 3) ↔ (room < 5 * length w + 5))

-- preparing that is not refused leaves such a buffer, of the code that it was given
unfoldable pub PrepareMakes : Type 0
PrepareMakes =
    (w a : List ℕ) → prepare_refusal w (length a) ≡ 0 →
    (accepted w ≡ true) × (prepare_buffer w a ≡ sheet w ++ drop (length (sheet w)) a)

-- WHAT PREPARING ANSWERS: the refusal's number, and the buffer is as it was; or the sheet's length
unfoldable pub PreparingAnswers : Type 0
PreparingAnswers =
    (w a : List ℕ) → let n = prepare_refusal w (length a) in let r = prepare_answer w (length a) in
    (answer_refusal r ≡ n)
    × (n ≡ 0 → answer_value r ≡ length (sheet w))
    × (n ≢ 0 → prepare_buffer w a ≡ a)
