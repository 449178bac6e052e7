-- Where a board has what, the codes that a buffer names, and which buffers begin with a board. Assumes nothing.
use mathlib.Core.Path.{◌≡◌, refl, sym, ap, ◌∙◌}
use mathlib.Core.Bool.{Bool, true, and-true}
use mathlib.Core.List.{List, [], ◌∷◌, ◌++◌, append_assoc, map}
use Prim.Native.Nat.{ℕ, zero, suc, ◌+◌, ◌*◌, ◌/◌, ◌%◌, ◌≤◌, ◌<◌}
use native.Mathlib.Omega.{arith}
use lib.Dec.{eqb}
use lib.ListN.{length, take, drop, length-append, length-drop, length-map, take-append-drop}
use lib.Seq.{take_all, take-append-le, drop-append-le, take_at, drop_at, take-append_seam, drop-append_seam, drop-append-add}
use borrow.Author.Tests.{eqb-true, eq-eqb, ne_eqb}
use Rattle.words.specs.Words.{same, in_front}
use Rattle.words.proofs.Tests.{by_le, and_left, and_right}
use Rattle.words.proofs.Lists.{eq_same, same_eq}
use Rattle.automaton.specs.Costs.{sum}
use Rattle.starts.specs.Starts.{total, shorter}
use Rattle.sheets.specs.Sheet.{number, numbers}
use Rattle.sheets.proofs.Layouts.{length_numbers}
use Rattle.boards.specs.Board.{cut, bytes_of, codes_refusal, accepted, link, nearest_at, row, rows_below, header, board}
use Rattle.boards.specs.Board.{pairs_of, named_lengths, named_bytes, named, begins}
use Rattle.boards.specs.Tables.{Good}
use Rattle.boards.specs.Entry.{prepare_refusal, prepare_answer, prepare_buffer}
use Rattle.boards.specs.Promise.{BoardLaid, BoardSized, BoardTells, BeginsRight, PrepareMakes, PreparingAnswers}
use Rattle.codes.specs.Promise.{AnswersTold}
use Rattle.codes.proofs.Refusals.{none_of, answers_told}
use Rattle.boards.proofs.Cuts.{cut_length, cut_total, cut_lengths, cut_bytes}
use Rattle.boards.proofs.Rows.{length_bytes, length_rows, board_length}
use Rattle.boards.proofs.Splices.{row_long}
use Rattle.boards.proofs.Listing.{good_of, none_listed}

-- THE BYTES OF CODES, CUT again: as many bytes as their lengths add up to, and they are the codes
pub sum_lengths : (ws : List (List ℕ)) → sum (map length ws) ≡ length (bytes_of ws)
unfolding sum bytes_of
sum_lengths [] = refl
sum_lengths (w ∷ ws) = omega (arith, sum_lengths ws, length-append w (bytes_of ws))

pub bytes_cut : (ws : List (List ℕ)) → cut (map length ws) (bytes_of ws) ≡ ws
unfolding cut bytes_of
bytes_cut [] = refl
bytes_cut (w ∷ ws) =
    let front = take_at w (bytes_of ws) (length w) refl in
    let behind = drop_at w (bytes_of ws) (length w) refl in
    rw (front, behind, bytes_cut ws)

-- ACCEPTED codes are those whose lengths and bytes are not refused
accepted_none : (ws : List (List ℕ)) → accepted ws ≡ true → codes_refusal (map length ws) (bytes_of ws) ≡ 0
unfolding accepted
accepted_none ws e = eqb-true (codes_refusal (map length ws) (bytes_of ws)) 0 e

pub accepted_good : (ws : List (List ℕ)) → accepted ws ≡ true → Good (map length ws) (bytes_of ws)
accepted_good ws e = good_of (map length ws) (bytes_of ws) (none_listed (map length ws) (bytes_of ws) (accepted_none ws e)).0

accepted_cut : (ls bs : List ℕ) → codes_refusal ls bs ≡ 0 → accepted (cut ls bs) ≡ true
unfolding accepted
accepted_cut ls bs e =
    let sums : sum ls ≡ length bs = (good_of ls bs (none_listed ls bs e).0).sums in
    rw (cut_lengths ls bs (omega (arith, sums)), cut_bytes ls bs sums) (eq-eqb (codes_refusal ls bs) 0 e)

-- numbers of two bytes are read back
pairs_back : (ls xs : List ℕ) → pairs_of (length ls) (numbers 2 ls ++ xs) ≡ ls
unfolding pairs_of numbers number
pairs_back [] xs = refl
pairs_back (l ∷ ls) xs =
    let head : 256 * (l / 256) + l % 256 ≡ l = omega arith in
    rw (head, pairs_back ls xs)

-- THE LAYOUT
module _ (ws : List (List ℕ)) (rest : List ℕ) where
  abbrev lengths : List ℕ
  lengths = map length ws

  abbrev behind : List ℕ
  behind = map (shorter ws) ws ++ rows_below ws (suc (total ws)) ++ rest

  -- the first byte, the lengths, the codes
  parts : board ws ++ rest ≡ length ws ∷ (numbers 2 lengths ++ (bytes_of ws ++ behind))
  unfolding board header
  parts = ap (λ (l : List ℕ). length ws ∷ l) (regroup (numbers 2 lengths) (bytes_of ws) (map (shorter ws) ws) (rows_below ws (suc (total ws))) rest)
    where
      regroup : (a b c d e : List ℕ) → a ++ b ++ c ++ d ++ e ≡ a ++ (b ++ (c ++ d ++ e))
      regroup a b c d e = simp append_assoc

  -- so it names the lengths, the bytes and the codes
  board_lengths : named_lengths (board ws ++ rest) ≡ lengths
  unfolding named_lengths
  board_lengths = rw (parts, ← length-map ws (λ (w : List ℕ). length w)) (pairs_back lengths (bytes_of ws ++ behind))

  board_bytes : named_bytes (board ws ++ rest) ≡ bytes_of ws
  unfolding named_bytes
  board_bytes =
      let at : 1 + 2 * length ws ≡ suc (length (numbers 2 lengths)) =
      omega (arith, length_numbers 2 lengths, length-map ws (λ (w : List ℕ). length w)) in
      rw (board_lengths, sum_lengths ws, parts, at, drop-append_seam (numbers 2 lengths) (bytes_of ws ++ behind))
      (take-append_seam (bytes_of ws) behind)

  pub board_named : named (board ws ++ rest) ≡ ws
  unfolding named
  board_named = rw (board_lengths, board_bytes) (bytes_cut ws)

  -- and is accepted exactly if they are
  pub board_begins : begins (board ws ++ rest) ≡ accepted ws
  unfolding begins accepted
  board_begins =
      rw (board_named, board_lengths, board_bytes, eq_same (take-append_seam (board ws) rest))
      (and-true (eqb (codes_refusal lengths (bytes_of ws)) 0))

-- ROWS: each is three bytes, at its place
module _ (ws : List (List ℕ)) where
  row_in : (n g : ℕ) → g < n → take 3 (drop (3 * g) (rows_below ws n)) ≡ row ws g
  unfolding rows_below
  row_in zero g h = absurd (omega arith)
  row_in (suc n) g h =
      by_le n g
      (λ (l : n ≤ g).
      let e : g ≡ n = omega arith in
      rw (e, drop_at (rows_below ws n) (row ws n) (3 * n) (length_rows ws n)) (take_all 3 (row ws n) (omega (arith, three n))))
      (λ (l : g < n).
      let rs : List ℕ = rows_below ws n in
      rw (drop-append-le (3 * g) rs (row ws n) (omega (arith, length_rows ws n)))
      (take-append-le 3 (drop (3 * g) rs) (row ws n) (omega (arith, length-drop (3 * g) rs, length_rows ws n)) ∙ row_in n g l))
    where
      three : (m : ℕ) → length (row ws m) ≡ 3
      three m = unfold row in row_long (link ws m) (nearest_at ws m)

  row_placed : (g : ℕ) → g ≤ total ws → take 3 (drop (1 + 3 * length ws + total ws + 3 * g) (board ws)) ≡ row ws g
  unfolding board
  row_placed g h =
      let front : List ℕ = header ws ++ map (shorter ws) ws in
      let rows : List ℕ = rows_below ws (suc (total ws)) in
      let at : 1 + 3 * length ws + total ws + 3 * g ≡ length front + 3 * g =
      omega (arith, board_length ws, length-append front rows, length_rows ws (suc (total ws))) in
      rw (at, drop-append-add front rows (3 * g)) (row_in (suc (total ws)) g (omega arith))

pub board_laid : BoardLaid
unfolding BoardLaid number
board_laid ws = (unfold board header in refl, λ v. refl, λ g h. unfold row in row_placed ws g h)

pub board_sized : BoardSized
unfolding BoardSized
board_sized ws = (
  omega (arith, board_length ws),
  λ e. let g = accepted_good ws e in omega (arith, board_length ws, g.codes, g.bytes, length_bytes ws, length-map ws (λ (w : List ℕ). length w)),
)

-- A BUFFER THAT BEGINS with a board
module _ (bs : List ℕ) (b : begins bs ≡ true) where
  abbrev codes : List (List ℕ)
  codes = named bs

  abbrev unrefused : Bool
  unrefused = eqb (codes_refusal (named_lengths bs) (named_bytes bs)) 0

  abbrev fronts : Bool
  fronts = same (take (length (board codes)) bs) (board codes)

  pub begins_accepted : accepted (named bs) ≡ true
  unfolding begins named
  begins_accepted =
      accepted_cut (named_lengths bs) (named_bytes bs)
      (eqb-true (codes_refusal (named_lengths bs) (named_bytes bs)) 0 (and_left unrefused fronts b))

  pub begins_front : bs ≡ in_front (board (named bs)) bs
  unfolding begins in_front
  begins_front =
      sym (take-append-drop (length (board codes)) bs)
      ∙ ap (λ (l : List ℕ). l ++ drop (length (board codes)) bs)
      (same_eq (take (length (board codes)) bs) (board codes) (and_right unrefused fronts b))

pub begins_right : BeginsRight
unfolding BeginsRight
begins_right = (λ ws rest. (board_named ws rest, board_begins ws rest), λ bs b. (begins_accepted bs b, begins_front bs b))

pub board_tells : BoardTells
unfolding BoardTells
board_tells ws vs xs ys e = sym (board_named ws xs) ∙ ap named e ∙ board_named vs ys

-- PREPARING
pub prepare_makes : PrepareMakes
unfolding PrepareMakes prepare_refusal prepare_buffer in_front
prepare_makes ls bs a none = (accepted_cut ls bs (none_of _ none).0, rw none refl)

prepare_sums : (ls bs : List ℕ) (k : ℕ) → prepare_refusal ls bs k ≡ 0 → sum ls ≡ length bs
unfolding prepare_refusal
prepare_sums ls bs k e = (good_of ls bs (none_listed ls bs (none_of _ e).0).0).sums

prepare_length : (ls bs : List ℕ) → sum ls ≡ length bs → length (board (cut ls bs)) ≡ 4 + 3 * length ls + 4 * length bs
prepare_length ls bs s = omega (arith, board_length (cut ls bs), cut_length ls bs, cut_total ls bs (omega (arith, s)), s)

pub preparing_answers : PreparingAnswers
unfolding PreparingAnswers prepare_answer prepare_buffer AnswersTold
preparing_answers ls bs a =
    let n : ℕ = prepare_refusal ls bs (length a) in
    let v : ℕ = length (board (cut ls bs)) in (
      (answers_told n v).0,
      λ e.
          let s : sum ls ≡ length bs = prepare_sums ls bs (length a) e in
          ((answers_told n v).1 ∙ rw e (prepare_length ls bs s), cut_lengths ls bs (omega (arith, s)), cut_bytes ls bs s),
      λ h. rw (ne_eqb n 0 h) refl,
      λ q b. (λ s. (s.answers, s.leaves), λ s. record { answers = s.0; leaves = s.1 }),
    )
