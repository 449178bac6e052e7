-- The parts of a board as the lists of lengths, bytes and links have them, and the board that is written part by part. Assumes nothing.
use mathlib.Core.Path.{◌≡◌, refl, sym, ap, ◌∙◌}
use mathlib.Core.Bool.{true, false}
use mathlib.Core.List.{List, [], ◌∷◌, ◌++◌, map}
use Prim.Native.Nat.{ℕ, zero, suc, ◌+◌, ◌*◌, ◌≤◌, ◌<◌}
use native.Mathlib.Omega.{arith}
use lib.ListN.{length, get_or, take, set, length-append, length-map}
use lib.Seq.{get_or-take, length-take-le, ext_get_or}
use borrow.Author.Tests.{eqb-true}
use Rattle.words.proofs.Tests.{by_test, never_both}
use Rattle.automaton.specs.Costs.{sum}
use Rattle.starts.specs.Starts.{code, total, state, start, is_state, twice, shorter}
use Rattle.starts.proofs.States.{start_known, state_is_state}
use Rattle.starts.proofs.Codes.{code_known, is_code_at, number_at}
use Rattle.sheets.specs.Sheet as sheet
use Rattle.sheets.proofs.Layouts.{length_numbers}
use Rattle.boards.specs.declared.links.Links.{Links as LinkLists}
use Rattle.boards.specs.Board.{cut, bytes_of, link, nearest_at, row, rows_below, header, board}
use Rattle.boards.specs.Tables.{Good, AllLinked}
use Rattle.boards.specs.Written.{Spliced, Small, rows_in, OnBoard, BoardMade}
use Rattle.boards.proofs.Cuts.{cut_length, cut_total, cut_lengths, cut_bytes}
use Rattle.boards.proofs.Splices.{spliced_sets, spliced_then, spliced_front, row_long}

map_at : (f : List ℕ → ℕ) (ws : List (List ℕ)) (j : ℕ) → j < length ws → get_or (map f ws) j 0 ≡ f (code ws j)
unfolding code
map_at f [] j h = absurd (omega arith)
map_at f (w ∷ ws) zero h = refl
map_at f (w ∷ ws) (suc j) h = map_at f ws j (omega arith)

-- WHAT THE LISTS HOLD is what the board has
module _ {ws : List (List ℕ)} {k : LinkLists} (l : AllLinked ws k) where
  -- at a state, and at a number that is none
  of_state : (g : ℕ) → g ≤ total ws → is_state ws g ≡ true → (get_or k.links (2 * g) 0 ≡ link ws g) × (get_or k.nearest g 0 ≡ nearest_at ws g)
  unfolding link nearest_at is_state
  of_state g h e =
      let u : List ℕ = start ws g in
      let d = l.done u (start_known ws g h) in
      let at : state ws u ≡ g = eqb-true (state ws u) g e in
      (rw e (rw at at d.link), rw e (rw at at d.near))

  of_none : (g : ℕ) → is_state ws g ≡ false → (get_or k.links (2 * g) 0 ≡ link ws g) × (get_or k.nearest g 0 ≡ nearest_at ws g)
  unfolding link nearest_at
  of_none g e =
      let z = l.blank.none g (λ u t a. never_both (ap (is_state ws) (sym a) ∙ state_is_state ws u t) e) in
      (rw e z.0, rw e z.2)

  row_of : (g : ℕ) → g ≤ total ws → sheet.number 2 (get_or k.links (2 * g) 0) ++ (get_or k.nearest g 0 ∷ []) ≡ row ws g
  unfolding row
  row_of g h =
      let e = by_test (is_state ws g) (of_state g h) (of_none g) in
      rw (e.0, e.1)

  rows_of : (n : ℕ) → n ≤ suc (total ws) → rows_in k.links k.nearest n ≡ rows_below ws n
  unfolding rows_in rows_below
  rows_of zero h = refl
  rows_of (suc g) h = rw (rows_of g (omega arith), row_of g (omega arith))

  rows_are : rows_in k.links k.nearest (suc (total ws)) ≡ rows_below ws (suc (total ws))
  rows_are = rows_of (suc (total ws)) (omega arith)

  -- for each code the longest shorter one
  shorter_at : twice ws ≡ false → (j : ℕ) → j < length ws → get_or k.shorter j 0 ≡ shorter ws (code ws j)
  shorter_at once j h = (l.done (code ws j) (code_known ws (code ws j) (is_code_at ws j h))).short j (number_at ws j once h)

  shorter_are : twice ws ≡ false → length ws ≤ length k.shorter → take (length ws) k.shorter ≡ map (shorter ws) ws
  shorter_are once h =
      let size : length (take (length ws) k.shorter) ≡ length ws = length-take-le (length ws) k.shorter h in
      ext_get_or 0 (take (length ws) k.shorter) (map (shorter ws) ws) (size ∙ sym (length-map ws (shorter ws)))
      (λ j b.
      let below : j < length ws = rw size at b in
      get_or-take (length ws) k.shorter j 0 below ∙ shorter_at once j below ∙ sym (map_at (shorter ws) ws j below))

-- THE LENGTH of a board
pub length_bytes : (ws : List (List ℕ)) → length (bytes_of ws) ≡ total ws
unfolding bytes_of total
length_bytes [] = refl
length_bytes (w ∷ ws) = omega (arith, length-append w (bytes_of ws), length_bytes ws)

pub length_rows : (ws : List (List ℕ)) (g : ℕ) → length (rows_below ws g) ≡ 3 * g
unfolding rows_below row
length_rows ws zero = refl
length_rows ws (suc g) = omega (arith, length-append (rows_below ws g) (row ws g), row_long (link ws g) (nearest_at ws g), length_rows ws g)

header_length : (ws : List (List ℕ)) → length (header ws) ≡ 1 + 2 * length ws + total ws
unfolding header
header_length ws =
    let ls : List ℕ = map length ws in
    omega (arith, length-append (sheet.numbers 2 ls) (bytes_of ws), length_numbers 2 ls, length-map ws (λ (w : List ℕ). length w), length_bytes ws)

pub board_length : (ws : List (List ℕ)) → length (board ws) ≡ 1 + 2 * length ws + total ws + length ws + 3 * suc (total ws)
unfolding board
board_length ws =
    let hs : List ℕ = map (shorter ws) ws in
    let rs : List ℕ = rows_below ws (suc (total ws)) in
    omega (
      arith,
      length-append (header ws ++ hs) rs,
      length-append (header ws) hs,
      header_length ws,
      length-map ws (shorter ws),
      length_rows ws (suc (total ws)),
    )

-- WRITING IT
small_all : (ls : List ℕ) → sum ls ≤ 2000 → Small ls
unfolding sum
small_all [] h = tt
small_all (l ∷ ls) h = (omega arith, small_all ls (omega arith))

module _ {ls bs : List ℕ} {k : LinkLists} {a : List ℕ} (good : Good ls bs) (o : OnBoard (cut ls bs) k a) where
  abbrev ws : List (List ℕ)
  ws = cut ls bs

  bytes_are : total ws ≡ length bs
  bytes_are = cut_total ls bs (omega (arith, good.sums)) ∙ good.sums

  pub lengths_small : Small ls
  lengths_small = small_all ls (omega (arith, good.sums, good.bytes))

  pub size_few : 1 + 2 * length ls + length bs + length ls + 3 * (length bs + 1) ≤ 8196
  size_few = omega (arith, good.codes, good.bytes)

  -- its parts as they are written
  header_parts : header ws ≡ length ls ∷ (sheet.numbers 2 ls ++ bs)
  unfolding header
  header_parts = rw (cut_length ls bs, cut_lengths ls bs (omega (arith, good.sums)), cut_bytes ls bs good.sums)

  parts : board ws ≡ (length ls ∷ (sheet.numbers 2 ls ++ bs)) ++ take (length ls) k.shorter ++ rows_in k.links k.nearest (length bs + 1)
  unfolding board
  parts =
      let n : length bs + 1 ≡ suc (total ws) = omega (arith, bytes_are) in
      let short = shorter_are o.linked o.once (omega (arith, cut_length ls bs, good.codes, o.linked.blank.shorter_long)) in
      rw (header_parts, n, rows_are o.linked, ← short, cut_length ls bs)

  pub board_written : {c d e f : List ℕ} →
      Spliced 1 (sheet.numbers 2 ls) (set a 0 (length ls)) c →
      Spliced (1 + 2 * length ls) bs c d →
      Spliced (1 + 2 * length ls + length bs) (take (length ls) k.shorter) d e →
      Spliced (1 + 2 * length ls + length bs + length ls) (rows_in k.links k.nearest (length bs + 1)) e f →
      BoardMade ws (1 + 2 * length ls + length bs + length ls + 3 * (length bs + 1)) a f
  board_written p q r s =
      let ns : List ℕ = sheet.numbers 2 ls in
      let hs : List ℕ = take (length ls) k.shorter in
      let first : Spliced 0 (length ls ∷ []) a (set a 0 (length ls)) = spliced_sets 0 (length ls ∷ []) a (omega (arith, o.room)) in
      let lengths = spliced_then first (omega arith) p in
      let bytes = spliced_then lengths (omega (arith, length_numbers 2 ls)) q in
      let behind : length (ns ++ bs) ≡ 2 * length ls + length bs = omega (arith, length-append ns bs, length_numbers 2 ls) in
      let shorts = spliced_then bytes (omega (arith, behind)) r in
      let few = length-take-le (length ls) k.shorter (omega (arith, good.codes, o.linked.blank.shorter_long)) in
      let whole = spliced_then shorts (omega (arith, length-append (length ls ∷ (ns ++ bs)) hs, behind, few)) s in
      record {
        size_is = omega (arith, board_length ws, cut_length ls bs, bytes_are);
        few = size_few;
        front = rw parts (spliced_front whole);
      }
