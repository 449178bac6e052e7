-- THE BOARD of a list of codes: the codes and the links of their starts in bytes. Assumes nothing: these are definitions.
use Rattle.std.specs.Prelude.{Bool, false, ◌&&◌, ◌||◌, not, cond, List, [], ◌∷◌, ◌++◌, map, ℕ, zero, suc, ◌+◌, ◌*◌, ltb, eqb, length, get_or, take, drop}
use Rattle.words.specs.Words.{member, same}
use Rattle.automaton.specs.Costs.{sum}
use Rattle.codes.specs.Refusals.{refused_if, first_refusal}
use Rattle.codes.specs.Codes.{longest_code, has_control}
use Rattle.sheets.specs.Sheet as sheet
use Rattle.starts.specs.Starts.{total, state, start, is_state, fallback, twice, nearest, shorter}

-- THE CODES that stand one after the other in a slice of bytes, with these lengths
unfoldable pub cut : (lengths bytes : List ℕ) → List (List ℕ)
cut [] bs = []
cut (l ∷ ls) bs = take l bs ∷ cut ls (drop l bs)

-- and the bytes in which some codes stand so
unfoldable pub bytes_of : (ws : List (List ℕ)) → List ℕ
bytes_of [] = []
bytes_of (w ∷ ws) = w ++ bytes_of ws

-- the most codes and bytes of a board, and the room that preparing asks for
abbrev pub most_codes : ℕ
most_codes = 64

abbrev pub most_bytes : ℕ
most_bytes = 2000

abbrev pub board_room : ℕ
board_room = 32768

-- whether some number is above a limit
unfoldable pub some_above : (limit : ℕ) → List ℕ → Bool
some_above k [] = false
some_above k (l ∷ ls) = ltb k l || some_above k ls

-- REFUSALS of codes handed over as lengths and bytes: 1, 2, 10, 13, then 11. Whether there are no codes, too many codes or bytes, or lengths that do not add up
-- to the bytes
unfoldable pub no_board : (lengths bytes : List ℕ) → Bool
no_board ls bs =
    (eqb (length ls) 0 || ltb most_codes (length ls)) || (ltb most_bytes (length bs) || not (eqb (sum ls) (length bs)))

unfoldable pub list_refusal : (lengths bytes : List ℕ) → ℕ
list_refusal ls bs =
    first_refusal (
    refused_if 1 (member 0 ls)
    ∷ refused_if 2 (some_above longest_code ls)
    ∷ refused_if 10 (no_board ls bs)
    ∷ refused_if 13 (has_control bs)
    ∷ [])

unfoldable pub codes_refusal : (lengths bytes : List ℕ) → ℕ
codes_refusal ls bs = first_refusal (list_refusal ls bs ∷ refused_if 11 (twice (cut ls bs)) ∷ [])

-- the codes that are accepted
unfoldable pub accepted : (ws : List (List ℕ)) → Bool
accepted ws = eqb (codes_refusal (map length ws) (bytes_of ws)) 0

-- THE LINKS of byte number g: if it is a state, its failure link and the number of the longest code that its start ends with; else 0
unfoldable pub link : (ws : List (List ℕ)) → (g : ℕ) → ℕ
link ws g = cond (is_state ws g) (state ws (fallback ws (start ws g))) 0

unfoldable pub nearest_at : (ws : List (List ℕ)) → (g : ℕ) → ℕ
nearest_at ws g = cond (is_state ws g) (nearest ws (start ws g)) 0

unfoldable pub row : (ws : List (List ℕ)) → (g : ℕ) → List ℕ
row ws g = sheet.number 2 (link ws g) ++ (nearest_at ws g ∷ [])

unfoldable pub rows_below : (ws : List (List ℕ)) → (g : ℕ) → List ℕ
rows_below ws zero = []
rows_below ws (suc g) = rows_below ws g ++ row ws g

-- how many codes, the length of each, the codes; the longest shorter code that each ends with; and a row for 0 and for each byte of the codes
unfoldable pub header : (ws : List (List ℕ)) → List ℕ
header ws = length ws ∷ (sheet.numbers 2 (map length ws) ++ bytes_of ws)

unfoldable pub board : (ws : List (List ℕ)) → List ℕ
board ws = header ws ++ map (shorter ws) ws ++ rows_below ws (suc (total ws))

-- THE CODES THAT A BUFFER NAMES: as many lengths as its first byte tells, in two bytes each, then as many bytes as these add up to
unfoldable pub pairs_of : (k : ℕ) → List ℕ → List ℕ
pairs_of zero bs = []
pairs_of (suc k) bs = (256 * get_or bs 0 0 + get_or bs 1 0) ∷ pairs_of k (drop 2 bs)

unfoldable pub named_lengths : (buffer : List ℕ) → List ℕ
named_lengths bs = pairs_of (get_or bs 0 0) (drop 1 bs)

unfoldable pub named_bytes : (buffer : List ℕ) → List ℕ
named_bytes bs = take (sum (named_lengths bs)) (drop (1 + 2 * get_or bs 0 0) bs)

unfoldable pub named : (buffer : List ℕ) → List (List ℕ)
named bs = cut (named_lengths bs) (named_bytes bs)

-- whether a buffer names accepted codes and begins with their board
unfoldable pub begins : (buffer : List ℕ) → Bool
begins bs =
    eqb (codes_refusal (named_lengths bs) (named_bytes bs)) 0
    && same (take (length (board (named bs))) bs) (board (named bs))
