-- THE SHEET of a code: the automaton's table in bytes. Assumes nothing: these are definitions.
use Rattle.std.specs.Prelude.{Bool, ◌&&◌, cond, List, [], ◌∷◌, ◌++◌, ℕ, zero, suc, ◌+◌, ◌*◌, ◌/◌, ◌%◌, ltb, eqb, length, get_or, take, drop}
use Rattle.words.specs.Words.{same}
use Rattle.automaton.specs.Arrows.{arrows_below, all_targets}
use Rattle.codes.specs.Codes.{longest_code, accepted}

-- a number in so many bytes, the high byte first
unfoldable pub number : (width v : ℕ) → List ℕ
number zero v = []
number (suc zero) v = v ∷ []
number (suc (suc k)) v = number (suc k) (v / 256) ++ (v % 256 ∷ [])

unfoldable pub numbers : (width : ℕ) → (vs : List ℕ) → List ℕ
numbers d [] = []
numbers d (v ∷ vs) = number d v ++ numbers d vs

-- for each state below s the number of backward arrows of that state and all lower ones
unfoldable pub counts_below : (w : List ℕ) → (s : ℕ) → List ℕ
counts_below w zero = []
counts_below w (suc s) = counts_below w s ++ (arrows_below w (suc s) ∷ [])

-- a front, the code, the counts and the backward targets of states 0 to m, in numbers of so many bytes
unfoldable pub layout : (width : ℕ) → (front code : List ℕ) → List ℕ
layout d f w = f ++ w ++ numbers d (counts_below w (suc (length w))) ++ numbers d (all_targets w)

-- the longest code with a short sheet, whose numbers have one byte; a longer one has a wide sheet, whose numbers have two
abbrev pub longest_short : ℕ
longest_short = 255

unfoldable pub number_width : (m : ℕ) → ℕ
number_width m = cond (ltb longest_short m) 2 1

-- what is before the code: its length m, on a wide sheet behind a 0 byte; and how many bytes that is
unfoldable pub front : (m : ℕ) → List ℕ
front m = cond (ltb longest_short m) (0 ∷ number 2 m) (number 1 m)

unfoldable pub code_start : (m : ℕ) → ℕ
code_start m = cond (ltb longest_short m) 3 1

unfoldable pub sheet : (code : List ℕ) → List ℕ
sheet w = layout (number_width (length w)) (front (length w)) w

-- where the count of state p is in it, and target number i, from 0, of the code's
unfoldable pub count_place : (m p : ℕ) → ℕ
count_place m p = code_start m + m + p * number_width m

unfoldable pub target_place : (m i : ℕ) → ℕ
target_place m i = code_start m + m + (suc m + i) * number_width m

-- room that is enough for the sheet of any code of m bytes
unfoldable pub sheet_room : (m : ℕ) → ℕ
sheet_room m = cond (ltb longest_short m) (5 * m + 5) (3 * m + 2)

-- and for the sheet of any code
abbrev pub longest_sheet : ℕ
longest_sheet = sheet_room longest_code

-- the code that a buffer names: so many bytes as its first byte tells or, where that is 0, the next two
unfoldable pub named_length : (buffer : List ℕ) → ℕ
named_length bs = cond (eqb (get_or bs 0 0) 0) (256 * get_or bs 1 0 + get_or bs 2 0) (get_or bs 0 0)

unfoldable pub named : (buffer : List ℕ) → List ℕ
named bs = take (named_length bs) (drop (code_start (named_length bs)) bs)

-- whether a buffer names an accepted code and begins with its sheet
unfoldable pub begins : (buffer : List ℕ) → Bool
begins bs = accepted (named bs) && same (take (length (sheet (named bs))) bs) (sheet (named bs))
