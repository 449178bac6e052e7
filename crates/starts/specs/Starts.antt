-- THE STARTS OF MANY CODES. Each is a state of one automaton; the longest one that a text ends with is the text's state. Assumes nothing: these are
-- definitions.
use Rattle.std.specs.Prelude.{Bool, false, ◌||◌, cond, List, [], ◌∷◌, ℕ, suc, ◌+◌, ◌-◌, leb, eqb, length, get_or, take}
use Rattle.words.specs.Words.{same, suffix, largest}

-- code number j, from 0, of a list
unfoldable pub code : (ws : List (List ℕ)) → (j : ℕ) → List ℕ
code ws j = get_or ws j []

-- whether u is a start of w; whether it is one of some code, or empty
unfoldable pub is_start : (u w : List ℕ) → Bool
is_start u w = same (take (length u) w) u

unfoldable pub known : (ws : List (List ℕ)) → (u : List ℕ) → Bool
known [] u = same u []
known (w ∷ ws) u = is_start u w || known ws u

-- how many bytes the codes have together, and how many those before code number j
unfoldable pub total : (ws : List (List ℕ)) → ℕ
total [] = 0
total (w ∷ ws) = length w + total ws

unfoldable pub offset : (ws : List (List ℕ)) → (j : ℕ) → ℕ
offset ws j = total (take j ws)

-- THE STATE of a start: the number of its last byte in the first code that has it, where the bytes of all codes are counted through from 1; 0 for the empty
-- start
unfoldable pub state : (ws : List (List ℕ)) → (u : List ℕ) → ℕ
state [] u = 0
state (w ∷ ws) u = cond (is_start u w) (length u) (length w + state ws u)

-- the start that ends with byte number g; and whether g is its state, as it is unless an earlier code has it too
unfoldable pub start : (ws : List (List ℕ)) → (g : ℕ) → List ℕ
start [] g = []
start (w ∷ ws) g = cond (leb g (length w)) (take g w) (start ws (g - length w))

unfoldable pub is_state : (ws : List (List ℕ)) → (g : ℕ) → Bool
is_state ws g = eqb (state ws (start ws g)) g

-- THE LONGEST END of a text that passes a test, of at most n bytes; the empty one if no other does
unfoldable pub longest_end : (test : List ℕ → Bool) → (n : ℕ) → (text : List ℕ) → List ℕ
longest_end t n ts = suffix (largest (λ k. t (suffix k ts)) n) ts

-- the longest start that a text ends with
unfoldable pub reached : (ws : List (List ℕ)) → (text : List ℕ) → List ℕ
reached ws ts = longest_end (known ws) (length ts) ts

-- THE FAILURE LINK of a start: the longest shorter one that it ends with
unfoldable pub fallback : (ws : List (List ℕ)) → (u : List ℕ) → List ℕ
fallback ws u = longest_end (known ws) (length u - 1) u

-- whether a word is one of the codes; how many stand before it; its number, from 1, or 0 if it is none
unfoldable pub is_code : (ws : List (List ℕ)) → (u : List ℕ) → Bool
is_code [] u = false
is_code (w ∷ ws) u = same w u || is_code ws u

unfoldable pub index : (ws : List (List ℕ)) → (u : List ℕ) → ℕ
index [] u = 0
index (w ∷ ws) u = cond (same w u) 0 (suc (index ws u))

unfoldable pub number : (ws : List (List ℕ)) → (u : List ℕ) → ℕ
number ws u = cond (is_code ws u) (suc (index ws u)) 0

-- whether one of the codes stands there twice
unfoldable pub twice : (ws : List (List ℕ)) → Bool
twice [] = false
twice (w ∷ ws) = is_code ws w || twice ws

-- the number of the longest code that a word ends with, and of the longest that is shorter than the word; 0 if there is none
unfoldable pub nearest : (ws : List (List ℕ)) → (u : List ℕ) → ℕ
nearest ws u = number ws (longest_end (is_code ws) (length u) u)

unfoldable pub shorter : (ws : List (List ℕ)) → (u : List ℕ) → ℕ
shorter ws u = number ws (longest_end (is_code ws) (length u - 1) u)
