-- THE WORDS THAT COST MOST, as Hancart gives them (in the proofs of his theorems 4.6 and 4.4), for every length. Assumes nothing: these are definitions.
use Rattle.std.specs.Prelude.{cond, List, [], ◌∷◌, ◌++◌, ℕ, zero, suc, ◌+◌, ◌%◌, eqb, take}
use Rattle.automaton.specs.Ceilings.{log2}

-- ALL BYTES TOGETHER. An a (97) at every multiple of m, and b (98) elsewhere
unfoldable pub spaced_byte : (m i : ℕ) → ℕ
spaced_byte m i = cond (eqb (i % m) 0) 97 98

-- the first n bytes of this
unfoldable pub spaced : (m n : ℕ) → List ℕ
spaced m zero = []
spaced m (suc n) = spaced m n ++ (spaced_byte m n ∷ [])

-- the code of m bytes is one a and then b only; the text is that code again and again, cut off behind n bytes
abbrev pub costly_code : (m : ℕ) → List ℕ
costly_code m = spaced m m

abbrev pub costly_text : (m n : ℕ) → List ℕ
costly_text m n = spaced m n

-- ONE BYTE. Each ruler (the paper's word ξ) is the one before it, a new byte and the one before it again: 32, 33, 32, 34, 32, 33, 32, ..
unfoldable pub ruler : (k : ℕ) → List ℕ
ruler zero = []
ruler (suc k) = ruler k ++ ((32 + k) ∷ ruler k)

-- the code is the first m bytes of a ruler that has as many; the text is the longest ruler that is shorter than the code, and the byte after it is new
unfoldable pub steep_code : (m : ℕ) → List ℕ
steep_code m = take m (ruler (suc (log2 m)))

abbrev pub steep_text : (m : ℕ) → List ℕ
steep_text m = ruler (log2 m)

abbrev pub steep_byte : (m : ℕ) → ℕ
steep_byte m = 32 + log2 m
