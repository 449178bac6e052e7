-- The ceilings of the number of comparisons. Assumes nothing: these are definitions.
use Rattle.std.specs.Prelude.{cond, List, [], ◌∷◌, ℕ, zero, suc, ◌+◌, ◌*◌, ◌-◌, ◌/◌, min, ltb, length}
use Rattle.words.specs.Words.{member}

-- how often m can be halved before it is below 2, at most `times`
unfoldable pub halvings : (times m : ℕ) → ℕ
halvings zero m = 0
halvings (suc k) m = cond (ltb m 2) 0 (suc (halvings k (m / 2)))

-- log2 m rounded down: m times are enough for any m
unfoldable pub log2 : (m : ℕ) → ℕ
log2 m = halvings m m

-- how many different bytes a code has
unfoldable pub different : (w : List ℕ) → ℕ
different [] = 0
different (x ∷ xs) = cond (member x xs) 0 1 + different xs

-- no byte costs more
unfoldable pub byte_ceiling : (w : List ℕ) → ℕ
byte_ceiling w = min (1 + log2 (length w)) (different w)

-- (2 - 1/m) * n rounded down: n bytes together cost no more
unfoldable pub total_ceiling : (m n : ℕ) → ℕ
total_ceiling m n = (2 * m - 1) * n / m
