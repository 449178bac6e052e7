-- Words of 64 bits as sets of numbers below 64: which bits a word holds, its highest one, and what putting and taking one does. Assumes nothing: these are
-- definitions.
use Rattle.std.specs.Prelude.{◌≡◌, Bool, true, false, ◌&&◌, ◌||◌, ◌≢◌, ℕ, ◌/◌, ◌%◌, ◌^◌, ◌<◌, ltb, eqb}

-- whether bit q, from 0, is set
unfoldable pub holds : (m q : ℕ) → Bool
holds m q = eqb (m / 2 ^ q % 2) 1

-- r is the highest bit of m, 0 where there is none
pub record Top (m r : ℕ) : Type 0 where
  pub held : m ≢ 0 → holds m r ≡ true
  pub above : (q : ℕ) → r < q → holds m q ≡ false
  pub few : r < 64
  pub none : m ≡ 0 → r ≡ 0

-- r is m with bit j put; a bit that a word has no room for is not put
pub record WithBit (m j r : ℕ) : Type 0 where
  pub each : (q : ℕ) → holds r q ≡ holds m q || (eqb q j && ltb j 64)

-- r is m without its highest bit
pub record WithoutTop (m r : ℕ) : Type 0 where
  pub each : (t : ℕ) → Top m t → (q : ℕ) → holds r q ≡ holds m q && ltb q t
  pub less : m ≢ 0 → r < m
  pub none : m ≡ 0 → r ≡ 0
