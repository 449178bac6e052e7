-- `main` meets its contract, which promises nothing: it is safe and ends. Assumes nothing.
use mathlib.Core.Path.{◌≡◌, refl}
use Prim.Native.Nat.{ℕ, zero, suc, ◌+◌, ◌^◌, ◌≤◌, ◌<◌}
use native.Mathlib.Omega.{arith}
use lib.Dec.{lit≤}
use lib.ListN.{get_or}
use Rattle.automaton.specs.Ceilings.{halvings, log2}
use Rattle.reached.specs.declared.TheConstants.{BYTES}
use Rattle.reached.proofs.main.Goals as goal

-- each pair of the table is of a code's length and of the bytes before the one that costs most
abbrev Steep : ℕ × ℕ → Type 0
Steep p = (1 ≤ p.0) × (p.0 ≤ 4000) × (p.1 + 1 ≡ 2 ^ log2 p.0)

steep_at : (k : ℕ) (d : ℕ × ℕ) → k < 7 → Steep (get_or BYTES k d)
unfolding halvings log2
steep_at zero d h = (lit≤ tt, lit≤ tt, refl)
steep_at (suc zero) d h = (lit≤ tt, lit≤ tt, refl)
steep_at (suc (suc zero)) d h = (lit≤ tt, lit≤ tt, refl)
steep_at (suc (suc (suc zero))) d h = (lit≤ tt, lit≤ tt, refl)
steep_at (suc (suc (suc (suc zero)))) d h = (lit≤ tt, lit≤ tt, refl)
steep_at (suc (suc (suc (suc (suc zero))))) d h = (lit≤ tt, lit≤ tt, refl)
steep_at (suc (suc (suc (suc (suc (suc zero)))))) d h = (lit≤ tt, lit≤ tt, refl)
steep_at (suc (suc (suc (suc (suc (suc (suc k))))))) d h = absurd (omega arith)

pub put_byte-requires : goal.put_byte-requires
put_byte-requires c = steep_at c.loop-m-2.m-index (0, 0) c.loop-m-2-test.true
