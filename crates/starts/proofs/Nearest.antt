-- The longest code that a word ends with, and the longest shorter one, told by failure links. Assumes nothing.
use mathlib.Core.Path.{◌≡◌, ap, ◌∙◌}
use mathlib.Core.Bool.{true, false}
use mathlib.Core.List.{List, []}
use Prim.Native.Nat.{ℕ, ◌-◌, ◌≤◌, ◌<◌}
use native.Mathlib.Omega.{arith}
use lib.ListN.{length}
use Rattle.words.proofs.Tests.{fails}
use Rattle.starts.specs.Starts.{known, longest_end, reached, fallback, is_code, number, nearest, shorter}
use Rattle.starts.proofs.Codes.{code_known, number_none}
use Rattle.starts.proofs.Ends.{longest_is, longest_none, longest_self, longest_less, longest_both}

module _ (ws : List (List ℕ)) where
  -- THE LONGEST CODE that a word ends with: the word itself, else one that the failure link ends with
  pub nearest_code : (u : List ℕ) → is_code ws u ≡ true → nearest ws u ≡ number ws u
  unfolding nearest
  nearest_code u e = ap (number ws) (longest_self (is_code ws) u e)

  pub shorter_back : (u : List ℕ) → shorter ws u ≡ nearest ws (fallback ws u)
  unfolding shorter nearest fallback
  shorter_back u = ap (number ws) (longest_both (known ws) (is_code ws) (length u - 1) u (omega arith) (λ v h. code_known ws v))

  pub nearest_shorter : (u : List ℕ) → is_code ws u ≡ false → nearest ws u ≡ shorter ws u
  unfolding shorter nearest
  nearest_shorter u e = ap (number ws) (longest_less (is_code ws) u e)

  pub nearest_back : (u : List ℕ) → is_code ws u ≡ false → nearest ws u ≡ nearest ws (fallback ws u)
  nearest_back u e = nearest_shorter u e ∙ shorter_back u

  -- that of a text is that of the longest start that it ends with
  pub nearest_reached : (ts : List ℕ) → nearest ws ts ≡ nearest ws (reached ws ts)
  unfolding nearest reached
  nearest_reached ts = ap (number ws) (longest_both (known ws) (is_code ws) (length ts) ts (omega arith) (λ v h. code_known ws v))

  -- where no code is empty none ends the empty word, and none a word that is shorter than every code
  pub nearest_nil : is_code ws [] ≡ false → nearest ws [] ≡ 0
  unfolding nearest
  nearest_nil e = ap (number ws) (longest_none (is_code ws) []) ∙ number_none ws [] e

  pub nearest_short : (d : ℕ) → ((v : List ℕ) → is_code ws v ≡ true → d ≤ length v) → (u : List ℕ) → length u < d → nearest ws u ≡ 0
  unfolding nearest
  nearest_short d long u h =
      let v = longest_end (is_code ws) (length u) u in
      let few = (longest_is (is_code ws) (length u) u (omega arith)).bound in
      number_none ws v (fails (is_code ws v) (λ e. let l = long v e in absurd (omega arith)))
