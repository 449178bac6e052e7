-- The costs of a text: one byte more, and both ceilings. Assumes nothing.
use mathlib.Core.Path.{◌≡◌, ap, ◌∙◌}
use mathlib.Core.List.{List, [], ◌∷◌, ◌++◌, append-nil}
use Prim.Native.Nat.{ℕ, ◌+◌, ◌*◌, ◌≤◌}
use native.Mathlib.Omega.{arith}
use lib.ListN.{length}
use lib.Seq.{append_snoc}
use Rattle.words.specs.Words.{Every, state_of}
use Rattle.words.proofs.Lists.{length_snoc}
use Rattle.words.proofs.Largest.{state_nil, state_is}
use Rattle.runs.specs.Reading.{over}
use Rattle.runs.proofs.Over.{over_snoc}
use Rattle.automaton.specs.Ceilings.{byte_ceiling}
use Rattle.automaton.specs.Costs.{cost_after, costs, sum}
use Rattle.automaton.specs.Promise.{StateNext, ByteBelow, CostsBelow}
use Rattle.automaton.proofs.PaperArrows.{state_next}
use Rattle.automaton.proofs.TotalCeiling.{Running, running_start, running_byte, running_below, running_twice}
use Rattle.automaton.proofs.ByteCeiling.{byte_below}

sum_snoc : (ns : List ℕ) (n : ℕ) → sum (ns ++ (n ∷ [])) ≡ sum ns + n
unfolding sum
sum_snoc [] n = omega arith
sum_snoc (k ∷ ns) n = rw (sum_snoc ns n) (omega arith)

pub costs_snoc : (w ts : List ℕ) (c : ℕ) → sum (costs w (ts ++ (c ∷ []))) ≡ sum (costs w ts) + cost_after w ts c
costs_snoc w ts c = ap sum (over_snoc (λ us b. cost_after w us b ∷ []) ts c) ∙ sum_snoc (costs w ts) (cost_after w ts c)

-- EACH BYTE
each_below : (w bs ts : List ℕ) → Every (λ k. k ≤ byte_ceiling w) (over (λ us c. cost_after w us c ∷ []) bs ts)
unfolding over cost_after ByteBelow
each_below w bs [] = tt
each_below w bs (c ∷ ts) = (byte_below w (state_of w bs) c (state_is w bs).bound, each_below w (bs ++ (c ∷ [])) ts)

-- ALL TOGETHER: the steps from byte to byte are a run
module _ (w : List ℕ) (some : 1 ≤ length w) where
  abbrev TextRunning : (text : List ℕ) → Type 0
  TextRunning ts = Running w (length ts) (state_of w ts) (sum (costs w ts))

  text_runs_on : (bs ts : List ℕ) → TextRunning bs → TextRunning (bs ++ ts)
  unfolding StateNext cost_after
  text_runs_on bs [] r = rw append-nil r
  text_runs_on bs (c ∷ ts) r =
      rw append_snoc at
      (text_runs_on (bs ++ (c ∷ [])) ts
      (rw (length_snoc, ← state_next, costs_snoc) (running_byte w (length bs) (state_of w bs) (sum (costs w bs)) c some r)))

  text_runs : (ts : List ℕ) → TextRunning ts
  unfolding over sum
  text_runs ts = text_runs_on [] ts (rw (state_nil w) (running_start w))

  pub costs_twice : (ts : List ℕ) → sum (costs w ts) ≤ 2 * length ts
  costs_twice ts = running_twice w (length ts) (state_of w ts) (sum (costs w ts)) some (text_runs ts)

pub costs_below : CostsBelow
unfolding CostsBelow
costs_below w ts some = (each_below w [] ts, running_below w (length ts) (state_of w ts) (sum (costs w ts)) some (text_runs w some ts))
