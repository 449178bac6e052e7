-- Arrows and costs of three small codes, by document 01's rules, as one table. Assumes nothing: these are definitions.
use Rattle.std.specs.Prelude.{◌≡◌, List, [], ◌∷◌, ◌++◌, map, ℕ, zero, suc, length}
use Rattle.automaton.specs.Arrows.{back_targets, stepped}
use Rattle.automaton.specs.Costs.{costs}

-- A SAMPLE: lists of numbers as the definitions give them, and as the document says, or its rules where it gives no number
pub record Sample : Type 0 where
  pub found : List (List ℕ)
  pub expected : List (List ℕ)

-- what is found is what is expected, sample by sample
abbrev pub Agree : List Sample → Type 0
Agree ss = map (λ s. s.found) ss ≡ map (λ s. s.expected) ss

-- the backward targets of the states below s, state by state
unfoldable pub each_targets : (w : List ℕ) → (s : ℕ) → List (List ℕ)
each_targets w zero = []
each_targets w (suc s) = each_targets w s ++ (back_targets w s ∷ [])

-- those of states 0 to m
unfoldable pub targeted : (code : List ℕ) → (targets : List (List ℕ)) → Sample
targeted w ts = record { found = each_targets w (suc (length w)); expected = ts }

-- the costs of a text's bytes, one by one, step after step from state p on
unfoldable pub step_costs : (w : List ℕ) → (p : ℕ) → (text : List ℕ) → List ℕ
step_costs w p [] = []
step_costs w p (c ∷ cs) = (stepped w p c).cost ∷ step_costs w (stepped w p c).state cs

-- those from state 0 on, and the costs of the text
unfoldable pub stepping : (code text each : List ℕ) → Sample
stepping w ts ks = record { found = step_costs w 0 ts ∷ costs w ts ∷ []; expected = ks ∷ ks ∷ [] }

-- the letters a, b, c and z
abbrev pub A : ℕ
A = 97

abbrev pub B : ℕ
B = 98

abbrev pub C : ℕ
C = 99

abbrev pub Z : ℕ
Z = 122

abbrev pub abaab : List ℕ
abaab = A ∷ B ∷ A ∷ A ∷ B ∷ []

-- THE TABLE
unfoldable pub arrow_samples : List Sample
arrow_samples =
    targeted abaab ([] ∷ (1 ∷ []) ∷ [] ∷ (2 ∷ []) ∷ (1 ∷ []) ∷ (3 ∷ []) ∷ [])
    ∷ stepping (A ∷ B ∷ []) (A ∷ A ∷ A ∷ []) (1 ∷ 1 ∷ 1 ∷ [])
    ∷ stepping (A ∷ B ∷ []) (A ∷ B ∷ Z ∷ []) (1 ∷ 2 ∷ 1 ∷ [])
    ∷ stepping (A ∷ B ∷ A ∷ C ∷ []) (A ∷ B ∷ A ∷ Z ∷ []) (1 ∷ 2 ∷ 1 ∷ 3 ∷ [])
    ∷ []

-- all its rows agree
unfoldable pub ArrowSamplesHold : Type 0
ArrowSamplesHold = Agree arrow_samples
