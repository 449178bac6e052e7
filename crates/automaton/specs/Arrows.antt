-- The automaton's arrows and steps. A code is a word w of any length m, a state a number p from 0 to m. Assumes nothing: these are definitions.
use Rattle.std.specs.Prelude.{◌&&◌, not, cond, List, [], ◌∷◌, ◌++◌, ℕ, zero, suc, ◌-◌, ltb, eqb, length}
use Rattle.words.specs.Words.{byte, member, is_border}
use Rattle.automaton.specs.declared.Step.{Step}
use Rattle.automaton.specs.declared.Arrow.{Arrow}
use Rattle.automaton.specs.declared.Arrow.TheVariants.{Back, Forward, Nothing}

-- the label of an arrow with target t
unfoldable pub label : (w : List ℕ) → (t : ℕ) → ℕ
label w t = byte w (t - 1)

-- targets b + 1 of the borders b of p below a bound, from the largest down, without those whose label was seen
unfoldable pub targets_from : (bound : ℕ) → (w : List ℕ) → (p : ℕ) → (seen : List ℕ) → List ℕ
targets_from zero w p seen = []
targets_from (suc b) w p seen =
    cond (is_border w p b && not (member (byte w b) seen)) (suc b ∷ targets_from b w p (byte w b ∷ seen)) (targets_from b w p seen)

-- the forward arrow's label, if p has a forward arrow
unfoldable pub forward : (w : List ℕ) → (p : ℕ) → List ℕ
forward w p = cond (ltb p (length w)) (byte w p ∷ []) []

-- BACKWARD ARROWS of p, by falling target: of equal labels the largest target, and none with the forward label
unfoldable pub back_targets : (w : List ℕ) → (p : ℕ) → List ℕ
back_targets w p = targets_from p w p (forward w p)

-- the backward targets of the states below s, by rising state
unfoldable pub targets_below : (w : List ℕ) → (s : ℕ) → List ℕ
targets_below w zero = []
targets_below w (suc s) = targets_below w s ++ back_targets w s

-- those of all states
abbrev pub all_targets : (w : List ℕ) → List ℕ
all_targets w = targets_below w (suc (length w))

-- how many backward arrows state p has, the states below s have, and the code has
abbrev pub arrows : (w : List ℕ) → (p : ℕ) → ℕ
arrows w p = length (back_targets w p)

abbrev pub arrows_below : (w : List ℕ) → (s : ℕ) → ℕ
arrows_below w s = length (targets_below w s)

abbrev pub back_arrows : (w : List ℕ) → ℕ
back_arrows w = length (all_targets w)

-- A STEP on byte c: backward labels first, by falling target, then the forward one; the cost is the number of labels compared
abbrev pub step : (state cost : ℕ) → Arrow → Step
step q k a = record { state = q; cost = k; arrow = a }

unfoldable pub try_forward : (cost : ℕ) → (w : List ℕ) → (p c : ℕ) → Step
try_forward k w p c =
    cond (ltb p (length w)) (cond (eqb (byte w p) c) (step (suc p) (suc k) Forward) (step 0 (suc k) Nothing)) (step 0 k Nothing)

unfoldable pub try_back : (targets : List ℕ) → (cost : ℕ) → (w : List ℕ) → (p c : ℕ) → Step
try_back [] k w p c = try_forward k w p c
try_back (t ∷ ts) k w p c = cond (eqb (label w t) c) (step t (suc k) (Back t)) (try_back ts (suc k) w p c)

unfoldable pub stepped : (w : List ℕ) → (p c : ℕ) → Step
stepped w p c = try_back (back_targets w p) 0 w p c

-- the paper's kind of an arrow from p to q: none to 0, the forward one to p + 1, else a backward one
unfoldable pub arrow_to : (p q : ℕ) → Arrow
arrow_to p zero = Nothing
arrow_to p (suc b) = cond (eqb b p) Forward (Back (suc b))

-- an arrow's number: 0 none, 1 backward, 2 forward; and a backward one's target, 0 for the others
abbrev pub arrow_number : Arrow → ℕ
arrow_number Nothing = 0
arrow_number (Back t) = 1
arrow_number Forward = 2

abbrev pub arrow_target : Arrow → ℕ
arrow_target Nothing = 0
arrow_target (Back t) = t
arrow_target Forward = 0
