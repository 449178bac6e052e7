-- The rule by which the backward arrows of all states are listed in linear time: those of r are made of the arrows of its longest border. Assumes nothing.
use Rattle.std.specs.Prelude.{Bool, cond, List, [], ◌∷◌, ℕ, suc}
use Rattle.words.specs.Words.{member, border_of}
use Rattle.automaton.specs.Arrows.{label, forward, back_targets}

-- what the targets of r are made of: the target of its longest border, then that border's own targets
unfoldable pub candidates : (w : List ℕ) → (r : ℕ) → List ℕ
candidates w r = suc (border_of w r) ∷ back_targets w (border_of w r)

-- whether a target has the forward label of r
unfoldable pub drops : (w : List ℕ) → (r t : ℕ) → Bool
drops w r t = member (label w t) (forward w r)

-- of some targets those that stay at r
unfoldable pub kept : (w : List ℕ) → (r : ℕ) → (targets : List ℕ) → List ℕ
kept w r [] = []
kept w r (t ∷ ts) = cond (drops w r t) (kept w r ts) (t ∷ kept w r ts)

-- and the last that does not, else b
unfoldable pub dropped : (w : List ℕ) → (r b : ℕ) → (targets : List ℕ) → ℕ
dropped w r b [] = b
dropped w r b (t ∷ ts) = dropped w r (cond (drops w r t) t b) ts
