-- How many backward arrows a state has at least, and so what a step costs at least. Assumes nothing.
use mathlib.Core.Path.{◌≡◌, refl, ap, ◌∙◌}
use mathlib.Core.Bool.{false}
use mathlib.Core.List.{List, [], ◌∷◌, ◌++◌, map}
use mathlib.Core.Logic.{◌≢◌}
use Prim.Native.Nat.{ℕ, zero, suc, ◌≤◌, ◌<◌}
use native.Mathlib.Omega.{arith}
use lib.Dec.{eqb}
use lib.ListN.{length}
use Rattle.words.specs.Words.{byte, member, state_of}
use Rattle.words.proofs.Tests.{by_test, by_le}
use Rattle.words.proofs.Lists.{member_nil, member_other}
use Rattle.words.proofs.Borders.{Border}
use Rattle.automaton.specs.declared.Step.{Step}
use Rattle.automaton.specs.Arrows.{label, targets_from, forward, back_targets, arrows, stepped}
use Rattle.automaton.specs.Costs.{cost_after}
use Rattle.automaton.specs.Promise.{labels_of, compared, CostsRight}
use Rattle.automaton.proofs.Targets.{forward_inside, forward_end}
use Rattle.automaton.proofs.Labels.{seen_one}
use Rattle.automaton.proofs.Steps.{costs_right}
use Rattle.automaton.proofs.PaperArrows.{step_forward}

-- as many as k borders have different labels, none of which is the forward one
module _ (w : List ℕ) (p : ℕ) (fits : p ≤ length w) (k : ℕ) (border : ℕ → ℕ)
    (borders : (j : ℕ) → j < k → Border w p (border j))
    (differ : (i j : ℕ) → i < j → j < k → byte w (border j) ≢ byte w (border i)) where
  many_targets : (j : ℕ) (seen : List ℕ) → j ≤ k → ((i : ℕ) → i < j → member (byte w (border i)) seen ≡ false) →
      j ≤ length (targets_from p w p seen)
  many_targets zero seen u f = omega arith
  many_targets (suc j) seen u f =
      let a = borders j u in
      let v : ℕ = byte w (border j) in
      let one = seen_one w p v fits p seen (omega arith) (border j) a.below a refl (f j (omega arith)) in
      let rest = many_targets j (v ∷ seen) (omega arith) (λ i h. member_other (byte w (border i)) v seen (differ i j h u) ∙ f i (omega arith)) in
      omega (arith, one, rest)

  pub many_arrows : ((j : ℕ) → j < k → p < length w → byte w p ≢ byte w (border j)) → k ≤ arrows w p
  unfolding back_targets
  many_arrows f =
      many_targets k (forward w p) (omega arith)
      (λ j h.
      by_le (suc p) (length w)
      (λ (l : p < length w). rw (forward_inside w p l) (member_other (byte w (border j)) (byte w p) [] (f j h l) ∙ member_nil (byte w (border j))))
      (λ (l : length w < suc p). rw (forward_end w p (omega arith)) (member_nil (byte w (border j)))))

-- where there is one, every byte costs something
pub some_cost : (w : List ℕ) (p c : ℕ) → 1 ≤ arrows w p → 1 ≤ (stepped w p c).cost
unfolding CostsRight labels_of compared
some_cost w p c h = rw (costs_right w p c) (go (back_targets w p) h)
  where
    go : (ts : List ℕ) → 1 ≤ length ts → 1 ≤ compared c (map (label w) ts ++ forward w p)
    go [] l = absurd (omega arith)
    go (t ∷ ts) l = by_test (eqb (label w t) c) (λ e. rw e (omega arith)) (λ e. rw e (omega arith))

-- the forward byte costs a comparison for each arrow back, and one more
pub forward_pays : (w ts : List ℕ) (p c : ℕ) → state_of w ts ≡ p → p < length w → byte w p ≡ c → cost_after w ts c ≡ suc (arrows w p)
unfolding cost_after
forward_pays w ts p c state h e =
    ap (λ (q : ℕ). (stepped w q c).cost) state ∙ ap (λ (s : Step). s.cost) (step_forward w p c h e)
