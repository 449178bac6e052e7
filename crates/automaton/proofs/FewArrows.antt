-- No code has more backward arrows than bytes, and how many the states up to a border leave for those above it. Assumes nothing.
use mathlib.Core.Path.{◌≡◌, refl, ◌∙◌, ap}
use mathlib.Core.List.{List}
use mathlib.Core.Logic.{◌≢◌}
use Prim.Native.Nat.{ℕ, zero, suc, ◌+◌, ◌-◌, ◌≤◌, ◌<◌}
use native.Mathlib.Omega.{arith}
use lib.ListN.{length}
use Rattle.words.specs.Words.{border_of}
use Rattle.words.proofs.Tests.{by_le, by_eq}
use Rattle.words.proofs.Borders.{Border, border_zero, border_lower, border_prev, longest_is}
use Rattle.automaton.specs.Arrows.{arrows, arrows_below}
use Rattle.automaton.specs.Preparing.{candidates}
use Rattle.automaton.specs.Promise.{FewArrows}
use Rattle.automaton.proofs.Labels.{one_if}
use Rattle.automaton.proofs.Counts.{arrows_zero, below_suc, below_one}
use Rattle.automaton.proofs.Preparing.{labels, candidates_are, labels_are, labels_inside, arrows_at_most}

-- the fact at r, for every border x of r
abbrev FewAt : List ℕ → (r : ℕ) → Type 0
FewAt w r = (x : ℕ) → Border w r x → x + (arrows_below w r + labels w r) ≤ r + arrows_below w (suc x)

-- at r + 1 and its longest border, from the fact at r
few_longest : (w : List ℕ) (r : ℕ) → r < length w → FewAt w r → (β : ℕ) → border_of w (suc r) ≡ β →
    β + (arrows_below w (suc r) + labels w (suc r)) ≤ suc r + arrows_below w (suc β)
few_longest w r inside ih zero e =
    let count : labels w (suc r) ≡ suc (arrows w 0) = labels_are w (suc r) (omega arith) inside ∙ ap (λ (n : ℕ). suc (arrows w n)) e in
    let none = arrows_zero w in
    let one = below_one w in
    by_eq r 0
    (λ (first : r ≡ 0).
    let same : arrows_below w (suc r) ≡ arrows_below w 1 = ap (λ (n : ℕ). arrows_below w (suc n)) first in
    omega arith)
    (λ (n : r ≢ 0). omega (arith, ih 0 (border_zero w r (omega arith)), arrows_at_most w r, below_suc w r))
few_longest w r inside ih (suc x) e =
    let count : labels w (suc r) ≡ suc (arrows w (suc x)) =
    labels_are w (suc r) (omega arith) inside ∙ ap (λ (n : ℕ). suc (arrows w n)) e in
    let border : Border w (suc r) (suc x) = rw e at (longest_is w (suc r) (omega arith)).holds in
    let less : labels w r ≡ 1 + arrows w r = labels_inside w r inside ∙ ap (λ (n : ℕ). one_if n + arrows w r) e in
    omega (arith, ih x (border_prev w r x inside border), below_suc w r, below_suc w (suc x))

-- at r + 1 and any border, from the facts at r and at its longest border
few_suc : (w : List ℕ) (r : ℕ) → r < length w → ((s : ℕ) → s ≤ r → FewAt w s) → FewAt w (suc r)
few_suc w r inside ih x a =
    let β = border_of w (suc r) in
    let top = few_longest w r inside (ih r (omega arith)) β refl in
    let l = longest_is w (suc r) (omega arith) in
    let under : β ≤ suc r - 1 = l.bound in
    let below : x < suc r = a.below in
    by_le β x
    (λ (h : β ≤ x).
    by_eq β x
    (λ (e : β ≡ x). rw (← e) top)
    (λ (n : β ≢ x). absurd (l.none x (omega arith) (omega arith) a)))
    (λ (h : x < β).
    let lower = ih β (omega arith) x (border_lower w (suc r) β x l.holds a h) in
    omega (arith, below_suc w β, arrows_at_most w β))

few_up_to : (w : List ℕ) (k s : ℕ) → s ≤ k → s ≤ length w → FewAt w s
few_up_to w zero s le fits x a = absurd (let h : x < s = a.below in omega arith)
few_up_to w (suc k) zero le fits x a = absurd (let h : x < 0 = a.below in omega arith)
few_up_to w (suc k) (suc s) le fits x a = few_suc w s fits (λ u h. few_up_to w k u (omega arith) (omega arith)) x a

pub few : (w : List ℕ) (r : ℕ) → r ≤ length w → (x : ℕ) → Border w r x → x + (arrows_below w r + labels w r) ≤ r + arrows_below w (suc x)
few w r fits = few_up_to w r r (omega arith) fits

-- at the empty border
pub few_labels : (w : List ℕ) (r : ℕ) → 0 < r → r ≤ length w → arrows_below w r + labels w r ≤ r
few_labels w r pos fits = omega (arith, few w r fits 0 (border_zero w r pos), below_one w)

pub few_below : (w : List ℕ) (r : ℕ) → r ≤ length w → arrows_below w (suc r) ≤ r
few_below w r fits =
    by_eq r 0
    (λ (e : r ≡ 0). rw e (omega (arith, below_one w)))
    (λ (n : r ≢ 0). omega (arith, few_labels w r (omega arith) fits, below_suc w r, arrows_at_most w r))

pub candidates_fit : (w : List ℕ) (r : ℕ) → 0 < r → r ≤ length w → arrows_below w r + length (candidates w r) ≤ r
unfolding labels
candidates_fit w r pos fits = rw (candidates_are w r pos fits) (few_labels w r pos fits)

pub few_arrows : FewArrows
unfolding FewArrows
few_arrows w = few_below w (length w) (omega arith)
