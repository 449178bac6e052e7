-- The arrows of a state from those of its longest border: the rule by which a sheet is prepared, and its counts. Assumes nothing.
use mathlib.Core.Path.{◌≡◌, refl, sym, ap, ◌∙◌}
use mathlib.Core.Bool.{false, cond}
use mathlib.Core.List.{List, [], ◌∷◌, ◌++◌, append-nil}
use Prim.Native.Nat.{ℕ, suc, ◌+◌, ◌-◌, ◌≤◌, ◌<◌}
use native.Mathlib.Omega.{arith}
use lib.Dec.{eqb}
use lib.ListN.{length, take}
use lib.Seq.{take-suc}
use borrow.Author.Tests.{eq-eqb, ne_eqb}
use Rattle.words.specs.Words.{byte, border_of}
use Rattle.words.proofs.Tests.{by_le, by_eq}
use Rattle.words.proofs.Lists.{member_nil, member_head, member_other}
use Rattle.words.proofs.Largest.{largest_one, largest_same}
use Rattle.words.proofs.Borders.{Border, border_test, border_below, longest_is}
use Rattle.automaton.specs.Arrows.{label, targets_from, forward, back_targets, arrows}
use Rattle.automaton.specs.Preparing.{candidates, drops, kept, dropped}
use Rattle.automaton.proofs.Targets.{targets_new, targets_alike, targets_down, forward_inside, forward_end}
use Rattle.automaton.proofs.Labels.{unlabelled, labelled, one_if, Led, targets_unlabelled, labelled_counts, labelled_largest}

-- the target of the longest border and that border's own targets are all targets, the one with the forward label among them
pub candidates_are : (w : List ℕ) (r : ℕ) → 0 < r → r ≤ length w → candidates w r ≡ targets_from r w r []
unfolding candidates back_targets
candidates_are w r pos fits =
    let l = longest_is w r pos in
    let β = border_of w r in
    let below : β ≤ r - 1 = l.bound in
    sym
    (targets_down r (suc β) w r [] (omega arith) (λ y lo hi a. l.none y lo (omega arith) a)
    ∙ targets_new w r β [] (border_test w r β l.holds) (member_nil (byte w β))
    ∙ ap (λ (ts : List ℕ). suc β ∷ ts)
    (targets_alike β w r β (byte w β ∷ []) (border_below w r β l.holds)
    ∙ ap (targets_from β w β) (sym (forward_inside w β (omega arith)))))

-- WHAT STAYS
kept_is : (w : List ℕ) (r : ℕ) (ts : List ℕ) → kept w r ts ≡ unlabelled w (forward w r) ts
unfolding kept unlabelled drops
kept_is w r [] = refl
kept_is w r (t ∷ ts) = rw (kept_is w r ts)

pub kept_are : (w : List ℕ) (r : ℕ) → 0 < r → r ≤ length w → back_targets w r ≡ kept w r (candidates w r)
unfolding back_targets
kept_are w r pos fits =
    ap (targets_from r w r) (sym (append-nil (forward w r)))
    ∙ targets_unlabelled w r (forward w r) r []
    ∙ ap (unlabelled w (forward w r)) (sym (candidates_are w r pos fits))
    ∙ sym (kept_is w r (candidates w r))

-- WHAT DOES NOT: the target with the forward label is the longest border of the next state
pub drops_inside : (w : List ℕ) (r t : ℕ) → r < length w → drops w r t ≡ eqb (label w t) (byte w r)
unfolding drops
drops_inside w r t h =
    rw (forward_inside w r h)
    (by_eq (byte w r) (label w t)
    (λ e. rw (← e) (member_head (byte w r) [] ∙ sym (eq-eqb (byte w r) (byte w r) refl)))
    (λ n. member_other (label w t) (byte w r) [] n ∙ member_nil (label w t) ∙ sym (ne_eqb (label w t) (byte w r) (λ e. n (sym e)))))

pub drops_end : (w : List ℕ) (r t : ℕ) → length w ≤ r → drops w r t ≡ false
unfolding drops
drops_end w r t h = rw (forward_end w r h) (member_nil (label w t))

dropped_is_labelled : (w : List ℕ) (r : ℕ) → r < length w → (f : ℕ) (ts : List ℕ) → dropped w r f ts ≡ labelled w (byte w r) f ts
unfolding dropped labelled
dropped_is_labelled w r h f [] = refl
dropped_is_labelled w r h f (t ∷ ts) =
    rw (drops_inside w r t h) (dropped_is_labelled w r h (cond (eqb (label w t) (byte w r)) t f) ts)

border_labelled : (w : List ℕ) (r : ℕ) → r < length w → border_of w (suc r) ≡ labelled w (byte w r) 0 (targets_from r w r [])
border_labelled w r inside =
    largest_one (Border w (suc r)) r (border_of w (suc r)) (labelled w (byte w r) 0 (targets_from r w r []))
    (rw last at (longest_is w (suc r) (omega arith)))
    (largest_same (Led w r (byte w r)) (Border w (suc r)) r (labelled w (byte w r) 0 (targets_from r w r []))
    (λ y h u. record { below = omega arith; ends = rw more u })
    (λ y h a. rw more at a.ends)
    (labelled_largest w r (byte w r) (omega arith) r [] (omega arith) (member_nil (byte w r))))
  where
    last : suc r - 1 ≡ r
    last = omega arith

    more : take (suc r) w ≡ take r w ++ (byte w r ∷ [])
    more = unfold byte in take-suc w r 0 inside

pub dropped_is : (w : List ℕ) (r : ℕ) → 0 < r → r < length w → border_of w (suc r) ≡ dropped w r 0 (candidates w r)
dropped_is w r pos inside =
    border_labelled w r inside
    ∙ sym (dropped_is_labelled w r inside 0 (candidates w r) ∙ ap (labelled w (byte w r) 0) (candidates_are w r pos (omega arith)))

pub border_one : (w : List ℕ) → border_of w 1 ≡ 0
border_one w = let h : border_of w 1 ≤ 1 - 1 = (longest_is w 1 (omega arith)).bound in omega arith

-- COUNTS: the labels on the borders of a state, and its backward arrows
unfoldable pub labels : (w : List ℕ) → (r : ℕ) → ℕ
labels w r = length (targets_from r w r [])

pub labels_are : (w : List ℕ) (r : ℕ) → 0 < r → r ≤ length w → labels w r ≡ suc (arrows w (border_of w r))
unfolding labels
labels_are w r pos fits = ap length (sym (candidates_are w r pos fits)) ∙ unfold candidates in refl

pub labels_inside : (w : List ℕ) (r : ℕ) → r < length w → labels w r ≡ one_if (border_of w (suc r)) + arrows w r
unfolding labels back_targets
labels_inside w r h =
    rw (border_labelled w r h, forward_inside w r h, targets_unlabelled w r (byte w r ∷ []) r []) (labelled_counts w r (byte w r) r [])

pub labels_end : (w : List ℕ) (r : ℕ) → length w ≤ r → arrows w r ≡ labels w r
unfolding labels back_targets
labels_end w r h = rw (forward_end w r h)

pub arrows_at_most : (w : List ℕ) (r : ℕ) → arrows w r ≤ labels w r
arrows_at_most w r =
    by_le (suc r) (length w)
    (λ (h : r < length w). omega (arith, labels_inside w r h))
    (λ (h : length w < suc r). omega (arith, labels_end w r (omega arith)))
