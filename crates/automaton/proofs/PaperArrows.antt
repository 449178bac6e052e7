-- The steps are the paper's: each leads to the longest start that the bytes read end with, and the listed targets are the backward arrows. Assumes nothing.
use mathlib.Core.Path.{◌≡◌, refl, sym, ap, ◌∙◌}
use mathlib.Core.Bool.{true, false}
use mathlib.Core.Logic.{◌≢◌}
use mathlib.Core.List.{List, [], ◌∷◌, ◌++◌}
use Prim.Native.Nat.{ℕ, zero, suc, ◌+◌, ◌≤◌, ◌<◌}
use native.Mathlib.Omega.{arith}
use lib.ListN.{length, take}
use lib.Seq.{length-take-le}
use borrow.Author.Tests.{eq-eqb, ne_eqb}
use Rattle.words.specs.Words.{byte, member, state_of}
use Rattle.words.proofs.Tests.{by_le, by_eq, never_both}
use Rattle.words.proofs.Lists.{member_nil, member_other, member_fewer, every_member, every_self, length_snoc}
use Rattle.words.proofs.Ends.{Ends, ends_start, ends_whole, ends_longer, ends_label, ends_inside, ends_within, ends_without, ends_snoc}
use Rattle.words.proofs.Largest.{Largest, largest_one, largest_same, largest_wider, state_is}
use Rattle.automaton.specs.declared.Step.{Step}
use Rattle.automaton.specs.declared.Arrow.TheVariants.{Forward}
use Rattle.automaton.specs.Arrows.{label, targets_from, forward, back_targets, arrows, step, try_forward, try_back, stepped, arrow_to}
use Rattle.automaton.specs.Promise.{leads_to, StepsRight, StateNext, BackArrow, TargetsRight, TargetsFall}
use Rattle.automaton.proofs.Targets.{label_suc, targets_ind, Target, targets_from_fall, forward_inside, forward_end, back_range, target_range}
use Rattle.automaton.proofs.Labels.{labelled, Lacks, Led, seen_lacks, lacks_none, labelled_nil, labelled_on, labelled_off, labelled_largest}
use Rattle.automaton.proofs.Steps.{back_on, back_off, back_nil, forward_on, forward_zero, forward_cases, stepped_cases}

-- where no target has the label, the forward arrow is tried; else the step leads to the target with the label
back_none : (w : List ℕ) (p c b : ℕ) (ls : List ℕ) → labelled w c 0 (targets_from b w p ls) ≡ 0 → (k : ℕ) →
    try_back (targets_from b w p ls) k w p c ≡ try_forward (k + length (targets_from b w p ls)) w p c
back_none w p c =
    targets_ind w p (λ b ls ts. labelled w c 0 ts ≡ 0 → (k : ℕ) → try_back ts k w p c ≡ try_forward (k + length ts) w p c)
    (λ ls e k. let at : k + 0 ≡ k = omega arith in rw at (back_nil k w p c))
    (λ b ls a f ih e k.
    let us = targets_from b w p (byte w b ∷ ls) in
    by_eq (byte w b) c
    (λ (q : byte w b ≡ c).
    let found : labelled w c 0 (suc b ∷ us) ≡ suc b = labelled_on w c 0 b us q ∙ lacks_none w c (suc b) us (rw q (seen_lacks w p b c ls)) in
    absurd (omega (arith, found, e)))
    (λ (n : byte w b ≢ c).
    let at : k + suc (length us) ≡ suc k + length us = omega arith in
    rw at (back_off (suc b) us k w p c (λ q. n (sym (label_suc w b) ∙ q)) ∙ ih (sym (labelled_off w c 0 b us n) ∙ e) (suc k))))
    (λ b ls f ih. ih)

back_some : (w : List ℕ) (p c b : ℕ) (ls : List ℕ) (q : ℕ) → labelled w c 0 (targets_from b w p ls) ≡ suc q → (k : ℕ) →
    (try_back (targets_from b w p ls) k w p c).state ≡ suc q
back_some w p c =
    targets_ind w p (λ b ls ts. (q : ℕ) → labelled w c 0 ts ≡ suc q → (k : ℕ) → (try_back ts k w p c).state ≡ suc q)
    (λ ls q e k. absurd (omega (arith, labelled_nil w c 0, e)))
    (λ b ls a f ih q e k.
    let us = targets_from b w p (byte w b ∷ ls) in
    by_eq (byte w b) c
    (λ (h : byte w b ≡ c).
    let found : labelled w c 0 (suc b ∷ us) ≡ suc b = labelled_on w c 0 b us h ∙ lacks_none w c (suc b) us (rw h (seen_lacks w p b c ls)) in
    ap (λ (s : Step). s.state) (back_on (suc b) us k w p c (label_suc w b ∙ h)) ∙ sym found ∙ e)
    (λ (n : byte w b ≢ c).
    ap (λ (s : Step). s.state) (back_off (suc b) us k w p c (λ h. n (sym (label_suc w b) ∙ h))) ∙ ih q (sym (labelled_off w c 0 b us n) ∙ e) (suc k)))
    (λ b ls f ih. ih)

-- A STEP on the forward label, after all backward ones
pub step_forward : (w : List ℕ) (p c : ℕ) → p < length w → byte w p ≡ c → stepped w p c ≡ step (suc p) (suc (arrows w p)) Forward
unfolding stepped back_targets
step_forward w p c h e =
    let none : 0 + length (targets_from p w p (forward w p)) ≡ length (targets_from p w p (forward w p)) = omega arith in
    let lacks : Lacks w c (targets_from p w p (forward w p)) = rw (forward_inside w p h, e) (seen_lacks w p p c []) in
    back_none w p c p (forward w p) (lacks_none w c 0 (targets_from p w p (forward w p)) lacks) 0
    ∙ rw none (forward_on (length (targets_from p w p (forward w p))) w p c h e)

-- and on any other byte: to the target with that label, else to 0
step_other : (w : List ℕ) (p c : ℕ) → (p < length w → byte w p ≢ c) → (stepped w p c).state ≡ labelled w c 0 (back_targets w p)
unfolding stepped back_targets
step_other w p c f = go (labelled w c 0 (targets_from p w p (forward w p))) refl
  where
    go : (q : ℕ) → labelled w c 0 (targets_from p w p (forward w p)) ≡ q → (try_back (targets_from p w p (forward w p)) 0 w p c).state ≡ q
    go zero e =
        ap (λ (s : Step). s.state) (back_none w p c p (forward w p) e 0)
        ∙ forward_zero (0 + length (targets_from p w p (forward w p))) w p c f
    go (suc q) e = back_some w p c p (forward w p) q e 0

forward_unseen : (w : List ℕ) (p c : ℕ) → (p < length w → byte w p ≢ c) → member c (forward w p) ≡ false
forward_unseen w p c f =
    by_le (suc p) (length w)
    (λ (h : p < length w). rw (forward_inside w p h) (member_other c (byte w p) [] (f h) ∙ member_nil c))
    (λ (h : length w < suc p). rw (forward_end w p (omega arith)) (member_nil c))

-- so it leads to the longest start that the first p bytes followed by c end with
pub step_largest : (w : List ℕ) (p c : ℕ) → p ≤ length w → Largest (Led w p c) (length w) (stepped w p c).state
step_largest w p c fits =
    by_le (suc p) (length w)
    (λ (h : p < length w).
    by_eq (byte w p) c
    (λ (e : byte w p ≡ c).
    rw (step_forward w p c h e)
    (record {
      bound = h;
      holds = ends_longer (take p w) w c p (ends_whole w p fits) h e;
      none = λ y lo hi u. absurd (omega (arith, u.fits, size));
    }))
    (λ (n : byte w p ≢ c). other (λ l. n)))
    (λ (h : length w < suc p). other (λ l. absurd (omega arith)))
  where
    size : length (take p w ++ (c ∷ [])) ≡ suc p
    size = length_snoc (take p w) c ∙ ap suc (length-take-le p w fits)

    other : (p < length w → byte w p ≢ c) → Largest (Led w p c) (length w) (stepped w p c).state
    other f =
        rw (step_other w p c f)
        (largest_wider (Led w p c) p (length w) (labelled w c 0 (back_targets w p)) fits
        (λ y lo hi u.
        let at : y ≡ suc p = omega (arith, u.fits, size) in
        let v : Led w p c (suc p) = rw at at u in
        f (ends_inside (take p w) w c p v) (ends_label (take p w) w c p v))
        (unfold back_targets in labelled_largest w p c fits p (forward w p) (omega arith) (forward_unseen w p c f)))

-- THE STEP THEOREM: what the first p bytes end with, p the state of a text, the text ends with too, also with one byte more
pub state_next : StateNext
unfolding StateNext
state_next w ts c =
    let s = state_is w ts in
    let p = state_of w ts in
    let size : length (take p w) ≡ p = length-take-le p w s.bound in
    largest_one (Ends (ts ++ (c ∷ [])) w) (length w) (stepped w p c).state (state_of w (ts ++ (c ∷ [])))
    (largest_same (Led w p c) (Ends (ts ++ (c ∷ [])) w) (length w) (stepped w p c).state
    (λ y h u. ends_snoc (take p w) ts w c (λ x v. ends_without ts w p x s.holds (omega (arith, v.fits)) v) y u)
    (λ y h u.
    ends_snoc ts (take p w) w c
    (λ x v.
    by_le x p
    (λ (l : x ≤ p). ends_within ts w p x s.holds l v)
    (λ (l : p < x). absurd (s.none x l (ends_start ts w x v) v)))
    y u)
    (step_largest w p c s.bound))
    (state_is w (ts ++ (c ∷ [])))

-- THE PROMISES
step_kind : (w : List ℕ) (p c : ℕ) → (stepped w p c).arrow ≡ arrow_to p (stepped w p c).state
unfolding arrow_to
step_kind w p c =
    let Q : Step → Type 0 = λ s. s.arrow ≡ arrow_to p s.state in
    stepped_cases Q (Target w p p (forward w p)) w p c (back_range w p)
    (λ t j u l. rw u.is (rw (ne_eqb u.source p (λ e. let h : u.source < p = u.under in omega arith)) refl))
    (forward_cases (arrows w p) w p c Q (λ l e. rw (eq-eqb p p refl) refl) (λ l. refl) (λ l. refl))

step_leads : (w : List ℕ) (p c : ℕ) → p ≤ length w → (stepped w p c).state ≡ leads_to w p c
unfolding leads_to
step_leads w p c fits =
    largest_one (Led w p c) (length w) (stepped w p c).state (state_of w (take p w ++ (c ∷ [])))
    (step_largest w p c fits) (state_is w (take p w ++ (c ∷ [])))

pub steps_right : StepsRight
unfolding StepsRight
steps_right w p c fits = (step_leads w p c fits, step_kind w p c)

-- a listed target is found by its own label, since no other listed target has it
found_by_label : (w : List ℕ) (p b : ℕ) (ls : List ℕ) (t : ℕ) → member t (targets_from b w p ls) ≡ true →
    labelled w (label w t) 0 (targets_from b w p ls) ≡ t
found_by_label w p =
    targets_ind w p (λ b ls ts. (t : ℕ) → member t ts ≡ true → labelled w (label w t) 0 ts ≡ t)
    (λ ls t m. absurd (never_both m (member_nil t)))
    (λ b ls a f ih t m.
    let us = targets_from b w p (byte w b ∷ ls) in
    let lacks : Lacks w (byte w b) us = seen_lacks w p b (byte w b) ls in
    by_eq (suc b) t
    (λ (e : suc b ≡ t).
    rw (← e, label_suc w b) (labelled_on w (byte w b) 0 b us refl ∙ lacks_none w (byte w b) (suc b) us lacks))
    (λ (n : suc b ≢ t).
    let later : member t us ≡ true = sym (member_other t (suc b) us n) ∙ m in
    let other : label w t ≢ byte w b = every_member (λ u. label w u ≢ byte w b) us lacks t later in
    labelled_off w (label w t) 0 b us (λ e. other (sym e)) ∙ ih t later))
    (λ b ls f ih. ih)

-- nor has the forward arrow
not_forward : (w : List ℕ) (p t : ℕ) → Target w p p (forward w p) t → p < length w → byte w p ≢ label w t
not_forward w p t u h e =
    let name : label w t ≡ byte w u.source = ap (label w) u.is ∙ label_suc w u.source in
    let fresh : member (byte w u.source) (byte w p ∷ []) ≡ false = rw (← forward_inside w p h) u.fresh in
    (member_fewer (byte w u.source) (byte w p) [] fresh).0 (e ∙ name)

listed_leads : (w : List ℕ) (p t : ℕ) → p ≤ length w → member t (back_targets w p) ≡ true → leads_to w p (label w t) ≡ t
listed_leads w p t fits m =
    let u = every_member (Target w p p (forward w p)) (back_targets w p) (back_range w p) t m in
    sym (step_leads w p (label w t) fits)
    ∙ step_other w p (label w t) (not_forward w p t u)
    ∙ unfold back_targets in found_by_label w p p (forward w p) t m

leads_listed : (w : List ℕ) (p t : ℕ) → p ≤ length w → BackArrow w p t → member t (back_targets w p) ≡ true
leads_listed w p t fits u =
    let some : 1 ≤ t = u.some in
    let back : t ≤ p = u.back in
    let Q : Step → Type 0 = λ s. s.state ≡ t → member t (back_targets w p) ≡ true in
    stepped_cases Q (λ x. member x (back_targets w p) ≡ true) w p u.byte (every_self (back_targets w p))
    (λ x j m l e. rw e at m)
    (forward_cases (arrows w p) w p u.byte Q (λ l h e. absurd (omega arith)) (λ l e. absurd (omega arith)) (λ l e. absurd (omega arith)))
    (step_leads w p u.byte fits ∙ u.leads)

pub targets_right : TargetsRight
unfolding TargetsRight
targets_right w p t fits = (
  λ m.
      let range = every_member (λ x. (1 ≤ x) × (x ≤ p)) (back_targets w p) (target_range w p) t m in
      record { byte = label w t; leads = listed_leads w p t fits m; some = range.0; back = range.1 },
  leads_listed w p t fits,
)

pub targets_fall : TargetsFall
unfolding TargetsFall back_targets
targets_fall w p = targets_from_fall w p p (forward w p)
