-- Labels: seeing one more takes out the target with that label, and the target with a label is the longest start that a byte leads to. Assumes nothing.
use mathlib.Core.Path.{◌≡◌, refl, sym, ap, ◌∙◌}
use mathlib.Core.Bool.{Bool, true, false, ◌||◌, cond, or_assoc, or_comm}
use mathlib.Core.Logic.{◌≢◌}
use mathlib.Core.List.{List, [], ◌∷◌, ◌++◌}
use Prim.Native.Nat.{ℕ, zero, suc, ◌+◌, ◌≤◌, ◌<◌}
use native.Mathlib.Omega.{arith}
use lib.Dec.{eqb}
use lib.ListN.{length, take}
use borrow.Author.Tests.{eqb-true, eq-eqb, ne_eqb}
use Rattle.words.specs.Words.{byte, member, Every}
use Rattle.words.proofs.Tests.{by_test, by_eq, never_both}
use Rattle.words.proofs.Lists.{member_nil, member_head, member_other, member_append, member_fewer, every_map}
use Rattle.words.proofs.Ends.{Ends, ends_zero, ends_longer, ends_shorter, ends_label}
use Rattle.words.proofs.Largest.{Largest, largest_wider}
use Rattle.words.proofs.Borders.{Border, border_test}
use Rattle.automaton.specs.Arrows.{label, targets_from}
use Rattle.automaton.proofs.Targets.{label_suc, targets_none, targets_new, targets_old, targets_ind, every_target, targets_members}

-- of some targets those with a label that is not in ls
unfoldable pub unlabelled : (w ls ts : List ℕ) → List ℕ
unlabelled w ls [] = []
unlabelled w ls (t ∷ ts) = cond (member (label w t) ls) (unlabelled w ls ts) (t ∷ unlabelled w ls ts)

-- the last with the label a, else f
unfoldable pub labelled : (w : List ℕ) → (a f : ℕ) → (ts : List ℕ) → ℕ
labelled w a f [] = f
labelled w a f (t ∷ ts) = labelled w a (cond (eqb (label w t) a) t f) ts

pub unlabelled_nil : (w ls : List ℕ) → unlabelled w ls [] ≡ []
unfolding unlabelled
unlabelled_nil w ls = refl

pub labelled_nil : (w : List ℕ) (a f : ℕ) → labelled w a f [] ≡ f
unfolding labelled
labelled_nil w a f = refl

-- TARGETS WITHOUT a label: nothing is taken out, and nothing is found
abbrev pub Lacks : (w : List ℕ) → (a : ℕ) → (ts : List ℕ) → Type 0
Lacks w a ts = Every (λ t. label w t ≢ a) ts

-- after a label was seen
pub seen_lacks : (w : List ℕ) (p b a : ℕ) (ls : List ℕ) → Lacks w a (targets_from b w p (a ∷ ls))
seen_lacks w p b a ls =
    every_map (targets_from b w p (a ∷ ls))
    (λ t u e.
    (member_fewer (byte w u.source) a ls u.fresh).0
    (sym e ∙ ap (label w) u.is ∙ label_suc w u.source))
    (every_target w p b (a ∷ ls))

pub lacks_all : (w : List ℕ) (a : ℕ) (ts : List ℕ) → Lacks w a ts → unlabelled w (a ∷ []) ts ≡ ts
unfolding unlabelled member
lacks_all w a [] all = refl
lacks_all w a (t ∷ ts) all =
    rw (ne_eqb a (label w t) (λ e. all.0 (sym e))) (ap (λ (us : List ℕ). t ∷ us) (lacks_all w a ts all.1))

pub lacks_none : (w : List ℕ) (a f : ℕ) (ts : List ℕ) → Lacks w a ts → labelled w a f ts ≡ f
unfolding labelled
lacks_none w a f [] all = refl
lacks_none w a f (t ∷ ts) all = rw (ne_eqb (label w t) a all.0) (lacks_none w a f ts all.1)

-- the first target has the label, or has not
module _ (w : List ℕ) (a f b : ℕ) (ts : List ℕ) where
  pub labelled_on : byte w b ≡ a → labelled w a f (suc b ∷ ts) ≡ labelled w a (suc b) ts
  unfolding labelled
  labelled_on e = rw (eq-eqb (label w (suc b)) a (label_suc w b ∙ e))

  pub labelled_off : byte w b ≢ a → labelled w a f (suc b ∷ ts) ≡ labelled w a f ts
  unfolding labelled
  labelled_off n = rw (ne_eqb (label w (suc b)) a (λ e. n (sym (label_suc w b) ∙ e)))

module _ (w : List ℕ) (ls : List ℕ) (b : ℕ) (ts : List ℕ) where
  pub unlabelled_on : member (byte w b) ls ≡ true → unlabelled w ls (suc b ∷ ts) ≡ unlabelled w ls ts
  unfolding unlabelled
  unlabelled_on e = rw (label_suc w b, e)

  pub unlabelled_off : member (byte w b) ls ≡ false → unlabelled w ls (suc b ∷ ts) ≡ suc b ∷ unlabelled w ls ts
  unfolding unlabelled
  unlabelled_off e = rw (label_suc w b, e)

-- MORE LABELS SEEN take out the targets with those labels, and no others
module _ (w : List ℕ) (p : ℕ) (ls : List ℕ) where
  member_mid : (x a : ℕ) (ms : List ℕ) → member x (ls ++ (a ∷ ms)) ≡ member x (a ∷ (ls ++ ms))
  unfolding member
  member_mid x a ms =
      rw (member_append x ls (a ∷ ms), member_append x ls ms)
      (sym (or_assoc (member x ls) (eqb a x) (member x ms))
      ∙ ap (λ (t : Bool). t || member x ms) (or_comm (member x ls) (eqb a x))
      ∙ or_assoc (eqb a x) (member x ls) (member x ms))

  member_again : (x a : ℕ) (ms : List ℕ) → member a (ls ++ ms) ≡ true → member x (a ∷ (ls ++ ms)) ≡ member x (ls ++ ms)
  unfolding member
  member_again x a ms e = by_test (eqb a x) (λ t. rw t (sym (rw (eqb-true a x t) at e))) (λ t. rw t)

  pub targets_unlabelled : (b : ℕ) (ms : List ℕ) → targets_from b w p (ls ++ ms) ≡ unlabelled w ls (targets_from b w p ms)
  targets_unlabelled =
      targets_ind w p (λ b ms ts. targets_from b w p (ls ++ ms) ≡ unlabelled w ls ts)
      (λ ms. targets_none w p (ls ++ ms) ∙ sym (unlabelled_nil w ls))
      (λ b ms a f ih.
      let us = targets_from b w p (byte w b ∷ ms) in
      let mid : targets_from b w p (byte w b ∷ (ls ++ ms)) ≡ unlabelled w ls us =
      targets_members b w p (byte w b ∷ (ls ++ ms)) (ls ++ (byte w b ∷ ms)) (λ x. sym (member_mid x (byte w b) ms)) ∙ ih in
      by_test (member (byte w b) ls)
      (λ t.
      let both : member (byte w b) (ls ++ ms) ≡ true = member_append (byte w b) ls ms ∙ rw t in
      targets_old w p b (ls ++ ms) (λ c. both)
      ∙ targets_members b w p (ls ++ ms) (byte w b ∷ (ls ++ ms)) (λ x. sym (member_again x (byte w b) ms both))
      ∙ mid
      ∙ sym (unlabelled_on w ls b us t))
      (λ t.
      targets_new w p b (ls ++ ms) (border_test w p b a) (member_append (byte w b) ls ms ∙ rw (t, f))
      ∙ ap (λ (vs : List ℕ). suc b ∷ vs) mid
      ∙ sym (unlabelled_off w ls b us t)))
      (λ b ms f ih. targets_old w p b (ls ++ ms) (λ a. member_append (byte w b) ls ms ∙ later (member (byte w b) ls) (member (byte w b) ms) (f a)) ∙ ih)
    where
      later : (x y : Bool) → y ≡ true → x || y ≡ true
      later true y e = refl
      later false y e = e

-- COUNT: without a label there is one less, if there is one with it
abbrev pub one_if : ℕ → ℕ
one_if zero = 0
one_if (suc n) = 1

pub labelled_counts : (w : List ℕ) (p a b : ℕ) (ls : List ℕ) →
    length (targets_from b w p ls) ≡ one_if (labelled w a 0 (targets_from b w p ls)) + length (unlabelled w (a ∷ []) (targets_from b w p ls))
labelled_counts w p a =
    targets_ind w p (λ b ls ts. length ts ≡ one_if (labelled w a 0 ts) + length (unlabelled w (a ∷ []) ts))
    (λ ls. rw (labelled_nil w a 0, unlabelled_nil w (a ∷ [])) refl)
    (λ b ls c f ih.
    let us = targets_from b w p (byte w b ∷ ls) in
    by_eq (byte w b) a
    (λ (e : byte w b ≡ a).
    let lacks : Lacks w a us = rw e (seen_lacks w p b a ls) in
    rw (labelled_on w a 0 b us e, lacks_none w a (suc b) us lacks, unlabelled_on w (a ∷ []) b us (rw e (member_head a [])), lacks_all w a us lacks)
    (omega arith))
    (λ (n : byte w b ≢ a).
    rw (labelled_off w a 0 b us n, unlabelled_off w (a ∷ []) b us (member_other (byte w b) a [] (λ e. n (sym e)) ∙ member_nil (byte w b)))
    (omega arith)))
    (λ b ls f ih. ih)

-- THE TARGET WITH A LABEL that was not seen is the longest start, up to the bound, that the first p bytes followed by the label end with
abbrev pub Led : (w : List ℕ) → (p a : ℕ) → ℕ → Type 0
Led w p a q = Ends (take p w ++ (a ∷ [])) w q

pub labelled_largest : (w : List ℕ) (p a : ℕ) → p ≤ length w → (b : ℕ) (ls : List ℕ) → b ≤ p → member a ls ≡ false →
    Largest (Led w p a) b (labelled w a 0 (targets_from b w p ls))
labelled_largest w p a fits =
    targets_ind w p (λ b ls ts. b ≤ p → member a ls ≡ false → Largest (Led w p a) b (labelled w a 0 ts))
    (λ ls h m.
    rw (labelled_nil w a 0)
    (record { bound = omega arith; holds = ends_zero (take p w ++ (a ∷ [])) w; none = λ y lo hi u. absurd (omega arith) }))
    (λ b ls c f ih h m.
    let us = targets_from b w p (byte w b ∷ ls) in
    by_eq (byte w b) a
    (λ (e : byte w b ≡ a).
    rw (labelled_on w a 0 b us e, lacks_none w a (suc b) us (rw e (seen_lacks w p b a ls)))
    (record {
      bound = omega arith;
      holds = ends_longer (take p w) w a b c.ends (omega arith) e;
      none = λ y lo hi u. absurd (omega arith);
    }))
    (λ (n : byte w b ≢ a).
    rw (labelled_off w a 0 b us n)
    (largest_wider (Led w p a) b (suc b) (labelled w a 0 us) (omega arith)
    (λ y lo hi u. let at : y ≡ suc b = omega arith in n (ends_label (take p w) w a b (rw at at u)))
    (ih (omega arith) (member_other a (byte w b) ls n ∙ m)))))
    (λ b ls f ih h m.
    largest_wider (Led w p a) b (suc b) (labelled w a 0 (targets_from b w p ls)) (omega arith)
    (λ y lo hi u.
    let at : y ≡ suc b = omega arith in
    let v : Led w p a (suc b) = rw at at u in
    let border : Border w p b = record { below = h; ends = ends_shorter (take p w) w a b v } in
    never_both (rw (ends_label (take p w) w a b v) at (f border)) m)
    (ih (omega arith) m))

-- so to see the label of a border takes one target out
pub seen_one : (w : List ℕ) (p a : ℕ) → p ≤ length w → (b : ℕ) (ls : List ℕ) → b ≤ p → (y : ℕ) → y < b → Border w p y → byte w y ≡ a →
    member a ls ≡ false →
    length (targets_from b w p ls) ≡ suc (length (targets_from b w p (a ∷ ls)))
seen_one w p a fits b ls h y lt border e m =
    omega (
      arith,
      labelled_counts w p a b ls,
      ap length (targets_unlabelled w p (a ∷ []) b ls),
      some (labelled w a 0 (targets_from b w p ls)) (labelled_largest w p a fits b ls h m),
    )
  where
    some : (q : ℕ) → Largest (Led w p a) b q → one_if q ≡ 1
    some zero u = absurd (u.none (suc y) (omega arith) (omega arith) (ends_longer (take p w) w a y border.ends (omega arith) e))
    some (suc q) u = refl
