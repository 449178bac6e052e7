-- The byte ceiling: a state has at most 1 + log2 m arrows, and at most as many as the code has different bytes. Assumes nothing.
use mathlib.Core.Path.{◌≡◌, refl, sym, ap, ◌∙◌}
use mathlib.Core.Bool.{Bool, true, false, ◌||◌, cond, true≢false, or-true}
use mathlib.Core.List.{List, [], ◌∷◌}
use mathlib.Core.Logic.{◌≢◌}
use Prim.Native.Nat.{ℕ, zero, suc, ◌+◌, ◌*◌, ◌-◌, ◌/◌, ◌^◌, ◌≤◌, ◌<◌}
use native.Mathlib.Omega.{arith}
use native.Mathlib.Nat.{le_trans, le_of_eq, two-pow-succ, le-min, min-le_right, zero-add, add-le-add}
use native.Mathlib.Numerals.{one-add}
use lib.Dec.{eqb}
use lib.ListN.{length, get_or, take}
use lib.Pow.{pow_mono}
use borrow.Author.Tests.{eq-eqb}
use Rattle.words.specs.Words.{byte, member, is_border}
use Rattle.words.proofs.Tests.{by_test, by_le, by_eq, never_both}
use Rattle.words.proofs.Lists.{member_nil, member_other}
use Rattle.words.proofs.Ends.{Ends, ends_whole, ends_within, ends_without}
use Rattle.words.proofs.Borders.{Border, border_is, border_test, overlap_border, overlap_label}
use Rattle.automaton.specs.declared.Step.{Step}
use Rattle.automaton.specs.Arrows.{targets_from, forward, back_targets, arrows, stepped}
use Rattle.automaton.specs.Ceilings.{log2, different, byte_ceiling}
use Rattle.automaton.specs.Promise.{ByteBelow}
use Rattle.automaton.proofs.Targets.{targets_none, targets_new, targets_old, forward_inside, forward_end, target_range}
use Rattle.automaton.proofs.Labels.{seen_one}
use Rattle.automaton.proofs.Steps.{forward_cases, stepped_cases}
use Rattle.automaton.proofs.Logarithm.{log2_exponent}

-- how many targets below b have labels that were not seen
unfoldable count : (w : List ℕ) → (p b : ℕ) → (seen : List ℕ) → ℕ
count w p b s = length (targets_from b w p s)

count_zero : (w : List ℕ) (p : ℕ) (s : List ℕ) → count w p 0 s ≡ 0
unfolding count
count_zero w p s = ap length (targets_none w p s)

-- by whether the highest border is listed
by_count : {G : Type 0} (w : List ℕ) (p b : ℕ) (s : List ℕ) →
    (Border w p b → member (byte w b) s ≡ false → count w p (suc b) s ≡ suc (count w p b (byte w b ∷ s)) → G) →
    (count w p (suc b) s ≡ count w p b s → G) → G
unfolding count
by_count w p b s new old =
    by_test (is_border w p b)
    (λ t.
    by_test (member (byte w b) s)
    (λ m. old (ap length (targets_old w p b s (λ a. m))))
    (λ m. new (border_is w p b t) m (ap length (targets_new w p b s t m))))
    (λ t. old (ap length (targets_old w p b s (λ a. absurd (never_both (border_test w p b a) t)))))

module _ (w : List ℕ) (p : ℕ) (fits : p ≤ length w) where
  -- to see the label of a border below b takes one away
  count_seen : (b : ℕ) (s : List ℕ) (y : ℕ) → b ≤ p → y < b → Border w p y → member (byte w b) s ≡ false → byte w y ≡ byte w b →
      count w p b s ≡ suc (count w p b (byte w b ∷ s))
  unfolding count
  count_seen b s y h lt a m e = seen_one w p (byte w b) fits b s h y lt a e m

  -- LOGARITHM. Below an end x of the first p bytes no label is new from half of x on: it stands on a lower border already
  module _ (x : ℕ) (under : x ≤ p) (ex : Ends (take p w) w x) where
    no_new : (b : ℕ) (s : List ℕ) → b < x → x ≤ b + b → count w p (suc b) s ≤ count w p b s
    no_new b s l near =
        by_count w p b s
        (λ a m e.
        let over : Border w x b = record { below = l; ends = ends_within (take p w) w x b ex (omega arith) a.ends } in
        let lower : Border w p (b + b - x) =
        record { below = omega arith; ends = ends_without (take p w) w b (b + b - x) a.ends (omega arith) (overlap_border w x b (omega arith) over near) } in
        omega (arith, count_seen b s (b + b - x) (omega arith) (omega arith) lower m (overlap_label w x b (omega arith) over near)))
        (λ e. omega arith)

    half : (h : ℕ) → x ≤ h + h → (b : ℕ) → h ≤ b → b ≤ x → (s : List ℕ) → count w p b s ≤ count w p h s
    half h u zero l k s = let e : 0 ≡ h = omega arith in le_of_eq (ap (λ n. count w p n s) e)
    half h u (suc b) l k s =
        by_le h b
        (λ (m : h ≤ b). le_trans (no_new b s k (omega arith)) (half h u b m (omega arith) s))
        (λ (m : b < h). let e : suc b ≡ h = omega arith in le_of_eq (ap (λ n. count w p n s) e))

  -- so one label more than those below an end x doubles what it needs
  one_more : (x : ℕ) (s : List ℕ) → x ≤ p → Ends (take p w) w x →
      ((h : ℕ) → 1 ≤ h → h ≤ x → 2 ^ count w p h s ≤ 2 * h) → 2 ^ suc (count w p x s) ≤ 2 * suc x
  one_more zero s u e ih = rw (count_zero w p s) (omega arith)
  one_more (suc x) s u e ih =
      let h = (suc x + 1) / 2 in
      let less : count w p (suc x) s ≤ count w p h s = half (suc x) u e h (omega arith) (suc x) (omega arith) (omega arith) s in
      omega (arith, two-pow-succ (count w p (suc x) s), pow_mono less, ih h (omega arith) (omega arith))

  -- k bounds b, for the halving
  pow_count : (k b : ℕ) → b ≤ k → 1 ≤ b → b ≤ p → (s : List ℕ) → 2 ^ count w p b s ≤ 2 * b
  pow_count zero b u l v s = absurd (omega arith)
  pow_count (suc k) zero u l v s = absurd (omega arith)
  pow_count (suc k) (suc b) u l v s =
      by_count w p b s
      (λ a m e. rw e (one_more b (byte w b ∷ s) (omega arith) a.ends (λ h x y. pow_count k h (omega arith) x (omega arith) (byte w b ∷ s))))
      (λ e.
      rw e
      (by_le 1 b
      (λ (h : 1 ≤ b). omega (arith, pow_count k b (omega arith) h (omega arith) s))
      (λ (h : b < 1). let z : b ≡ 0 = omega arith in rw (z, count_zero w p s) (omega arith))))

-- ALL ARROWS of a state: the forward one, if there is one, and the backward ones
all_arrows : (w : List ℕ) → (p : ℕ) → ℕ
all_arrows w p = length (forward w p) + arrows w p

-- a fact of them, inside the word and at its end
by_arrows : (w : List ℕ) (P : ℕ → Type 0) (p : ℕ) → p ≤ length w →
    (p < length w → P (suc (count w p p (byte w p ∷ [])))) → (p ≡ length w → P (count w p p [])) → P (all_arrows w p)
unfolding all_arrows back_targets count
by_arrows w P p fits inside end =
    by_le (suc p) (length w)
    (λ (h : p < length w). rw (forward_inside w p h) (rw one-add (inside h)))
    (λ (h : length w < suc p). rw (forward_end w p (omega arith)) (rw zero-add (end (omega arith))))

arrows_logarithm : (w : List ℕ) (p : ℕ) → p ≤ length w → all_arrows w p ≤ 1 + log2 (length w)
arrows_logarithm w p fits =
    by_arrows w (λ n. n ≤ 1 + log2 (length w)) p fits
    (λ h.
    log2_exponent (length w) (suc (count w p p (byte w p ∷ [])))
    (omega (arith, one_more w p fits p (byte w p ∷ []) (omega arith) (ends_whole w p fits) (λ k l u. pow_count w p fits p k u l u (byte w p ∷ [])))))
    (λ e.
    by_le 1 p
    (λ (l : 1 ≤ p). log2_exponent (length w) (count w p p []) (omega (arith, pow_count w p fits p p (omega arith) l (omega arith) [])))
    (λ (l : p < 1). let z : p ≡ 0 = omega arith in rw (z, count_zero w 0 []) (omega arith)))

-- DIFFERENT BYTES of w that are not in s
others : (w s : List ℕ) → ℕ
others [] s = 0
others (x ∷ xs) s = cond (member x xs || member x s) 0 1 + others xs s

others_all : (w : List ℕ) → others w [] ≡ different w
unfolding others different member
others_all [] = refl
others_all (x ∷ xs) = by_test (member x xs) (λ t. rw (t, others_all xs)) (λ t. rw (t, others_all xs))

head_fewer : (q r t : Bool) → cond {A = ℕ} (q || (r || t)) 0 1 ≤ cond {A = ℕ} (q || t) 0 1
head_fewer true r t = omega arith
head_fewer false true true = omega arith
head_fewer false true false = omega arith
head_fewer false false t = omega arith

others_fewer : (w s : List ℕ) (a : ℕ) → others w (a ∷ s) ≤ others w s
unfolding others member
others_fewer [] s a = omega arith
others_fewer (x ∷ xs) s a = add-le-add (head_fewer (member x xs) (eqb a x) (member x s)) (others_fewer xs s a)

-- at least one fewer, if it is one of them
others_seen : (w s : List ℕ) (a : ℕ) → member a w ≡ true → member a s ≡ false → suc (others w (a ∷ s)) ≤ others w s
unfolding others member
others_seen [] s a e f = absurd (true≢false (sym e))
others_seen (x ∷ xs) s a e f =
    by_test (member a xs)
    (λ g. omega (arith, others_seen xs s a g f, head_fewer (member x xs) (eqb a x) (member x s)))
    (λ g.
    by_eq x a
    (λ (d : x ≡ a). rw (d, g, f, eq-eqb a a refl) (omega (arith, others_fewer xs s a)))
    (λ (d : x ≢ a). absurd (never_both (sym (member_other a x xs d) ∙ e) g)))

byte_member : (w : List ℕ) (i : ℕ) → i < length w → member (byte w i) w ≡ true
unfolding byte member
byte_member [] i h = absurd (omega arith)
byte_member (x ∷ xs) zero h = rw (eq-eqb x x refl)
byte_member (x ∷ xs) (suc i) h = rw (byte_member xs i (omega arith)) (or-true (eqb x (get_or xs i 0)))

count_others : (w : List ℕ) (p b : ℕ) (s : List ℕ) → b ≤ length w → count w p b s ≤ others w s
count_others w p zero s u = rw (count_zero w p s) (omega arith)
count_others w p (suc b) s u =
    by_count w p b s
    (λ a m e. omega (arith, count_others w p b (byte w b ∷ s) (omega arith), others_seen w s (byte w b) (byte_member w b u) m))
    (λ e. omega (arith, count_others w p b s (omega arith)))

arrows_different : (w : List ℕ) (p : ℕ) → p ≤ length w → all_arrows w p ≤ different w
arrows_different w p fits =
    by_arrows w (λ n. n ≤ different w) p fits
    (λ h.
    omega (
      arith,
      count_others w p p (byte w p ∷ []) fits,
      others_seen w [] (byte w p) (byte_member w p h) (member_nil (byte w p)),
      others_all w,
    ))
    (λ e. omega (arith, count_others w p p [] fits, others_all w))

-- THE COST is at most one comparison for each arrow
cost_arrows : (w : List ℕ) (p c : ℕ) → (stepped w p c).cost ≤ all_arrows w p
unfolding all_arrows
cost_arrows w p c =
    let Q : Step → Type 0 = λ s. s.cost ≤ length (forward w p) + arrows w p in
    stepped_cases Q (λ t. (1 ≤ t) × (t ≤ p)) w p c (target_range w p)
    (λ t j h l. omega arith)
    (forward_cases (arrows w p) w p c Q
    (λ h e. rw (forward_inside w p h) (omega arith))
    (λ h. rw (forward_inside w p h) (omega arith))
    (λ h. omega arith))

pub byte_below : ByteBelow
unfolding ByteBelow byte_ceiling
byte_below w p c fits =
    let cost = cost_arrows w p c in
    le-min (le_trans cost (arrows_logarithm w p fits)) (le_trans cost (arrows_different w p fits))

-- it is no more than the code's length
different_few : (w : List ℕ) → different w ≤ length w
unfolding different
different_few [] = omega arith
different_few (x ∷ xs) = by_test (member x xs) (λ t. rw t (omega (arith, different_few xs))) (λ t. rw t (omega (arith, different_few xs)))

pub ceiling_length : (w : List ℕ) → byte_ceiling w ≤ length w
unfolding byte_ceiling
ceiling_length w = le_trans (min-le_right (1 + log2 (length w)) (different w)) (different_few w)
