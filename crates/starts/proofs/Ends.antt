-- The longest end of a text that passes a test: what it is, where it stays the same, and one byte more. Then the longest start that a text ends with and the
-- failure links: steps by one byte. Assumes nothing.
use mathlib.Core.Path.{◌≡◌, refl, sym, ap, ◌∙◌}
use mathlib.Core.Bool.{Bool, true, false}
use mathlib.Core.List.{List, [], ◌∷◌, ◌++◌}
use Prim.Native.Nat.{ℕ, zero, suc, ◌-◌, ◌≤◌, ◌<◌}
use native.Mathlib.Omega.{arith}
use lib.ListN.{length, drop}
use Rattle.words.specs.Words.{suffix, largest}
use Rattle.words.proofs.Tests.{never_both, fails}
use Rattle.words.proofs.Lists.{length_snoc, length_suffix, suffix_none, suffix_whole, suffix_suffix, suffix_snoc}
use Rattle.words.proofs.Largest.{largest_passing, largest_whole, largest_cut, largest_agree}
use Rattle.starts.specs.Starts.{known, longest_end, reached, fallback}
use Rattle.starts.proofs.States.{known_nil, known_front}

-- THE LONGEST END: v is one of the ends of ts of at most n bytes, passes if it is not empty, and no longer one passes
pub record Longest (t : List ℕ → Bool) (n : ℕ) (ts v : List ℕ) : Type 0 where
  pub bound : length v ≤ n
  pub is_end : suffix (length v) ts ≡ v
  pub holds : 0 < length v → t v ≡ true
  pub none : (r : ℕ) → length v < r → r ≤ n → t (suffix r ts) ≡ false

module _ (t : List ℕ → Bool) where
  pub longest_is : (n : ℕ) (ts : List ℕ) → n ≤ length ts → Longest t n ts (longest_end t n ts)
  unfolding longest_end
  longest_is n ts h =
      let q = largest (λ k. t (suffix k ts)) n in
      let u = largest_passing (λ k. t (suffix k ts)) n in
      let l : length (suffix q ts) ≡ q = length_suffix q ts (omega (arith, u.bound)) in
      record {
        bound = omega (arith, u.bound);
        is_end = rw l;
        holds = λ x. u.holds (omega arith);
        none = λ r x y. fails (t (suffix r ts)) (λ e. u.none r (omega arith) y (λ h. e));
      }

  -- it is the whole end of n bytes if that passes; none between a and b counts if none passes; an end of the text tells as much
  pub longest_whole : (n : ℕ) (ts : List ℕ) → t (suffix n ts) ≡ true → longest_end t n ts ≡ suffix n ts
  unfolding longest_end
  longest_whole n ts e = rw (largest_whole (λ k. t (suffix k ts)) n e)

  pub longest_cut : (a b : ℕ) (ts : List ℕ) → a ≤ b → ((r : ℕ) → a < r → r ≤ b → t (suffix r ts) ≡ false) → longest_end t b ts ≡ longest_end t a ts
  unfolding longest_end
  longest_cut a b ts h f = rw (largest_cut (λ k. t (suffix k ts)) a b h f)

  pub longest_inner : (n m : ℕ) (ts : List ℕ) → n ≤ m → m ≤ length ts → longest_end t n (suffix m ts) ≡ longest_end t n ts
  unfolding longest_end
  longest_inner n m ts h l =
      let u = largest_passing (λ k. t (suffix k ts)) n in
      let e = largest_agree (λ k. t (suffix k (suffix m ts))) (λ k. t (suffix k ts)) n (λ r x. ap t (suffix_suffix r m ts (omega arith) l)) in
      rw e (suffix_suffix (largest (λ k. t (suffix k ts)) n) m ts (omega (arith, u.bound)) l)

  -- of no byte; of a whole word; of a word that does not pass itself; and it passes, if the empty word does
  pub longest_none : (ts : List ℕ) → longest_end t 0 ts ≡ []
  unfolding longest_end largest
  longest_none ts = suffix_none ts

  pub longest_self : (u : List ℕ) → t u ≡ true → longest_end t (length u) u ≡ u
  longest_self u e =
      let a : suffix (length u) u ≡ u = suffix_whole (length u) u refl in
      longest_whole (length u) u (rw a e) ∙ a

  pub longest_less : (u : List ℕ) → t u ≡ false → longest_end t (length u) u ≡ longest_end t (length u - 1) u
  longest_less u e = longest_cut (length u - 1) (length u) u (omega arith) (λ r x y. rw (suffix_whole r u (omega arith)) e)

  pub longest_passes : (n : ℕ) (ts : List ℕ) → n ≤ length ts → t [] ≡ true → t (longest_end t n ts) ≡ true
  longest_passes n ts h nil = go (longest_end t n ts) (longest_is n ts h).holds
    where
      go : (v : List ℕ) → (0 < length v → t v ≡ true) → t v ≡ true
      go [] f = nil
      go (b ∷ v) f = f (omega arith)

-- TWO TESTS: where what passes t passes s too, the longest end for t is one of the longest end for s
pub longest_both : (s t : List ℕ → Bool) (n : ℕ) (ts : List ℕ) → n ≤ length ts → ((u : List ℕ) → length u ≤ n → t u ≡ true → s u ≡ true) →
    longest_end t n ts ≡ longest_end t (length (longest_end s n ts)) (longest_end s n ts)
longest_both s t n ts h f = go (longest_end s n ts) (longest_is s n ts h)
  where
    go : (v : List ℕ) → Longest s n ts v → longest_end t n ts ≡ longest_end t (length v) v
    go v u =
        let b = u.bound in
        longest_cut t (length v) n ts b
        (λ r x y. fails (t (suffix r ts))
        (λ e. never_both (f (suffix r ts) (omega (arith, length_suffix r ts (omega arith))) e) (u.none r x y)))
        ∙ sym (longest_inner t (length v) (length v) ts (omega arith) (omega arith))
        ∙ ap (longest_end t (length v)) u.is_end

-- ONE BYTE MORE: where a start of each word that passes passes too, only the longest end counts for what one byte more can make
pub one_more : (s : List ℕ → Bool) → ((u : List ℕ) (c : ℕ) → s (u ++ (c ∷ [])) ≡ true → s u ≡ true) → (n : ℕ) (ts : List ℕ) (c : ℕ) → n ≤ length ts →
    longest_end s (suc n) (ts ++ (c ∷ [])) ≡ longest_end s (length (longest_end s n ts ++ (c ∷ []))) (longest_end s n ts ++ (c ∷ []))
one_more s front n ts c h = go (longest_end s n ts) (longest_is s n ts h)
  where
    go : (v : List ℕ) → Longest s n ts v → longest_end s (suc n) (ts ++ (c ∷ [])) ≡ longest_end s (length (v ++ (c ∷ []))) (v ++ (c ∷ []))
    go v u =
        let b = u.bound in
        let e : suffix (suc (length v)) (ts ++ (c ∷ [])) ≡ v ++ (c ∷ []) = suffix_snoc (length v) ts c (omega arith) ∙ ap (λ x. x ++ (c ∷ [])) u.is_end in
        rw (length_snoc v c)
        (longest_cut s (suc (length v)) (suc n) (ts ++ (c ∷ [])) (omega arith) none
        ∙ sym (longest_inner s (suc (length v)) (suc (length v)) (ts ++ (c ∷ [])) (omega arith) (omega (arith, length_snoc ts c)))
        ∙ ap (longest_end s (suc (length v))) e)
      where
        none : (r : ℕ) → suc (length v) < r → r ≤ suc n → s (suffix r (ts ++ (c ∷ []))) ≡ false
        none zero x y = absurd (omega arith)
        none (suc r) x y =
            fails (s (suffix (suc r) (ts ++ (c ∷ []))))
            (λ e. never_both (front (suffix r ts) c (rw (suffix_snoc r ts c (omega arith)) at e)) (u.none r (omega arith) (omega arith)))

module _ (ws : List (List ℕ)) where
  -- THE LONGEST START that a text ends with: it is known, is an end of the text, and a known word is its own
  pub reached_is : (ts : List ℕ) → Longest (known ws) (length ts) ts (reached ws ts)
  unfolding reached
  reached_is ts = longest_is (known ws) (length ts) ts (omega arith)

  pub reached_known : (ts : List ℕ) → known ws (reached ws ts) ≡ true
  unfolding reached
  reached_known ts = longest_passes (known ws) (length ts) ts (omega arith) (known_nil ws)

  pub reached_short : (ts : List ℕ) → length (reached ws ts) ≤ length ts
  reached_short ts = (reached_is ts).bound

  pub reached_end : (ts : List ℕ) → suffix (length (reached ws ts)) ts ≡ reached ws ts
  reached_end ts = (reached_is ts).is_end

  pub reached_nil : reached ws [] ≡ []
  unfolding reached
  reached_nil = longest_none (known ws) []

  pub reached_self : (u : List ℕ) → known ws u ≡ true → reached ws u ≡ u
  unfolding reached
  reached_self u e = longest_self (known ws) u e

  -- after one byte more it depends on the one before alone
  pub reached_next : (ts : List ℕ) (c : ℕ) → reached ws (ts ++ (c ∷ [])) ≡ reached ws (reached ws ts ++ (c ∷ []))
  unfolding reached
  reached_next ts c =
      ap (λ (k : ℕ). longest_end (known ws) k (ts ++ (c ∷ []))) (length_snoc ts c)
      ∙ one_more (known ws) (known_front ws) (length ts) ts c (omega arith)

  -- THE FAILURE LINK: it is known, is a shorter end, and is empty for a word of one byte or none
  pub fallback_is : (u : List ℕ) → Longest (known ws) (length u - 1) u (fallback ws u)
  unfolding fallback
  fallback_is u = longest_is (known ws) (length u - 1) u (omega arith)

  pub fallback_known : (u : List ℕ) → known ws (fallback ws u) ≡ true
  unfolding fallback
  fallback_known u = longest_passes (known ws) (length u - 1) u (omega arith) (known_nil ws)

  pub fallback_shorter : (u : List ℕ) → 1 ≤ length u → length (fallback ws u) < length u
  fallback_shorter u h = omega (arith, (fallback_is u).bound)

  pub fallback_end : (u : List ℕ) → suffix (length (fallback ws u)) u ≡ fallback ws u
  fallback_end u = (fallback_is u).is_end

  pub fallback_one : (u : List ℕ) → length u ≤ 1 → fallback ws u ≡ []
  unfolding fallback
  fallback_one u h = let e : length u - 1 ≡ 0 = omega arith in rw e (longest_none (known ws) u)

  -- that of one byte more is a step from it
  pub fallback_next : (u : List ℕ) (c : ℕ) → 1 ≤ length u → fallback ws (u ++ (c ∷ [])) ≡ reached ws (fallback ws u ++ (c ∷ []))
  unfolding fallback reached
  fallback_next u c h =
      let e : length (u ++ (c ∷ [])) - 1 ≡ suc (length u - 1) = omega (arith, length_snoc u c) in
      ap (λ (k : ℕ). longest_end (known ws) k (u ++ (c ∷ []))) e ∙ one_more (known ws) (known_front ws) (length u - 1) u c (omega arith)

  -- STEPS: to a known word; else by the failure link; to the empty one if there is none
  reached_back : (u : List ℕ) → known ws u ≡ false → reached ws u ≡ fallback ws u
  unfolding reached fallback
  reached_back u e = longest_less (known ws) u e

  -- after a word that is none: shorter than the word, and as if its first byte had not been
  pub reached_less : (u : List ℕ) → known ws u ≡ false → 1 ≤ length u → length (reached ws u) < length u
  reached_less u e h = rw (reached_back u e) (fallback_shorter u h)

  pub reached_tail : (c : ℕ) (v : List ℕ) → known ws (c ∷ v) ≡ false → reached ws (c ∷ v) ≡ reached ws v
  unfolding reached fallback suffix
  reached_tail c v e =
      let one : suc (length v) - length v ≡ 1 = omega arith in
      let less : suc (length v) - 1 ≡ length v = omega arith in
      let tail : suffix (length v) (c ∷ v) ≡ v = ap (λ (k : ℕ). drop k (c ∷ v)) one in
      reached_back (c ∷ v) e
      ∙ ap (λ (k : ℕ). longest_end (known ws) k (c ∷ v)) less
      ∙ sym (longest_inner (known ws) (length v) (length v) (c ∷ v) (omega arith) (omega arith))
      ∙ ap (longest_end (known ws) (length v)) tail

  pub step_known : (u : List ℕ) (c : ℕ) → known ws (u ++ (c ∷ [])) ≡ true → reached ws (u ++ (c ∷ [])) ≡ u ++ (c ∷ [])
  step_known u c e = reached_self (u ++ (c ∷ [])) e

  pub step_back : (u : List ℕ) (c : ℕ) → known ws (u ++ (c ∷ [])) ≡ false → 1 ≤ length u →
      reached ws (u ++ (c ∷ [])) ≡ reached ws (fallback ws u ++ (c ∷ []))
  step_back u c e h = reached_back (u ++ (c ∷ [])) e ∙ fallback_next u c h

  pub step_none : (c : ℕ) → known ws (c ∷ []) ≡ false → reached ws (c ∷ []) ≡ []
  step_none c e = reached_back (c ∷ []) e ∙ fallback_one (c ∷ []) (omega arith)
