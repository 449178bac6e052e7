-- The byte ceiling's logarithm is reached: behind ruler k all lower rulers are borders, each with a label of its own, and the byte behind ruler k is new. No
-- byte costs more than the ceiling, so this is enough. Assumes nothing.
use mathlib.Core.Path.{◌≡◌, refl, sym, ap, ◌∙◌}
use mathlib.Core.List.{List, [], ◌∷◌, ◌++◌, append_assoc}
use mathlib.Core.Logic.{◌≢◌}
use Prim.Native.Nat.{ℕ, zero, suc, ◌+◌, ◌^◌, ◌≤◌, ◌<◌}
use native.Mathlib.Omega.{arith}
use native.Mathlib.Nat.{two-pow-succ, min-le_left}
use lib.ListN.{length, take, drop, length-append, take-append-drop, get_or-append}
use lib.Pow.{pow_mono, pow-lt}
use lib.Seq.{take-length, take-take, take-append-le, get_or-take, get_or-append_seam, length-take-le}
use Rattle.words.specs.Words.{byte, Every, suffix, state_of}
use Rattle.words.proofs.Tests.{by_eq}
use Rattle.words.proofs.Lists.{every_append, suffix_whole, suffix_append}
use Rattle.words.proofs.Largest.{state_start}
use Rattle.words.proofs.Borders.{Border}
use Rattle.automaton.specs.Arrows.{arrows}
use Rattle.automaton.specs.Ceilings.{log2, different, byte_ceiling}
use Rattle.automaton.specs.Costs.{cost_after}
use Rattle.automaton.specs.Promise.{LogarithmRight, ByteBelow}
use Rattle.automaton.proofs.Logarithm.{logarithm_right}
use Rattle.automaton.proofs.ByteCeiling.{byte_below}
use Rattle.reached.specs.Words.{ruler, steep_code, steep_text, steep_byte}
use Rattle.reached.specs.Promise.{BytesReached}
use Rattle.reached.proofs.ManyArrows.{many_arrows, forward_pays}

-- RULERS: how long they are, and what they begin and end with
pub ruler_next : (k : ℕ) → ruler (suc k) ≡ ruler k ++ ((32 + k) ∷ ruler k)
unfolding ruler
ruler_next k = refl

pub ruler_length : (k : ℕ) → suc (length (ruler k)) ≡ 2 ^ k
unfolding ruler
ruler_length zero = refl
ruler_length (suc k) = omega (arith, length-append (ruler k) ((32 + k) ∷ ruler k), ruler_length k, two-pow-succ k)

ruler_shorter : (j k : ℕ) → j < k → length (ruler j) < length (ruler k)
ruler_shorter j k h = omega (arith, ruler_length j, ruler_length k, pow-lt h)

ruler_within : (j k : ℕ) → j ≤ k → length (ruler j) ≤ length (ruler k)
ruler_within j k h = omega (arith, ruler_length j, ruler_length k, pow_mono h)

ruler_begins : (j k : ℕ) → j ≤ k → take (length (ruler j)) (ruler k) ≡ ruler j
ruler_begins j zero h = let e : j ≡ 0 = omega arith in rw e (take-length (ruler 0))
ruler_begins j (suc k) h =
    by_eq j (suc k)
    (λ (e : j ≡ suc k). rw e (take-length (ruler (suc k))))
    (λ (d : j ≢ suc k).
    rw (ruler_next k) (take-append-le (length (ruler j)) (ruler k) ((32 + k) ∷ ruler k) (ruler_within j k (omega arith)) ∙ ruler_begins j k (omega arith)))

ruler_ends : (j k : ℕ) → j ≤ k → suffix (length (ruler j)) (ruler k) ≡ ruler j
ruler_ends j zero h = let e : j ≡ 0 = omega arith in rw e (suffix_whole (length (ruler 0)) (ruler 0) refl)
ruler_ends j (suc k) h =
    by_eq j (suc k)
    (λ (e : j ≡ suc k). rw e (suffix_whole (length (ruler (suc k))) (ruler (suc k)) refl))
    (λ (d : j ≢ suc k).
    ap (suffix (length (ruler j))) (ruler_next k ∙ sym (append_assoc (ruler k) ((32 + k) ∷ []) (ruler k)))
    ∙ suffix_append (length (ruler j)) (ruler k ++ ((32 + k) ∷ [])) (ruler k) (ruler_within j k (omega arith))
    ∙ ruler_ends j k (omega arith))

-- behind ruler j stands 32 + j
ruler_label : (j k : ℕ) → j < k → byte (ruler k) (length (ruler j)) ≡ 32 + j
unfolding ruler byte
ruler_label j zero h = absurd (omega arith)
ruler_label j (suc k) h =
    by_eq j k
    (λ (e : j ≡ k). rw e (get_or-append_seam (ruler k) (32 + k) (ruler k) 0))
    (λ (d : j ≢ k).
    get_or-append (ruler k) ((32 + k) ∷ ruler k) 0 (length (ruler j)) (ruler_shorter j k (omega arith)) ∙ ruler_label j k (omega arith))

-- all bytes are from 32 on and below 32 + k
every_ruler : (P : ℕ → Type 0) (k : ℕ) → ((j : ℕ) → j < k → P (32 + j)) → Every P (ruler k)
unfolding ruler
every_ruler P zero f = tt
every_ruler P (suc k) f =
    let rest = every_ruler P k (λ j h. f j (omega arith)) in (every_append P (ruler k) ((32 + k) ∷ ruler k)).1 (rest, (f k (omega arith), rest))

-- A CODE'S length and bytes
pub steep_fits : (m : ℕ) → m ≤ length (ruler (suc (log2 m)))
unfolding LogarithmRight
steep_fits zero = omega arith
steep_fits (suc m) = omega (arith, ruler_length (suc (log2 (suc m))), (logarithm_right (suc m) (omega arith)).1)

pub steep_length : (m : ℕ) → length (steep_code m) ≡ m
unfolding steep_code
steep_length m = length-take-le m (ruler (suc (log2 m))) (steep_fits m)

pub every_steep : (m : ℕ) (P : ℕ → Type 0) → ((j : ℕ) → j ≤ log2 m → P (32 + j)) → Every P (steep_code m) × Every P (steep_text m ++ (steep_byte m ∷ []))
unfolding steep_code
every_steep m P f =
    let word = ruler (suc (log2 m)) in
    let all = rw (sym (take-append-drop m word)) at (every_ruler P (suc (log2 m)) (λ j h. f j (omega arith))) in (
      ((every_append P (take m word) (drop m word)).0 all).0,
      (every_append P (steep_text m) (steep_byte m ∷ [])).1 (every_ruler P (log2 m) (λ j h. f j (omega arith)), (f (log2 m) (omega arith), tt)),
    )

module _ (m : ℕ) (some : 1 ≤ m) where
  -- THE CODE begins with each ruler up to k, and the byte behind it
  abbrev k : ℕ
  k = log2 m

  abbrev code : List ℕ
  code = steep_code m

  inside : (j : ℕ) → j ≤ k → length (ruler j) < m
  unfolding LogarithmRight
  inside j h = omega (arith, ruler_length j, pow_mono h, (logarithm_right m some).0)

  pub steep_shorter : length (steep_text m) < m
  steep_shorter = inside k (omega arith)

  pub steep_begins : (j : ℕ) → j ≤ k → take (length (ruler j)) code ≡ ruler j
  unfolding steep_code
  steep_begins j h = take-take (length (ruler j)) m (ruler (suc k)) (omega (arith, inside j h)) ∙ ruler_begins j (suc k) (omega arith)

  pub steep_label : (j : ℕ) → j ≤ k → byte code (length (ruler j)) ≡ 32 + j
  unfolding steep_code byte
  steep_label j h = get_or-take m (ruler (suc k)) (length (ruler j)) 0 (inside j h) ∙ unfold byte in ruler_label j (suc k) (omega arith)

  border : (j : ℕ) → j < k → Border code (length (ruler k)) (length (ruler j))
  border j h =
      let shorter : length (ruler j) < length (ruler k) = ruler_shorter j k h in
      record {
        below = shorter;
        ends =
            rw (steep_begins k (omega arith))
            (record { fits = omega arith; same = ruler_ends j k (omega arith) ∙ sym (steep_begins j (omega arith)) });
      }

  -- so behind ruler k there are k arrows back at least
  fits : length (ruler k) < length code
  fits = omega (arith, steep_shorter, steep_length m)

  k_arrows : k ≤ arrows code (length (ruler k))
  k_arrows =
      many_arrows code (length (ruler k)) (omega (arith, fits)) k (λ j. length (ruler j)) border
      (λ i j a b e. omega (arith, e, steep_label i (omega arith), steep_label j (omega arith)))
      (λ j a b e. omega (arith, e, steep_label j (omega arith), steep_label k (omega arith)))

  -- THE TEXT leads there, and the new byte is compared with all their labels
  state : state_of code (steep_text m) ≡ length (ruler k)
  state = ap (state_of code) (sym (steep_begins k (omega arith))) ∙ state_start code (length (ruler k)) (omega (arith, fits))

  cost : cost_after code (steep_text m) (steep_byte m) ≡ suc (arrows code (length (ruler k)))
  cost = forward_pays code (steep_text m) (length (ruler k)) (steep_byte m) state fits (steep_label k (omega arith))

  ceiling_above : cost_after code (steep_text m) (steep_byte m) ≤ byte_ceiling code
  unfolding cost_after ByteBelow
  ceiling_above = byte_below code (state_of code (steep_text m)) (steep_byte m) (omega (arith, state, fits))

  ceiling_below : byte_ceiling code ≤ 1 + k
  unfolding byte_ceiling
  ceiling_below =
      let logs : log2 (length code) ≡ k = ap log2 (steep_length m) in
      omega (arith, min-le_left (1 + log2 (length code)) (different code), logs)

  pub byte_exact : (cost_after code (steep_text m) (steep_byte m) ≡ 1 + k) × (byte_ceiling code ≡ 1 + k)
  byte_exact = (omega (arith, cost, k_arrows, ceiling_above, ceiling_below), omega (arith, cost, k_arrows, ceiling_above, ceiling_below))

pub bytes_reached : BytesReached
unfolding BytesReached
bytes_reached m some = let e = byte_exact m some in (steep_length m, e.0, e.1)
