-- The search of a code for a control byte, and what a code without one is. Assumes nothing.
use mathlib.Core.Path.{◌≡◌, refl}
use mathlib.Core.Bool.{Bool, true, false, ◌||◌, or-true, or-false}
use mathlib.Core.List.{List, [], ◌∷◌}
use Prim.Native.Nat.{ℕ, ◌+◌, ◌≤◌, ◌<◌}
use native.Mathlib.Numerals.{add-one}
use lib.Dec.{ltb}
use lib.ListN.{length, get_or, drop, drop_of_length-le}
use lib.Seq.{drop-cons}
use borrow.Author.Tests.{lt-ltb, le-ltb, ltb-false}
use Rattle.words.specs.Words.{Every}
use Rattle.words.proofs.Tests.{by_test, never_both}
use Rattle.codes.specs.Codes.{has_control}

-- A CODE WITHOUT one has no byte below 32
pub clean_bytes : (w : List ℕ) → has_control w ≡ false → Every (λ v. 32 ≤ v) w
unfolding has_control
clean_bytes [] e = tt
clean_bytes (v ∷ vs) e =
    by_test (ltb v 32)
    (λ t. absurd (never_both {t = ltb v 32 || has_control vs} (rw t refl) e))
    (λ t. (ltb-false v 32 t, clean_bytes vs (rw t at e)))

pub bytes_clean : (w : List ℕ) → Every (λ v. 32 ≤ v) w → has_control w ≡ false
unfolding has_control
bytes_clean [] h = refl
bytes_clean (v ∷ vs) h = rw (le-ltb v 32 h.0) (bytes_clean vs h.1)

-- THE LOOP: whether one was found before i, or there is one from i on, is whether there is one
abbrev pub LookedTo : (w : List ℕ) → (i : ℕ) → (found : Bool) → Type 0
LookedTo w i f = f || has_control (drop i w) ≡ has_control w

module _ (w : List ℕ) (i : ℕ) where
  byte_next : i < length w → has_control (drop i w) ≡ ltb (get_or w i 0) 32 || has_control (drop (i + 1) w)
  unfolding has_control
  byte_next l = rw (drop-cons w i 0 l, add-one i) refl

  module _ (f : Bool) (s : LookedTo w i f) where
    pub look_found : i < length w → get_or w i 0 < 32 → LookedTo w (i + 1) true
    look_found l below = rw (byte_next l, lt-ltb (get_or w i 0) 32 below, or-true f) at s

    pub look_next : i < length w → 32 ≤ get_or w i 0 → LookedTo w (i + 1) f
    look_next l above = rw (byte_next l, le-ltb (get_or w i 0) 32 above) at s

    pub look_end : length w ≤ i → f ≡ has_control w
    unfolding has_control
    look_end l = rw (drop_of_length-le w l, or-false f) at s
