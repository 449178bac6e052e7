-- Borders of the starts of a word: which are borders of which, the longest one, and what two long ones share. Assumes nothing.
use mathlib.Core.Path.{◌≡◌, sym, ap, ◌∙◌}
use mathlib.Core.Bool.{true}
use mathlib.Core.List.{List}
use Prim.Native.Nat.{ℕ, suc, ◌+◌, ◌-◌, ◌≤◌, ◌<◌}
use native.Mathlib.Omega.{arith}
use lib.Dec.{ltb}
use lib.ListN.{length, get_or, take, drop}
use lib.Seq.{take-suc, take-take, get_or-take, get_or-drop, length-take-le}
use borrow.Author.Tests.{ltb-true, lt-ltb}
use Rattle.words.specs.Words.{byte, suffix, ends_with, is_border, border_of}
use Rattle.words.proofs.Tests.{and_left, and_right, and_both, same_test}
use Rattle.words.proofs.Lists.{take_drop}
use Rattle.words.proofs.Ends.{Ends, ends_is, ends_test, ends_zero, ends_within, ends_without, ends_shorter}
use Rattle.words.proofs.Largest.{Largest, largest_is}

-- b is a border of the first p bytes of w
pub record Border (w : List ℕ) (p b : ℕ) : Type 0 where
  pub below : b < p
  pub ends : Ends (take p w) w b

pub border_is : (w : List ℕ) (p b : ℕ) → is_border w p b ≡ true → Border w p b
unfolding is_border
border_is w p b e =
    record {
      below = ltb-true b p (and_left (ltb b p) (ends_with (take p w) w b) e);
      ends = ends_is (take p w) w b (and_right (ltb b p) (ends_with (take p w) w b) e);
    }

pub border_test : (w : List ℕ) (p b : ℕ) → Border w p b → is_border w p b ≡ true
unfolding is_border
border_test w p b a =
    and_both (ltb b p) (ends_with (take p w) w b) (lt-ltb b p a.below) (ends_test (take p w) w b a.ends)

pub border_zero : (w : List ℕ) (p : ℕ) → 0 < p → Border w p 0
border_zero w p h = record { below = h; ends = ends_zero (take p w) w }

-- a border of a border is a border, and the lower of two borders is one of the higher
pub border_trans : (w : List ℕ) (p x y : ℕ) → Border w p x → Border w x y → Border w p y
border_trans w p x y a b =
    let xp : x < p = a.below in
    let yx : y < x = b.below in
    record { below = omega arith; ends = ends_without (take p w) w x y a.ends (omega arith) b.ends }

pub border_lower : (w : List ℕ) (p x y : ℕ) → Border w p x → Border w p y → y < x → Border w x y
border_lower w p x y a b h = record { below = h; ends = ends_within (take p w) w x y a.ends (omega arith) b.ends }

-- so below a border x of p, the borders of p are those of x
pub border_below : (w : List ℕ) (p x : ℕ) → Border w p x → (y : ℕ) → y < x → is_border w p y ≡ is_border w x y
border_below w p x a y h =
    same_test (is_border w p y) (is_border w x y)
    (λ e. border_test w x y (border_lower w p x y a (border_is w p y e) h))
    (λ e. border_test w p y (border_trans w p x y a (border_is w x y e)))

-- one byte less of a border of p + 1 is a border of p
pub border_prev : (w : List ℕ) (p x : ℕ) → p < length w → Border w (suc p) (suc x) → Border w p x
unfolding byte
border_prev w p x inside a =
    let h : suc x < suc p = a.below in
    record { below = omega arith; ends = ends_shorter (take p w) w (byte w p) x (rw (take-suc w p 0 inside) at a.ends) }

-- THE LONGEST border
pub longest_is : (w : List ℕ) (p : ℕ) → 0 < p → Largest (Border w p) (p - 1) (border_of w p)
unfolding border_of
longest_is w p h = largest_is (is_border w p) (Border w p) (border_is w p) (λ x l. border_test w p x) (border_zero w p h) (p - 1)

-- BYTES: those of a border stand again at the end, so the first p bytes have the period p - b
pub border_byte : (w : List ℕ) (p b : ℕ) → p ≤ length w → Border w p b → (i : ℕ) → i < b → byte w i ≡ byte w (i + (p - b))
unfolding byte suffix
border_byte w p b h a i l =
    let bp : b < p = a.below in
    let at : (length (take p w) - b) + i ≡ i + (p - b) = omega (arith, length-take-le p w h) in
    sym (get_or-take b w i 0 l)
    ∙ ap (λ (v : List ℕ). get_or v i 0) (sym a.ends.same)
    ∙ get_or-drop (length (take p w) - b) (take p w) i 0
    ∙ ap (λ (k : ℕ). get_or (take p w) k 0) at
    ∙ get_or-take p w (i + (p - b)) 0 (omega arith)

-- OVERLAP: a border y of x with x ≤ 2y is followed by a third one as far below, and with the same byte behind it
module _ (w : List ℕ) (x y : ℕ) (fits : x ≤ length w) (a : Border w x y) (near : x ≤ y + y) where
  pub overlap_border : Ends (take y w) w (y + y - x)
  unfolding suffix
  overlap_border =
      let yx : y < x = a.below in
      let n : length (take y w) ≡ y = length-take-le y w (omega arith) in
      let m : length (take x w) ≡ x = length-take-le x w fits in
      let z : ℕ = y + y - x in
      let at : length (take y w) - z ≡ length (take x w) - y = omega arith in
      let sum : (length (take x w) - y) + z ≡ y = omega arith in
      record {
        fits = omega arith;
        same =
            ap (λ (k : ℕ). drop k (take y w)) at
            ∙ ap (drop (length (take x w) - y)) (sym (take-take y x w (omega arith)) ∙ ap (λ (k : ℕ). take k (take x w)) (sym sum))
            ∙ sym (take_drop (length (take x w) - y) z (take x w) (omega arith))
            ∙ ap (take z) a.ends.same
            ∙ take-take z y w (omega arith);
      }

  pub overlap_label : byte w (y + y - x) ≡ byte w y
  overlap_label =
      let yx : y < x = a.below in
      let at : y + y - x + (x - y) ≡ y = omega arith in
      border_byte w x y fits a (y + y - x) (omega arith) ∙ ap (byte w) at
