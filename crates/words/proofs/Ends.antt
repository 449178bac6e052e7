-- Ends: a text that ends with a start of a word, what else it then ends with, and one byte more. Assumes nothing.
use mathlib.Core.Path.{◌≡◌, sym, ap, ◌∙◌}
use mathlib.Core.Bool.{true}
use mathlib.Core.List.{List, [], ◌∷◌, ◌++◌}
use Prim.Native.Nat.{ℕ, zero, suc, ◌≤◌, ◌<◌}
use native.Mathlib.Omega.{arith}
use lib.Dec.{leb}
use lib.ListN.{length, take, length-take}
use lib.Seq.{take-suc, length-take-le}
use borrow.Author.Tests.{leb-true, le-leb}
use Rattle.words.specs.Words.{byte, same, suffix, ends_with}
use Rattle.words.proofs.Tests.{and_left, and_right, and_both}
use Rattle.words.proofs.Lists.{eq_same, same_eq, length_snoc, snoc_front, snoc_last}
use Rattle.words.proofs.Lists.{length_suffix, suffix_none, suffix_whole, suffix_suffix, suffix_snoc}

-- the text ends with the first p bytes of w
pub record Ends (ts w : List ℕ) (p : ℕ) : Type 0 where
  pub fits : p ≤ length ts
  pub same : suffix p ts ≡ take p w

pub ends_is : (ts w : List ℕ) (p : ℕ) → ends_with ts w p ≡ true → Ends ts w p
unfolding ends_with
ends_is ts w p e =
    record {
      fits = leb-true p (length ts) (and_left (leb p (length ts)) (same (suffix p ts) (take p w)) e);
      same = same_eq (suffix p ts) (take p w) (and_right (leb p (length ts)) (same (suffix p ts) (take p w)) e);
    }

pub ends_test : (ts w : List ℕ) (p : ℕ) → Ends ts w p → ends_with ts w p ≡ true
unfolding ends_with
ends_test ts w p u =
    and_both (leb p (length ts)) (same (suffix p ts) (take p w)) (le-leb p (length ts) u.fits) (eq_same u.same)

pub ends_zero : (ts w : List ℕ) → Ends ts w 0
ends_zero ts w = record { fits = omega arith; same = suffix_none ts }

-- a start is a start of the word
pub ends_start : (ts w : List ℕ) (p : ℕ) → Ends ts w p → p ≤ length w
ends_start ts w p u = omega (arith, length_suffix p ts u.fits, length-take p w, ap length u.same)

-- the first p bytes end with all of themselves
pub ends_whole : (w : List ℕ) (p : ℕ) → p ≤ length w → Ends (take p w) w p
ends_whole w p h =
    let n : length (take p w) ≡ p = length-take-le p w h in
    record { fits = omega arith; same = suffix_whole p (take p w) n }

-- of a text that ends with p bytes, the shorter starts that it ends with are those that the first p bytes end with
module _ (ts w : List ℕ) (p q : ℕ) (u : Ends ts w p) (h : q ≤ p) where
  inner : suffix q (take p w) ≡ suffix q ts
  inner = ap (suffix q) (sym u.same) ∙ suffix_suffix q p ts h u.fits

  pub ends_within : Ends ts w q → Ends (take p w) w q
  ends_within v = record { fits = omega (arith, length-take-le p w (ends_start ts w p u)); same = inner ∙ v.same }

  pub ends_without : Ends (take p w) w q → Ends ts w q
  ends_without v = record { fits = omega (arith, u.fits); same = sym inner ∙ v.same }

-- ONE BYTE MORE
module _ (ts w : List ℕ) (c q : ℕ) where
  pub ends_longer : Ends ts w q → q < length w → byte w q ≡ c → Ends (ts ++ (c ∷ [])) w (suc q)
  unfolding byte
  ends_longer u h e =
      record {
        fits = omega (arith, u.fits, length_snoc ts c);
        same =
            suffix_snoc q ts c u.fits
            ∙ ap (λ (l : List ℕ). l ++ (c ∷ [])) u.same
            ∙ ap (λ (b : ℕ). take q w ++ (b ∷ [])) (sym e)
            ∙ sym (take-suc w q 0 h);
      }

  module _ (u : Ends (ts ++ (c ∷ [])) w (suc q)) where
    pub ends_inside : q < length w
    ends_inside = ends_start (ts ++ (c ∷ [])) w (suc q) u

    inside : q ≤ length ts
    inside = omega (arith, u.fits, length_snoc ts c)

    parts : suffix q ts ++ (c ∷ []) ≡ take q w ++ (byte w q ∷ [])
    unfolding byte
    parts = sym (suffix_snoc q ts c inside) ∙ u.same ∙ take-suc w q 0 ends_inside

    pub ends_shorter : Ends ts w q
    ends_shorter = record { fits = inside; same = snoc_front (suffix q ts) (take q w) c (byte w q) parts }

    pub ends_label : byte w q ≡ c
    ends_label = sym (snoc_last (suffix q ts) (take q w) c (byte w q) parts)

-- where one text ends with all that another ends with, so it does with a byte more
pub ends_snoc : (ts us w : List ℕ) (c : ℕ) → ((x : ℕ) → Ends ts w x → Ends us w x) →
    (y : ℕ) → Ends (ts ++ (c ∷ [])) w y → Ends (us ++ (c ∷ [])) w y
ends_snoc ts us w c f zero u = ends_zero (us ++ (c ∷ [])) w
ends_snoc ts us w c f (suc x) u = ends_longer us w c x (f x (ends_shorter ts w c x u)) (ends_inside ts w c x u) (ends_label ts w c x u)
