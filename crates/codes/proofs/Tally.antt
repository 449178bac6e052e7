-- What the count of a code's different bytes keeps, from its first byte to its last. Assumes nothing.
use mathlib.Core.Path.{◌≡◌, refl, sym, ap, ◌∙◌, subst}
use mathlib.Core.Bool.{Bool, true, false, cond, or-true, or-false}
use mathlib.Core.List.{List, [], ◌∷◌, ◌++◌}
use Prim.Native.Nat.{ℕ, ◌+◌, ◌≤◌, ◌<◌}
use native.Mathlib.Omega.{arith}
use native.Mathlib.Numerals.{add-one}
use lib.ListN.{length, get_or, set, take, replicate, length-set, length-replicate, get_or-replicate}
use lib.Seq.{take-suc, take_all, get_or-set_same, get_or-set_other}
use borrow.Author.Tests.{eq-eqb, ne_eqb}
use Rattle.words.specs.Words.{member}
use Rattle.words.proofs.Lists.{member_nil, member_head, member_other, member_append}
use Rattle.words.proofs.Tests.{by_eq}
use Rattle.automaton.specs.Ceilings.{different}

-- one byte more at the end is one more if it was not there
different_more : (xs : List ℕ) (x : ℕ) → different (xs ++ (x ∷ [])) ≡ different xs + cond (member x xs) 0 1
unfolding different member
different_more [] x = refl
different_more (y ∷ ys) x =
    by_eq y x
    (λ e. subst (λ (v : ℕ). different (y ∷ ys ++ (v ∷ [])) ≡ different (y ∷ ys) + cond (member v (y ∷ ys)) 0 1) e (seen y ys (different_more ys y)))
    (λ n. rw (member_append y ys (x ∷ []), ne_eqb x y (λ e. n (sym e)), ne_eqb y x n, or-false (member y ys), different_more ys x) (omega arith))
  where
    seen : (y : ℕ) (ys : List ℕ) → different (ys ++ (y ∷ [])) ≡ different ys + cond (member y ys) 0 1 →
        different (y ∷ ys ++ (y ∷ [])) ≡ different (y ∷ ys) + cond (member y (y ∷ ys)) 0 1
    seen y ys more = rw (member_append y ys (y ∷ []), eq-eqb y y refl, or-true (member y ys), more) (omega arith)

-- a table of the bytes that a list has, and how many they are
pub record Tally (xs : List ℕ) (n : ℕ) (seen : List Bool) : Type 0 where
  pub count : n ≡ different xs
  pub room : length seen ≡ 256
  pub told : (v : ℕ) → v < 256 → get_or seen v false ≡ member v xs

-- THE LOOP over a code: n and `seen` belong to the first i bytes
pub tally_start : (xs : List ℕ) → Tally (take 0 xs) 0 (replicate 256 false)
unfolding different
tally_start xs = record {
  count = refl;
  room = length-replicate 256 false;
  told = λ v l. get_or-replicate 256 v false false l ∙ sym (member_nil v);
}

-- with x behind, n is what it was where x was seen before, otherwise 1 more
tally_more : (x : ℕ) (xs : List ℕ) (n : ℕ) (seen : List Bool) → x < 256 → Tally xs n seen →
    Tally (xs ++ (x ∷ [])) (n + cond (get_or seen x false) 0 1) (set seen x true)
tally_more x xs n seen fits k = record {
  count = rw (k.told x fits, k.count, different_more xs x);
  room = length-set seen x true ∙ k.room;
  told = λ v l.
      by_eq v x
      (λ e. rw (e, member_append x xs (x ∷ []), member_head x [], or-true (member x xs)) (get_or-set_same seen x true false (omega arith)))
      (λ e.
      rw (member_append v xs (x ∷ []), member_other v x [] (λ s. e (sym s)), member_nil v, or-false (member v xs))
      (get_or-set_other seen x v true false e ∙ k.told v l));
}

pub tally_turn : (xs : List ℕ) (i v n n' : ℕ) (seen : List Bool) (t : Bool) → v ≡ get_or xs i 0 → get_or seen v false ≡ t → n' ≡ n + cond t 0 1 →
    v < 256 → i < length xs → Tally (take i xs) n seen → Tally (take (i + 1) xs) n' (set seen v true)
tally_turn xs i v n n' seen t here old more fits inside k =
    rw (more, sym old, add-one i, take-suc xs i 0 inside, sym here) (tally_more v (take i xs) n seen fits k)

pub tally_end : (xs : List ℕ) (i n : ℕ) (seen : List Bool) → length xs ≤ i → Tally (take i xs) n seen → n ≡ different xs
tally_end xs i n seen all k = k.count ∙ ap different (take_all i xs all)
