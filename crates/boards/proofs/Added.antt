-- Codes added to the tree one after the other: the tree of none, and what the lists hold after j codes. Assumes nothing.
use mathlib.Core.Path.{◌≡◌, refl, sym, ap, ◌∙◌}
use mathlib.Core.Bool.{Bool, true, false}
use mathlib.Core.List.{List, [], ◌∷◌, ◌++◌}
use mathlib.Core.Logic.{◌≢◌}
use Prim.Native.Nat.{ℕ, zero, suc, ◌+◌, ◌-◌, ◌≤◌, ◌<◌}
use native.Mathlib.Omega.{arith}
use lib.ListN.{length, get_or, set, take, drop, length-set, replicate, length-replicate, get_or-replicate}
use lib.Seq.{take_all, length-take-le, get_or-set_same, get_or-set_other}
use borrow.Author.Tests.{not-true, not-false}
use Rattle.words.proofs.Tests.{by_eq, never_both}
use Rattle.words.proofs.Lists.{every_at, length_snoc}
use Rattle.bits.proofs.Bits.{holds_zero}
use Rattle.automaton.specs.Costs.{sum}
use Rattle.starts.specs.Starts.{code, known, total, offset, state, is_code, twice}
use Rattle.starts.proofs.States.{known_none, state_nil, take_more, offset_zero, offset_more, offset_fits}
use Rattle.starts.proofs.Codes.{number_none, twice_more}
use Rattle.boards.specs.declared.tree.Tree.{Tree as TreeLists}
use Rattle.boards.specs.Board.{cut}
use Rattle.boards.specs.Tables.{part, tree, new_tree, empty_tree, Good, Roomy, branches_off, Tree, Ended, Adding, Added, AllAdded}
use Rattle.boards.proofs.Cuts.{part_length, cut_length, cut_total, cut_code, cut_code_length, twice_take}

-- NO CODE YET: the tree of none, in lists of 256 and of 0
known_zero : (u : List ℕ) → known [] u ≡ true → u ≡ []
known_zero [] k = refl
known_zero (c ∷ u) k = absurd (never_both k (known_none (c ∷ u) (omega arith)))

pub tree_none : (t : TreeLists) → Roomy t → ((g : ℕ) → g < length t.next → get_or t.next g 0 ≡ 256) → ((g : ℕ) → get_or t.forks g 0 ≡ 0) →
    ((c : ℕ) → get_or t.keys c 0 ≡ 0) → Tree [] t
unfolding branches_off total
tree_none t room next forks keys =
    record {
      follows =
          λ u c k h e.
          let at : state [] u ≡ 0 = ap (state []) (known_zero u k) ∙ state_nil [] in
          absurd (omega (arith, h, e, ap (λ (g : ℕ). get_or t.next g 0) at, next 0 (omega (arith, room.next_long))));
      branches = λ u c j k b. absurd (never_both b (rw (forks (state [] u), holds_zero j) refl));
      no_other = λ u c k n f. known_none (u ++ (c ∷ [])) (omega (arith, length_snoc u c));
      numbers = λ g j b. absurd (never_both b (rw (forks g) (holds_zero j)));
      keyed = λ c j b. absurd (never_both b (rw (keys c) (holds_zero j)));
      blank = λ g h. (next g, forks g);
      roomy = room;
      few = omega arith;
      codes_few = omega arith;
    }

pub ended_none : (ends : List ℕ) → 2001 ≤ length ends → ((g : ℕ) → get_or ends g 0 ≡ 0) → Ended [] ends
unfolding is_code
ended_none ends long zeros =
    record { numbers = λ u k. zeros (state [] u) ∙ sym (number_none [] u refl); none = λ g f. zeros g; long = long }

-- lists of zeros
pub zeros : (n j : ℕ) → ◌≡◌ {A = ℕ} (get_or (replicate n 0) j 0) 0
zeros zero j = refl
zeros (suc n) zero = refl
zeros (suc n) (suc j) = zeros n j

empty_is_tree : Tree [] empty_tree
empty_is_tree =
    tree_none empty_tree
    (record {
      next_long = omega (arith, length-replicate {A = ℕ} 2001 256);
      forks_long = omega (arith, length-replicate {A = ℕ} 2001 0);
      keys_long = omega (arith, length-replicate {A = ℕ} 256 0);
      heads_long = omega (arith, length-replicate {A = ℕ} 64 0);
    })
    (λ g h. get_or-replicate 2001 g 256 0 (omega (arith, h, length-replicate {A = ℕ} 2001 256)))
    (zeros 2001)
    (zeros 256)

pub none_ended : Ended [] (replicate 2001 0)
none_ended = ended_none (replicate 2001 0) (omega (arith, length-replicate {A = ℕ} 2001 0)) (zeros 2001)

-- THE FIRST j codes are in the lists, and none of them is there twice; the next begins at s
pub record SoFar (ls bs : List ℕ) (j s : ℕ) (t : TreeLists) (ends starts : List ℕ) : Type 0 where
  pub within : j ≤ length ls
  pub is_tree : Tree (take j (cut ls bs)) t
  pub ended : Ended (take j (cut ls bs)) ends
  pub offset_is : s ≡ offset (cut ls bs) j
  pub offsets : (i : ℕ) → i < j → get_or starts i 0 ≡ offset (cut ls bs) i
  pub once : twice (take j (cut ls bs)) ≡ false
  pub starts_long : 64 ≤ length starts

pub so_far_start : {ls bs : List ℕ} {t : TreeLists} {ends starts next : List ℕ} → t ≡ new_tree → Ended [] ends → 64 ≤ length starts →
    next ≡ replicate 2001 256 → SoFar ls bs 0 0 (tree next t.forks t.keys t.heads) ends starts
unfolding twice
so_far_start {ls} {bs} new ended long filled =
    record {
      within = omega arith;
      is_tree = rw (new, filled) empty_is_tree;
      ended = ended;
      offset_is = sym (offset_zero (cut ls bs));
      offsets = λ i h. absurd (omega arith);
      once = refl;
      starts_long = long;
    }

pub so_far_end : {ls bs : List ℕ} {j s : ℕ} {t : TreeLists} {ends starts : List ℕ} → SoFar ls bs j s t ends starts → length ls ≤ j →
    (twice (cut ls bs) ≡ false) × AllAdded (cut ls bs) t ends starts
so_far_end {ls} {bs} {j} x h =
    let all : take j (cut ls bs) ≡ cut ls bs = take_all j (cut ls bs) (omega (arith, cut_length ls bs)) in (
      ap twice (sym all) ∙ x.once,
      record {
        is_tree = rw all at x.is_tree;
        ended = rw all at x.ended;
        offsets = λ i k. x.offsets i (omega (arith, cut_length ls bs));
      },
    )

-- ONE CODE MORE
module _ {ls bs : List ℕ} {j s : ℕ} {t : TreeLists} {ends starts : List ℕ} {l : ℕ} (good : Good ls bs)
    (x : SoFar ls bs j s t ends starts) (below : j < length ls) (length_is : l ≡ get_or ls j 0) where
  inside : j < length (cut ls bs)
  inside = omega (arith, cut_length ls bs)

  sums : sum ls ≤ length bs
  sums = omega (arith, good.sums)

  size : length (code (cut ls bs) j) ≡ l
  size = cut_code_length ls bs j sums below ∙ sym length_is

  is_part : code (cut ls bs) j ≡ part s l bs
  is_part = rw (x.offset_is, length_is) (cut_code ls bs j sums below)

  -- it has room
  pub more_part : take (s + l - s) (drop s bs) ≡ part s l bs
  unfolding part
  more_part = let whole : s + l - s ≡ l = omega arith in rw whole refl

  pub more_fits : s + l ≤ length bs
  more_fits = omega (arith, x.offset_is, size, offset_fits (cut ls bs) j inside, cut_total ls bs sums, good.sums)

  part_size : length (part s l bs) ≡ l
  part_size = part_length s l bs more_fits

  pub more_adding : Adding (take j (cut ls bs)) t ends (take (s + l - s) (drop s bs)) j s
  unfolding offset
  more_adding =
      rw more_part
      (record {
        is_tree = x.is_tree;
        ended = x.ended;
        number_is = sym (length-take-le j (cut ls bs) (omega (arith, inside)));
        offset_is = x.offset_is;
        some = omega (arith, part_size, length_is, every_at (λ n. 1 ≤ n) ls j good.filled below);
        few = omega (arith, part_size, more_fits, good.bytes);
        codes_few = omega (arith, good.codes);
      })

  more : take (j + 1) (cut ls bs) ≡ take j (cut ls bs) ++ (part s l bs ∷ [])
  more =
      let at : suc j ≡ j + 1 = omega arith in
      rw (← at) (take_more (cut ls bs) j inside ∙ ap (λ (w : List ℕ). take j (cut ls bs) ++ (w ∷ [])) is_part)

  twice_is : twice (take (j + 1) (cut ls bs)) ≡ is_code (take j (cut ls bs)) (part s l bs)
  twice_is = ap twice more ∙ rw (twice_more (take j (cut ls bs)) (part s l bs), x.once) refl

  -- where it is none of those before it, the first j + 1 are in; else it is twice
  pub more_new : {t' : TreeLists} {ends' : List ℕ} {r : Bool} → Added (take j (cut ls bs)) (take (s + l - s) (drop s bs)) t' ends' r → r ≡ true →
      SoFar ls bs (j + 1) (s + l) t' ends' (set starts j s)
  more_new {t'} {ends'} {r} added e =
      let a : Added (take j (cut ls bs)) (part s l bs) t' ends' r = rw more_part at added in
      let at : suc j ≡ j + 1 = omega arith in
      record {
        within = omega arith;
        is_tree = rw more (a.is_tree e);
        ended = rw more (a.ended e);
        offset_is = omega (arith, x.offset_is, size, offset_more (cut ls bs) j inside, ap (offset (cut ls bs)) at);
        offsets =
            λ (i : ℕ) (h : i < j + 1).
            by_eq i j
            (λ (e : i ≡ j). rw e (get_or-set_same starts j s 0 (omega (arith, x.starts_long, good.codes)) ∙ x.offset_is))
            (λ (n : i ≢ j). get_or-set_other starts j i s 0 n ∙ x.offsets i (omega arith));
        once = twice_is ∙ not-true (is_code (take j (cut ls bs)) (part s l bs)) (sym a.new ∙ e);
        starts_long = omega (arith, x.starts_long, length-set starts j s);
      }

  pub more_old : {t' : TreeLists} {ends' : List ℕ} {r : Bool} → Added (take j (cut ls bs)) (take (s + l - s) (drop s bs)) t' ends' r → r ≡ false →
      twice (cut ls bs) ≡ true
  more_old {t'} {ends'} {r} added e =
      let a : Added (take j (cut ls bs)) (part s l bs) t' ends' r = rw more_part at added in
      let old : is_code (take j (cut ls bs)) (part s l bs) ≡ true = not-false (is_code (take j (cut ls bs)) (part s l bs)) (sym a.new ∙ e) in
      twice_take (cut ls bs) (j + 1) (twice_is ∙ old)
