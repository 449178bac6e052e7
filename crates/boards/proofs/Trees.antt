-- The tree of the codes' starts: what its lists tell of a start and one byte more, how far a code is followed, and the labels of a code. Assumes nothing.
use mathlib.Core.Path.{◌≡◌, refl, sym, ap, ◌∙◌}
use mathlib.Core.Bool.{true, false}
use mathlib.Core.List.{List, [], ◌∷◌, ◌++◌}
use mathlib.Core.Logic.{◌≢◌}
use Prim.Native.Nat.{ℕ, suc, ◌+◌, ◌-◌, ◌≤◌, ◌<◌}
use native.Mathlib.Omega.{arith}
use lib.Bits.{bit_and}
use lib.ListN.{length, get_or, set, take, length-set}
use lib.Seq.{take-suc, get_or-set_same, get_or-set_other}
use Rattle.words.proofs.Tests.{by_test, by_le, by_eq}
use Rattle.words.proofs.Lists.{length_snoc}
use Rattle.bits.specs.Bits.{holds, Top}
use Rattle.bits.proofs.Bits.{holds_and, holds_zero}
use Rattle.starts.specs.Starts.{known, state}
use Rattle.starts.proofs.States.{known_nil, state_nil, state_some, state_within}
use Rattle.boards.specs.declared.tree.Tree.{Tree as TreeLists}
use Rattle.boards.specs.Tables.{Tree, OnTree, branches_off, child_of, Labelled, Went}

-- A STATE is within the lists
pub tree_inside : (t : TreeLists) (g : ℕ) → OnTree t g → (g ≤ 2000) × (2001 ≤ length t.next) × (2001 ≤ length t.forks)
tree_inside t g o =
    let w = o.is_tree in
    let small : g ≤ 2000 = omega (arith, o.state_is, state_within o.ws o.u o.known_is, w.few) in
    (small, w.roomy.next_long, w.roomy.forks_long)

-- A CHILD: a known one has its state, another 0
child_known : (ws : List (List ℕ)) (u : List ℕ) (c : ℕ) → known ws (u ++ (c ∷ [])) ≡ true → child_of ws u c ≡ state ws (u ++ (c ∷ []))
unfolding child_of
child_known ws u c k = rw k

child_none : (ws : List (List ℕ)) (u : List ℕ) (c : ℕ) → known ws (u ++ (c ∷ [])) ≡ false → child_of ws u c ≡ 0
unfolding child_of
child_none ws u c k = rw k

-- so 0 tells that there is none, and any other number is its state
pub child_zero : (ws : List (List ℕ)) (u : List ℕ) (c : ℕ) → child_of ws u c ≡ 0 → known ws (u ++ (c ∷ [])) ≡ false
child_zero ws u c e =
    by_test (known ws (u ++ (c ∷ [])))
    (λ k. absurd (omega (arith, e, child_known ws u c k, state_some ws (u ++ (c ∷ [])) k, length_snoc u c)))
    (λ k. k)

pub child_some : (ws : List (List ℕ)) (u : List ℕ) (c : ℕ) → child_of ws u c ≢ 0 →
    (known ws (u ++ (c ∷ [])) ≡ true) × (child_of ws u c ≡ state ws (u ++ (c ∷ [])))
child_some ws u c n =
    by_test (known ws (u ++ (c ∷ [])))
    (λ k. (k, child_known ws u c k))
    (λ k. absurd (n (child_none ws u c k)))

-- by the byte behind a start in its code, by where others branch off, and by neither
module _ (ws : List (List ℕ)) (t : TreeLists) (u : List ℕ) (g c : ℕ) (is_tree : Tree ws t) (k : known ws u ≡ true) (at : state ws u ≡ g) where
  pub child_next : c < 256 → get_or t.next g 0 ≡ c → g + 1 ≡ child_of ws u c
  child_next h e =
      let f = is_tree.follows u c k h (ap (λ (x : ℕ). get_or t.next x 0) at ∙ e) in
      omega (arith, at, f.1, child_known ws u c f.0)

  off : (j : ℕ) → branches_off t (state ws u) c j ≡ holds (bit_and (get_or t.forks g 0) (get_or t.keys c 0)) j
  unfolding branches_off
  off j = rw at (sym (holds_and (get_or t.forks g 0) (get_or t.keys c 0) j))

  pub child_head : (r : ℕ) → bit_and (get_or t.forks g 0) (get_or t.keys c 0) ≢ 0 → Top (bit_and (get_or t.forks g 0) (get_or t.keys c 0)) r →
      get_or t.heads r 0 ≡ child_of ws u c
  child_head r some top =
      let f = is_tree.branches u c r k (off r ∙ top.held some) in
      sym (child_known ws u c f.0 ∙ f.1)

  pub child_no_other : get_or t.next g 0 ≢ c → bit_and (get_or t.forks g 0) (get_or t.keys c 0) ≡ 0 → 0 ≡ child_of ws u c
  child_no_other n z =
      sym
      (child_none ws u c
      (is_tree.no_other u c k (rw at n) (λ j. off j ∙ ap (λ (m : ℕ). holds m j) z ∙ holds_zero j)))

-- LABELS: those before i are there, one more, and all of a code
pub record Labelling (s i : ℕ) (w a b : List ℕ) : Type 0 where
  pub some : 1 ≤ i
  pub few : i ≤ length w + (1 - length w)
  pub inner : (k : ℕ) → 1 ≤ k → k < i → get_or b (s + k) 0 ≡ get_or w k 0
  pub before : (g : ℕ) → g ≤ s → get_or b g 0 ≡ get_or a g 0
  pub behind : (g : ℕ) → s + i ≤ g → get_or b g 0 ≡ get_or a g 0
  pub long : length b ≡ length a

pub labels_start : (s : ℕ) (w a : List ℕ) → Labelling s 1 w a a
labels_start s w a =
    record {
      some = omega arith;
      few = omega arith;
      inner = λ (k : ℕ) (h : 1 ≤ k) (l : k < 1). absurd (omega arith);
      before = λ g h. refl;
      behind = λ g h. refl;
      long = refl;
    }

pub labels_more : {s i : ℕ} {w a b : List ℕ} → i < length w → s + i < length b → Labelling s i w a b →
    Labelling s (i + 1) w a (set b (s + i) (get_or w i 0))
labels_more {s} {i} {w} {a} {b} below inside x =
    record {
      some = omega arith;
      few = omega arith;
      inner =
          λ (k : ℕ) (h : 1 ≤ k) (l : k < i + 1).
          by_eq k i
          (λ (e : k ≡ i). rw e (get_or-set_same b (s + i) (get_or w i 0) 0 inside))
          (λ (n : k ≢ i). get_or-set_other b (s + i) (s + k) (get_or w i 0) 0 (λ (e : s + k ≡ s + i). n (omega arith)) ∙ x.inner k h (omega arith));
      before =
          λ (g : ℕ) (h : g ≤ s). get_or-set_other b (s + i) g (get_or w i 0) 0 (λ (e : g ≡ s + i). absurd (omega (arith, x.some))) ∙ x.before g h;
      behind =
          λ (g : ℕ) (h : s + (i + 1) ≤ g).
          get_or-set_other b (s + i) g (get_or w i 0) 0 (λ (e : g ≡ s + i). absurd (omega arith)) ∙ x.behind g (omega arith);
      long = length-set b (s + i) (get_or w i 0) ∙ x.long;
    }

pub labels_end : {s i : ℕ} {w a b : List ℕ} → length w ≤ i → Labelling s i w a b → Labelled s w a b
labels_end {s} {i} {w} h x =
    record {
      inner = λ (j : ℕ) (p : 1 ≤ j) (q : j < length w). x.inner j p (omega arith);
      before = x.before;
      behind =
          λ (g : ℕ) (p : s + length w ≤ g).
          by_le g s (λ (q : g ≤ s). x.before g q) (λ (q : s < g). x.behind g (omega (arith, x.few)));
      long = x.long;
    }

-- FOLLOWED so far: d bytes, to state g
pub record Going (ws : List (List ℕ)) (w : List ℕ) (g d : ℕ) : Type 0 where
  pub known_is : known ws (take d w) ≡ true
  pub state_is : g ≡ state ws (take d w)

pub going_start : (ws : List (List ℕ)) (w : List ℕ) → Going ws w 0 0
going_start ws w = record { known_is = known_nil ws; state_is = sym (state_nil ws) }

module _ {ws : List (List ℕ)} {w : List ℕ} {g d : ℕ} (x : Going ws w g d) where
  pub going_end : (n : ℕ) → n ≡ length w → n ≤ d → d ≤ n → Went ws w g n
  going_end n size h k =
      let at : d ≡ n = omega arith in
      rw (← at) (record { within = omega arith; known_is = x.known_is; state_is = x.state_is; stops = λ (q : d < length w). absurd (omega arith) })

  module _ (c h : ℕ) (below : d < length w) (byte-is : get_or w d 0 ≡ c) (is-child : h ≡ child_of ws (take d w) c) where
    longer : take (suc d) w ≡ take d w ++ (c ∷ [])
    longer = take-suc w d 0 below ∙ ap (λ (b : ℕ). take d w ++ (b ∷ [])) byte-is

    pub going_stop : h ≡ 0 → Went ws w g d
    going_stop z =
        record {
          within = omega arith;
          known_is = x.known_is;
          state_is = x.state_is;
          stops = λ q. ap (known ws) longer ∙ child_zero ws (take d w) c (sym is-child ∙ z);
        }

    pub going_more : h ≢ 0 → Going ws w h (d + 1)
    going_more n =
        let k = child_some ws (take d w) c (λ e. n (is-child ∙ e)) in
        let at : suc d ≡ d + 1 = omega arith in
        let more : take (d + 1) w ≡ take d w ++ (c ∷ []) = rw (← at) longer in
        record { known_is = ap (known ws) more ∙ k.0; state_is = is-child ∙ k.1 ∙ ap (state ws) (sym more) }
