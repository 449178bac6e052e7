-- Steps from state to state, links put, and bits set in turn. Assumes nothing.
use mathlib.Core.Path.{◌≡◌, refl, sym, ap, ◌∙◌}
use mathlib.Core.Bool.{true, false, or-true, or-false}
use mathlib.Core.List.{List, [], ◌∷◌, ◌++◌}
use mathlib.Core.Logic.{◌≢◌}
use Prim.Native.Nat.{ℕ, suc, ◌+◌, ◌*◌, ◌-◌, ◌≤◌, ◌<◌}
use native.Mathlib.Omega.{arith}
use lib.Dec.{ltb}
use lib.ListN.{length, get_or, set}
use borrow.Author.Tests.{lt-ltb, le-ltb, eq-eqb, ne_eqb}
use Rattle.words.proofs.Tests.{by_test, by_le, by_eq}
use Rattle.words.proofs.Lists.{length_snoc}
use Rattle.bits.specs.Bits.{WithBit}
use Rattle.bits.proofs.Bits.{holds_zero}
use Rattle.starts.specs.Starts.{known, state, reached, fallback}
use Rattle.starts.proofs.States.{known_nil, known_front, state_nil, state_some, state_within, state_one}
use Rattle.starts.proofs.Ends.{fallback_is, fallback_known, fallback_shorter, fallback_one, fallback_next, step_known, step_back, step_none}
use Rattle.boards.specs.declared.links.Links.{Links as LinkLists}
use Rattle.boards.specs.declared.tree.Tree.{Tree as TreeLists}
use Rattle.boards.specs.Tables.{Tree, child_of, Linked, tables, OnState, put_state, Next, put_byte, FirstBits}

-- BITS: none, and one more above those that are set
pub first_bits_none : FirstBits 0 0
first_bits_none q = holds_zero q ∙ sym (le-ltb q 0 (omega arith))

pub first_bits_more : (j m r : ℕ) → j < 64 → FirstBits j m → WithBit m j r → FirstBits (j + 1) r
first_bits_more j m r h f w q =
    rw (w.each q, f q, lt-ltb j 64 h)
    (by_eq q j
    (λ (e : q ≡ j). rw (eq-eqb q j e, or-true (ltb q j)) (sym (lt-ltb q (j + 1) (omega arith))))
    (λ (e : q ≢ j).
    rw (ne_eqb q j e, or-false (ltb q j))
    (by_le j q
    (λ (l : j ≤ q). le-ltb q j l ∙ sym (le-ltb q (j + 1) (omega arith)))
    (λ (l : q < j). lt-ltb q j l ∙ sym (lt-ltb q (j + 1) (omega arith))))))

-- PUTTING a state's links, where it has no code of its own and where it has one
module _ (l n s : List ℕ) (g f d : ℕ) where
  pub put_none : get_or n g 0 ≡ 0 →
      tables (set (set l (2 * g) f) (2 * g + 1) d) (set n g (get_or n f 0)) s ≡ put_state (tables l n s) g f d
  unfolding put_state
  put_none e = rw (eq-eqb (get_or n g 0) 0 e) refl

  pub put_own : (own : ℕ) → own ≡ get_or n g 0 → own ≢ 0 →
      tables (set (set l (2 * g) f) (2 * g + 1) d) n (set s (own - 1) (get_or n f 0)) ≡ put_state (tables l n s) g f d
  unfolding put_state
  put_own own e some = rw (← e, ne_eqb own 0 some) refl

-- THE CHILD by a byte is 0 exactly where there is none
module _ (ws : List (List ℕ)) (u : List ℕ) (c : ℕ) where
  child_is : known ws (u ++ (c ∷ [])) ≡ true → child_of ws u c ≡ state ws (u ++ (c ∷ []))
  unfolding child_of
  child_is k = rw k refl

  child_unknown : known ws (u ++ (c ∷ [])) ≡ false → child_of ws u c ≡ 0
  unfolding child_of
  child_unknown k = rw k refl

  child_none : child_of ws u c ≡ 0 → known ws (u ++ (c ∷ [])) ≡ false
  child_none e =
      by_test (known ws (u ++ (c ∷ [])))
      (λ k. absurd (omega (arith, e, child_is k, state_some ws (u ++ (c ∷ [])) k, length_snoc u c)))
      (λ k. k)

  child_some : child_of ws u c ≢ 0 → known ws (u ++ (c ∷ [])) ≡ true
  child_some n = by_test (known ws (u ++ (c ∷ []))) (λ k. k) (λ k. absurd (n (child_unknown k)))

-- STATES: how many there are at most, and that of a start that has bytes
pub state_few : {ws : List (List ℕ)} {t : TreeLists} {g : ℕ} (u : List ℕ) → Tree ws t → known ws u ≡ true → state ws u ≡ g → g ≤ 2000
state_few {ws} u t k e = omega (arith, e, state_within ws u k, t.few)

state_empty : (ws : List (List ℕ)) (u : List ℕ) → known ws u ≡ true → state ws u ≡ 0 → u ≡ []
state_empty ws u k e = state_one ws u [] k (known_nil ws) (e ∙ sym (state_nil ws))

state_deep : (ws : List (List ℕ)) (u : List ℕ) → state ws u ≢ 0 → 1 ≤ length u
state_deep ws [] n = absurd (n (state_nil ws))
state_deep ws (c ∷ u) n = omega arith

-- THE FAILURE LINK as it stands in the list, which has that of each start of at most n bytes
pub link_to : {ws : List (List ℕ)} {n : ℕ} {links : List ℕ} {g : ℕ} (u : List ℕ) (f : ℕ) → Linked ws n links → known ws u ≡ true → length u ≤ n →
    state ws u ≡ g → f ≡ get_or links (2 * g) 0 → f ≡ state ws (fallback ws u)
link_to {links = links} u f l k h e to = to ∙ ap (λ (x : ℕ). get_or links (2 * x) 0) (sym e) ∙ l.to u k h

linked_less : {ws : List (List ℕ)} {links : List ℕ} (m n : ℕ) → m ≤ n → Linked ws n links → Linked ws m links
linked_less m n h l =
    record { to = λ u k a. l.to u k (omega arith); size = λ u k a. l.size u k (omega arith); long = l.long }

pub link_linked : {ws : List (List ℕ)} {links : List ℕ} (u : List ℕ) → Linked ws (length u) links → Linked ws (length (fallback ws u)) links
link_linked {ws} u l = linked_less (length (fallback ws u)) (length u) (omega (arith, (fallback_is ws u).bound)) l

-- that of one byte more: state 0 after the empty start, else a step from the failure link
module _ (ws : List (List ℕ)) (u : List ℕ) (c : ℕ) where
  pub link_none : known ws u ≡ true → state ws u ≡ 0 → 0 ≡ state ws (fallback ws (u ++ (c ∷ [])))
  link_none k e =
      let short : length (u ++ (c ∷ [])) ≤ 1 = rw (state_empty ws u k e) (omega arith) in
      sym (ap (state ws) (fallback_one ws (u ++ (c ∷ [])) short) ∙ state_nil ws)

  pub link_next : (r : ℕ) → state ws u ≢ 0 → r ≡ state ws (reached ws (fallback ws u ++ (c ∷ []))) → r ≡ state ws (fallback ws (u ++ (c ∷ [])))
  link_next r n e = e ∙ sym (ap (state ws) (fallback_next ws u c (state_deep ws u n)))

-- A STEP BY byte c from u has come to state g: from its start the same is reached
pub record Way (ws : List (List ℕ)) (u : List ℕ) (c g : ℕ) : Type 0 where
  pub at : List ℕ
  pub known_is : known ws at ≡ true
  pub state_is : state ws at ≡ g
  pub short : length at ≤ length u
  pub goes : reached ws (u ++ (c ∷ [])) ≡ reached ws (at ++ (c ∷ []))

pub way_start : (ws : List (List ℕ)) (u : List ℕ) (c g : ℕ) → known ws u ≡ true → state ws u ≡ g → Way ws u c g
way_start ws u c g k e = record { at = u; known_is = k; state_is = e; short = omega arith; goes = refl }

pub way_few : {ws : List (List ℕ)} {u : List ℕ} {c g : ℕ} {t : TreeLists} → Way ws u c g → Tree ws t → g ≤ 2000
way_few w t = state_few w.at t w.known_is w.state_is

-- it ends at a child, or at state 0
module _ {ws : List (List ℕ)} {u : List ℕ} {c g : ℕ} (w : Way ws u c g) (r : ℕ) (e : r ≡ child_of ws w.at c) where
  pub way_child : r ≢ 0 → r ≡ state ws (reached ws (u ++ (c ∷ [])))
  way_child n =
      let k = child_some ws w.at c (λ z. n (e ∙ z)) in
      e ∙ child_is ws w.at c k ∙ sym (ap (state ws) (w.goes ∙ step_known ws w.at c k))

  pub way_none : r ≡ 0 → g ≡ 0 → 0 ≡ state ws (reached ws (u ++ (c ∷ [])))
  way_none z h =
      let nil : w.at ≡ [] = state_empty ws w.at w.known_is (w.state_is ∙ h) in
      let none : known ws (c ∷ []) ≡ false = rw nil at (child_none ws w.at c (sym e ∙ z)) in
      sym (ap (state ws) (w.goes ∙ ap (λ (v : List ℕ). reached ws (v ++ (c ∷ []))) nil ∙ step_none ws c none) ∙ state_nil ws)

  -- else it goes on at the failure link, whose start is shorter
  module _ {links : List ℕ} (l : Linked ws (length u) links) (f : ℕ) (to : f ≡ get_or links (2 * g) 0) (some : g ≢ 0) where
    deep : 1 ≤ length w.at
    deep = state_deep ws w.at (λ z. some (sym w.state_is ∙ z))

    back : f ≡ state ws (fallback ws w.at)
    back = link_to w.at f l w.known_is w.short w.state_is to

    pub way_back : r ≡ 0 → Way ws u c f
    way_back z =
        record {
          at = fallback ws w.at;
          known_is = fallback_known ws w.at;
          state_is = sym back;
          short = omega (arith, w.short, fallback_shorter ws w.at deep);
          goes = w.goes ∙ step_back ws w.at c (child_none ws w.at c (sym e ∙ z)) deep;
        }

    pub way_less : get_or links (2 * f + 1) 0 < get_or links (2 * g + 1) 0
    way_less =
        let less = fallback_shorter ws w.at deep in
        let size = l.size (fallback ws w.at) (fallback_known ws w.at) (omega (arith, less, w.short)) in
        rw (back, size, ← w.state_is, l.size w.at w.known_is w.short) less

-- ONE BYTE MORE of a code: what its two calls need, and what it puts
put_byte_here : (ws : List (List ℕ)) (k : LinkLists) (v : List ℕ) (s : ℕ) → state ws v ≡ suc s →
    put_byte ws k v s ≡ put_state k (suc s) (state ws (fallback ws v)) (length v)
unfolding put_byte
put_byte_here ws k v s e = rw (eq-eqb (state ws v) (suc s) e) refl

put_byte_other : (ws : List (List ℕ)) (k : LinkLists) (v : List ℕ) (s : ℕ) → state ws v ≢ suc s → put_byte ws k v s ≡ k
unfolding put_byte
put_byte_other ws k v s n = rw (ne_eqb (state ws v) (suc s) n) refl

module _ {ws : List (List ℕ)} {t : TreeLists} {k : LinkLists} {u : List ℕ} {g c s d : ℕ} (n : Next ws t k u g c s d) where
  pub next_known : known ws u ≡ true
  next_known = known_front ws u c n.known_is

  pub next_linked : Linked ws (length u) k.links
  next_linked = linked_less (length u) d (omega (arith, n.depth_is)) n.linked

  pub next_few : (s < 2000) × (d < 2000)
  next_few = (
    omega (arith, n.within, n.is_tree.few),
    omega (arith, n.depth_is, length_snoc u c, state_some ws (u ++ (c ∷ [])) n.known_is, state_within ws (u ++ (c ∷ [])) n.known_is, n.is_tree.few),
  )

  module _ (h : ℕ) (e : h ≡ child_of ws u c) where
    pub next_child : h ≡ state ws (u ++ (c ∷ []))
    next_child = e ∙ child_is ws u c n.known_is

    pub next_kept : h ≢ s + 1 → k ≡ put_byte ws k (u ++ (c ∷ [])) s
    next_kept other = sym (put_byte_other ws k (u ++ (c ∷ [])) s (λ z. other (omega (arith, next_child, z))))

    module _ (f : ℕ) (here : h ≡ s + 1) (link : f ≡ state ws (fallback ws (u ++ (c ∷ [])))) where
      at : h ≡ suc s
      at = omega (arith, here)

      pub next_on : OnState k h f (d + 1)
      next_on =
          let few : f ≤ 2000 = state_few (fallback ws (u ++ (c ∷ []))) n.is_tree (fallback_known ws (u ++ (c ∷ []))) (sym link) in
          let b = n.blank in
          record {
            links_room = omega (arith, at, next_few.0, b.links_long);
            nearest_room = omega (arith, at, next_few.0, b.nearest_long);
            link_room = omega (arith, b.nearest_long);
            own_room = rw at (omega (arith, n.small, b.shorter_long));
            link_small = omega arith;
            depth_small = omega (arith, next_few.1);
          }

      pub next_put : {k' : LinkLists} → k' ≡ put_state k h f (d + 1) → k' ≡ put_byte ws k (u ++ (c ∷ [])) s
      next_put put =
          let size : d + 1 ≡ length (u ++ (c ∷ [])) = omega (arith, length_snoc u c, n.depth_is) in
          put ∙ rw (put_byte_here ws k (u ++ (c ∷ [])) s (sym next_child ∙ at), at, link, size) refl
