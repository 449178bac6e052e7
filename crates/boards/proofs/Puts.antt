-- What putting one state's links changes: its own links and no other start's, and that nothing stands where no state is. Assumes nothing.
use mathlib.Core.Path.{◌≡◌, refl, sym, ap, ◌∙◌}
use mathlib.Core.Bool.{true}
use mathlib.Core.List.{List}
use mathlib.Core.Logic.{◌≢◌}
use Prim.Native.Nat.{ℕ, suc, ◌+◌, ◌*◌, ◌-◌, ◌≤◌, ◌<◌}
use native.Mathlib.Omega.{arith}
use lib.ListN.{length, get_or, set, length-set}
use lib.Seq.{get_or-set_same, get_or-set_other}
use borrow.Author.Tests.{eq-eqb, ne_eqb}
use Rattle.words.proofs.Tests.{by_test, by_eq}
use Rattle.starts.specs.Starts.{code, known, total, state, start, fallback, is_code, index, number, nearest, shorter}
use Rattle.starts.proofs.States.{state_within, start_state}
use Rattle.starts.proofs.Codes.{code_index, number_code, number_none, number_few}
use Rattle.starts.proofs.Nearest.{nearest_code, nearest_back, shorter_back}
use Rattle.boards.specs.declared.links.Links.{Links as LinkLists}
use Rattle.boards.specs.Tables.{put_state, put_byte, Done, Blank}

-- LISTS as long as others
pub record AsLong (a b : LinkLists) : Type 0 where
  pub links : length b.links ≡ length a.links
  pub nearest : length b.nearest ≡ length a.nearest
  pub shorter : length b.shorter ≡ length a.shorter

module _ (k : LinkLists) (g f d : ℕ) where
  put_links : (put_state k g f d).links ≡ set (set k.links (2 * g) f) (2 * g + 1) d
  unfolding put_state
  put_links = refl

  put_nearest_none : get_or k.nearest g 0 ≡ 0 → (put_state k g f d).nearest ≡ set k.nearest g (get_or k.nearest f 0)
  unfolding put_state
  put_nearest_none e = rw (eq-eqb (get_or k.nearest g 0) 0 e)

  put_nearest_own : get_or k.nearest g 0 ≢ 0 → (put_state k g f d).nearest ≡ k.nearest
  unfolding put_state
  put_nearest_own n = rw (ne_eqb (get_or k.nearest g 0) 0 n)

  put_shorter_none : get_or k.nearest g 0 ≡ 0 → (put_state k g f d).shorter ≡ k.shorter
  unfolding put_state
  put_shorter_none e = rw (eq-eqb (get_or k.nearest g 0) 0 e)

  put_shorter_own : get_or k.nearest g 0 ≢ 0 →
      (put_state k g f d).shorter ≡ set k.shorter (get_or k.nearest g 0 - 1) (get_or k.nearest f 0)
  unfolding put_state
  put_shorter_own n = rw (ne_eqb (get_or k.nearest g 0) 0 n)

  put_long : AsLong k (put_state k g f d)
  put_long =
      record {
        links = ap length put_links ∙ length-set (set k.links (2 * g) f) (2 * g + 1) d ∙ length-set k.links (2 * g) f;
        nearest =
            by_eq (get_or k.nearest g 0) 0
            (λ e. ap length (put_nearest_none e) ∙ length-set k.nearest g (get_or k.nearest f 0))
            (λ n. ap length (put_nearest_own n));
        shorter =
            by_eq (get_or k.nearest g 0) 0
            (λ e. ap length (put_shorter_none e))
            (λ n. ap length (put_shorter_own n) ∙ length-set k.shorter (get_or k.nearest g 0 - 1) (get_or k.nearest f 0));
      }

  -- at other states nothing changes
  module _ (h : ℕ) (other : h ≢ g) where
    put_link_other : get_or (put_state k g f d).links (2 * h) 0 ≡ get_or k.links (2 * h) 0
    put_link_other =
        ap (λ (l : List ℕ). get_or l (2 * h) 0) put_links
        ∙ get_or-set_other (set k.links (2 * g) f) (2 * g + 1) (2 * h) d 0 (λ e. omega arith)
        ∙ get_or-set_other k.links (2 * g) (2 * h) f 0 (λ e. other (omega arith))

    put_size_other : get_or (put_state k g f d).links (2 * h + 1) 0 ≡ get_or k.links (2 * h + 1) 0
    put_size_other =
        ap (λ (l : List ℕ). get_or l (2 * h + 1) 0) put_links
        ∙ get_or-set_other (set k.links (2 * g) f) (2 * g + 1) (2 * h + 1) d 0 (λ e. other (omega arith))
        ∙ get_or-set_other k.links (2 * g) (2 * h + 1) f 0 (λ e. omega arith)

    put_nearest_other : get_or (put_state k g f d).nearest h 0 ≡ get_or k.nearest h 0
    put_nearest_other =
        by_eq (get_or k.nearest g 0) 0
        (λ e. ap (λ (l : List ℕ). get_or l h 0) (put_nearest_none e) ∙ get_or-set_other k.nearest g h (get_or k.nearest f 0) 0 other)
        (λ n. ap (λ (l : List ℕ). get_or l h 0) (put_nearest_own n))

  -- the state's own link and length
  put_link : 2 * g + 1 < length k.links → get_or (put_state k g f d).links (2 * g) 0 ≡ f
  put_link room =
      ap (λ (l : List ℕ). get_or l (2 * g) 0) put_links
      ∙ get_or-set_other (set k.links (2 * g) f) (2 * g + 1) (2 * g) d 0 (λ e. omega arith)
      ∙ get_or-set_same k.links (2 * g) f 0 (omega arith)

  put_size : 2 * g + 1 < length k.links → get_or (put_state k g f d).links (2 * g + 1) 0 ≡ d
  put_size room =
      ap (λ (l : List ℕ). get_or l (2 * g + 1) 0) put_links
      ∙ get_or-set_same (set k.links (2 * g) f) (2 * g + 1) d 0 (omega (arith, length-set k.links (2 * g) f))

-- two codes with one number are one
number_tells : (ws : List (List ℕ)) (u v : List ℕ) (i : ℕ) → number ws u ≡ suc i → number ws v ≡ suc i → u ≡ v
number_tells ws u v i a b =
    by_test (is_code ws u)
    (λ p.
    by_test (is_code ws v)
    (λ q.
    let same : index ws u ≡ index ws v = omega (arith, number_code ws u p, number_code ws v q) in
    sym (code_index ws u p) ∙ ap (code ws) same ∙ code_index ws v q)
    (λ q. absurd (omega (arith, number_none ws v q))))
    (λ p. absurd (omega (arith, number_none ws u p)))

-- THE LINKS OF ONE START, v, are put, where those of its failure link are there
module _ (ws : List (List ℕ)) (k : LinkLists) (v : List ℕ) (few : total ws ≤ 2000) (codes_few : length ws ≤ 64) (blank : Blank ws k)
    (is_Known : known ws v ≡ true) (free : get_or k.nearest (state ws v) 0 ≡ number ws v) (back : Done ws k (fallback ws v)) where
  abbrev put : LinkLists
  put = put_state k (state ws v) (state ws (fallback ws v)) (length v)

  links_room : 2 * state ws v + 1 < length k.links
  links_room = omega (arith, state_within ws v is_Known, blank.links_long)

  put_near : get_or put.nearest (state ws v) 0 ≡ nearest ws v
  put_near =
      by_test (is_code ws v)
      (λ e.
      let some : get_or k.nearest (state ws v) 0 ≢ 0 = λ z. omega (arith, free, number_code ws v e) in
      ap (λ (l : List ℕ). get_or l (state ws v) 0) (put_nearest_own k (state ws v) (state ws (fallback ws v)) (length v) some)
      ∙ free ∙ sym (nearest_code ws v e))
      (λ e.
      ap (λ (l : List ℕ). get_or l (state ws v) 0)
      (put_nearest_none k (state ws v) (state ws (fallback ws v)) (length v) (free ∙ number_none ws v e))
      ∙ get_or-set_same k.nearest (state ws v) (get_or k.nearest (state ws (fallback ws v)) 0) 0
      (omega (arith, state_within ws v is_Known, blank.nearest_long))
      ∙ back.near ∙ sym (nearest_back ws v e))

  put_short : (j : ℕ) → number ws v ≡ suc j → get_or put.shorter j 0 ≡ shorter ws v
  put_short j e =
      let some : get_or k.nearest (state ws v) 0 ≢ 0 = λ z. omega (arith, free) in
      let at : get_or k.nearest (state ws v) 0 - 1 ≡ j = omega (arith, free) in
      ap (λ (l : List ℕ). get_or l j 0) (put_shorter_own k (state ws v) (state ws (fallback ws v)) (length v) some)
      ∙ ap (λ (i : ℕ). get_or (set k.shorter i (get_or k.nearest (state ws (fallback ws v)) 0)) j 0) at
      ∙ get_or-set_same k.shorter j (get_or k.nearest (state ws (fallback ws v)) 0) 0
      (omega (arith, number_few ws v, blank.shorter_long))
      ∙ back.near ∙ sym (shorter_back ws v)

  put_done : Done ws put v
  put_done =
      record {
        link = put_link k (state ws v) (state ws (fallback ws v)) (length v) links_room;
        size = put_size k (state ws v) (state ws (fallback ws v)) (length v) links_room;
        near = put_near;
        short = put_short;
      }

  put_short_other : (u : List ℕ) → known ws u ≡ true → state ws u ≢ state ws v → (j : ℕ) → number ws u ≡ suc j →
      get_or put.shorter j 0 ≡ get_or k.shorter j 0
  put_short_other u p other j e =
      by_eq (get_or k.nearest (state ws v) 0) 0
      (λ z. ap (λ (l : List ℕ). get_or l j 0) (put_shorter_none k (state ws v) (state ws (fallback ws v)) (length v) z))
      (λ n.
      let else : j ≢ get_or k.nearest (state ws v) 0 - 1 =
      λ i. other (ap (state ws) (number_tells ws u v j e (omega (arith, free)))) in
      ap (λ (l : List ℕ). get_or l j 0) (put_shorter_own k (state ws v) (state ws (fallback ws v)) (length v) n)
      ∙ get_or-set_other k.shorter (get_or k.nearest (state ws v) 0 - 1) j (get_or k.nearest (state ws (fallback ws v)) 0) 0 else)

  put_kept : (u : List ℕ) → known ws u ≡ true → state ws u ≢ state ws v → Done ws k u → Done ws put u
  put_kept u p other a =
      record {
        link = put_link_other k (state ws v) (state ws (fallback ws v)) (length v) (state ws u) other ∙ a.link;
        size = put_size_other k (state ws v) (state ws (fallback ws v)) (length v) (state ws u) other ∙ a.size;
        near = put_nearest_other k (state ws v) (state ws (fallback ws v)) (length v) (state ws u) other ∙ a.near;
        short = λ j e. put_short_other u p other j e ∙ a.short j e;
      }

  put_blank : Blank ws put
  put_blank =
      let sizes = put_long k (state ws v) (state ws (fallback ws v)) (length v) in
      record {
        none =
            λ g n.
            let other : g ≢ state ws v = λ e. n v is_Known (sym e) in
            let was = blank.none g n in (
              put_link_other k (state ws v) (state ws (fallback ws v)) (length v) g other ∙ was.0,
              put_size_other k (state ws v) (state ws (fallback ws v)) (length v) g other ∙ was.1,
              put_nearest_other k (state ws v) (state ws (fallback ws v)) (length v) g other ∙ was.2,
            );
        links_long = omega (arith, sizes.links, blank.links_long);
        nearest_long = omega (arith, sizes.nearest, blank.nearest_long);
        shorter_long = omega (arith, sizes.shorter, blank.shorter_long);
      }

-- THE STATE g HAS ITS LINKS, if it is one; the others keep theirs
pub record Put (ws : List (List ℕ)) (k k' : LinkLists) (g : ℕ) : Type 0 where
  pub own : (u : List ℕ) → known ws u ≡ true → state ws u ≡ g → Done ws k' u
  pub kept : (u : List ℕ) → known ws u ≡ true → state ws u ≢ g → Done ws k u → Done ws k' u
  pub other : (h : ℕ) → h ≢ g → get_or k'.nearest h 0 ≡ get_or k.nearest h 0
  pub blank : Blank ws k'

module _ (ws : List (List ℕ)) (k : LinkLists) (v : List ℕ) (s : ℕ) where
  put_byte_own : state ws v ≡ suc s → put_byte ws k v s ≡ put_state k (state ws v) (state ws (fallback ws v)) (length v)
  unfolding put_byte
  put_byte_own e = rw (eq-eqb (state ws v) (suc s) e) (ap (λ (g : ℕ). put_state k g (state ws (fallback ws v)) (length v)) (sym e))

  put_byte_none : state ws v ≢ suc s → put_byte ws k v s ≡ k
  unfolding put_byte
  put_byte_none n = rw (ne_eqb (state ws v) (suc s) n)

  -- v is the start that ends with byte number s + 1
  pub put_byte_is : total ws ≤ 2000 → length ws ≤ 64 → Blank ws k → known ws v ≡ true → start ws (suc s) ≡ v →
      (state ws v ≡ suc s → get_or k.nearest (suc s) 0 ≡ number ws v) → Done ws k (fallback ws v) → Put ws k (put_byte ws k v s) (suc s)
  put_byte_is few codes_few blank is_Known here free back =
      let is-v : (u : List ℕ) → known ws u ≡ true → state ws u ≡ suc s → u ≡ v =
      λ u p e. sym (start_state ws u p) ∙ ap (start ws) e ∙ here in
      by_eq (state ws v) (suc s)
      (λ (e : state ws v ≡ suc s).
      let unset : get_or k.nearest (state ws v) 0 ≡ number ws v = rw e (free e) in
      rw (put_byte_own e)
      (record {
        own = λ u p q. rw (is-v u p q) (put_done ws k v few codes_few blank is_Known unset back);
        kept = λ u p n. put_kept ws k v few codes_few blank is_Known unset back u p (λ q. n (q ∙ e));
        other = λ h n. put_nearest_other k (state ws v) (state ws (fallback ws v)) (length v) h (λ q. n (q ∙ e));
        blank = put_blank ws k v few codes_few blank is_Known unset back;
      }))
      (λ (n : state ws v ≢ suc s).
      rw (put_byte_none n)
      (record {
        own = λ u p q. absurd (n (ap (state ws) (sym (is-v u p q)) ∙ q));
        kept = λ u p m a. a;
        other = λ h m. refl;
        blank = blank;
      }))
