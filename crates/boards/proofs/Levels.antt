-- The loops over the levels: the starts of one byte more get their links code by code, then those of the next length, until no code is longer. Assumes
-- nothing.
use mathlib.Core.Path.{◌≡◌, refl, sym, ap, ◌∙◌}
use mathlib.Core.Bool.{Bool, true, false, ◌&&◌, ◌||◌, not, and-true, and-false, or-false}
use mathlib.Core.List.{List, [], ◌∷◌, ◌++◌}
use mathlib.Core.Logic.{◌≢◌}
use Prim.Native.Nat.{ℕ, suc, ◌+◌, ◌^◌, ◌≤◌, ◌<◌}
use native.Mathlib.Omega.{arith}
use lib.Dec.{ltb, eqb}
use lib.ListN.{length, get_or, set, take, replicate, length-set, length-take, get_or-replicate}
use lib.Seq.{take-suc, length-take-le, get_or-set_same, get_or-set_other}
use borrow.Author.Tests.{ltb-true, lt-ltb, le-ltb, eq-eqb, ne_eqb}
use Rattle.words.proofs.Tests.{by_test, by_le, by_eq, never_both, and_left, and_right, and_both}
use Rattle.words.proofs.Lists.{every_at}
use Rattle.bits.specs.Bits.{holds, Top, WithBit, WithoutTop}
use Rattle.bits.proofs.Bits.{holds_zero, zero_bits}
use Rattle.automaton.specs.Costs.{sum}
use Rattle.starts.specs.Starts.{code, known, offset, state, start, fallback, number}
use Rattle.starts.proofs.States.{First, known_first, known_at, known_code, start_fits, is_start_take, code_take, start_at, start_state}
use Rattle.starts.proofs.States.{state_nil, state_unshared, offset_fits}
use Rattle.starts.proofs.Codes.{number_few}
use Rattle.starts.proofs.Ends.{fallback_known, fallback_shorter}
use Rattle.boards.specs.declared.links.Links.{Links as LinkLists}
use Rattle.boards.specs.declared.tree.Tree.{Tree as TreeLists}
use Rattle.boards.specs.Board.{cut}
use Rattle.boards.specs.Tables.{Good, Tree, Offsets, Done, Blank, Next, put_byte}
use Rattle.boards.specs.Tables.{Leveling, OnLevel, FirstBits, AllLinked, OnLevels}
use Rattle.boards.proofs.Cuts.{part_at, cut_length, cut_total, cut_code, cut_code_length}
use Rattle.boards.proofs.Puts.{Put, put_byte_is}

-- ONE BIT TAKEN from a word, its highest
record Taken (m r j : ℕ) : Type 0 where
  gone : holds r j ≡ false
  others : (q : ℕ) → q ≢ j → holds r q ≡ holds m q

taken_top : {m r j : ℕ} → Top m j → WithoutTop m r → Taken m r j
taken_top {m} {r} {j} a w =
    record {
      gone = w.each j a j ∙ ap (λ (b : Bool). holds m j && b) (le-ltb j j (omega arith)) ∙ and-false (holds m j);
      others =
          λ q n.
          by_le j q
          (λ (h : j ≤ q). let none = a.above q (omega arith) in w.each j a q ∙ ap (λ (b : Bool). b && ltb q j) none ∙ sym none)
          (λ (h : q < j). w.each j a q ∙ ap (λ (b : Bool). holds m q && b) (lt-ltb q j h) ∙ and-true (holds m q));
    }

-- THE FIRST CODE with a start is one
first_least : (ws : List (List ℕ)) (u : List ℕ) (a b : First ws u) → a.at < b.at → ⊥
first_least ws u a b h =
    never_both
    (known_at (take b.at ws) u a.at (omega (arith, length-take b.at ws, b.below)) (rw (code_take ws a.at b.at h) a.has))
    b.earlier

first_one : (ws : List (List ℕ)) (u : List ℕ) (a b : First ws u) → a.at ≡ b.at
first_one ws u a b =
    by_le a.at b.at
    (λ (h : a.at ≤ b.at). by_le b.at a.at (λ (l : b.at ≤ a.at). omega arith) (λ l. absurd (first_least ws u a b l)))
    (λ l. absurd (first_least ws u b a l))

first_known : (ws : List (List ℕ)) (u : List ℕ) → First ws u → known ws u ≡ true
first_known ws u f = known_at ws u f.at f.below f.has

-- WITHIN A LEVEL: of the starts of d + 1 bytes those have their links whose first code is not left; the others still have their number
pub record Linking (ls bs starts : List ℕ) (t : TreeLists) (k : LinkLists) (at : List ℕ) (left rest d : ℕ) : Type 0 where
  pub good : Good ls bs
  pub is_tree : Tree (cut ls bs) t
  pub offsets : Offsets (cut ls bs) starts
  pub starts_long : 64 ≤ length starts
  pub done : (u : List ℕ) → known (cut ls bs) u ≡ true → length u ≤ d → Done (cut ls bs) k u
  pub linked : (u : List ℕ) → length u ≡ suc d → (f : First (cut ls bs) u) → holds left f.at ≡ false → Done (cut ls bs) k u
  pub unlinked : (u : List ℕ) → length u ≡ suc d → (f : First (cut ls bs) u) → holds left f.at ≡ true →
      get_or k.nearest (state (cut ls bs) u) 0 ≡ number (cut ls bs) u
  pub longer : (u : List ℕ) → known (cut ls bs) u ≡ true → suc d < length u → get_or k.nearest (state (cut ls bs) u) 0 ≡ number (cut ls bs) u
  pub blank : Blank (cut ls bs) k
  pub held : (q : ℕ) → holds left q ≡ true → (q < length (cut ls bs)) × (d < length (code (cut ls bs) q))
  pub rests : (q : ℕ) → holds rest q ≡ not (holds left q) && (ltb q (length (cut ls bs)) && ltb (suc d) (length (code (cut ls bs) q)))
  pub before : (q : ℕ) → holds left q ≡ true → get_or at q 0 ≡ state (cut ls bs) (take d (code (cut ls bs) q))
  pub behind : (q : ℕ) → q < length (cut ls bs) → d < length (code (cut ls bs) q) → holds left q ≡ false →
      get_or at q 0 ≡ state (cut ls bs) (take (suc d) (code (cut ls bs) q))
  pub at_long : 64 ≤ length at

-- two comparisons in one test
both_less : (a b c d : ℕ) → ltb a b && ltb c d ≡ true → (a < b) × (c < d)
both_less a b c d e = (ltb-true a b (and_left (ltb a b) (ltb c d) e), ltb-true c d (and_right (ltb a b) (ltb c d) e))

less_both : (a b c d : ℕ) → a < b → c < d → ltb a b && ltb c d ≡ true
less_both a b c d h l = and_both (ltb a b) (ltb c d) (lt-ltb a b h) (lt-ltb c d l)

-- the word of live codes, read
module _ {ws : List (List ℕ)} {k : LinkLists} {at : List ℕ} {live d : ℕ} (p : Leveling ws k at live d) where
  live_is : (q : ℕ) → holds live q ≡ true → (q < length ws) × (d < length (code ws q))
  live_is q h = both_less q (length ws) d (length (code ws q)) (sym (p.lives q) ∙ h)

  is_live : (q : ℕ) → q < length ws → d < length (code ws q) → holds live q ≡ true
  is_live q h l = p.lives q ∙ less_both q (length ws) d (length (code ws q)) h l

-- a start is within its first code
first_long : (ws : List (List ℕ)) (u : List ℕ) (f : First ws u) → length u ≤ length (code ws f.at)
first_long ws u f = start_fits u (code ws f.at) f.has

-- AT FIRST all live codes are left
none_rests : (l a : Bool) → (a ≡ true → l ≡ true) → false ≡ not l && a
none_rests true a f = refl
none_rests false true f = absurd (never_both (f refl) refl)
none_rests false false f = refl

pub linking_start : {ls bs starts : List ℕ} {t : TreeLists} {k : LinkLists} {at : List ℕ} {live d : ℕ} →
    Good ls bs → 64 ≤ length starts → 64 ≤ length at → OnLevel (cut ls bs) starts t k at live d → Linking ls bs starts t k at live 0 d
linking_start {ls} {bs} {starts} {t} {k} {at} {live} {d} good starts_long at_long p =
    let l = p.leveling in
    let ws = cut ls bs in
    record {
      good = good;
      is_tree = p.is_tree;
      offsets = p.offsets;
      starts_long = starts_long;
      done = l.level.done;
      linked = λ u e f n. absurd (never_both (is_live l f.at f.below (omega (arith, first_long ws u f))) n);
      unlinked = λ u e f n. l.level.left u (first_known ws u f) (omega arith);
      longer = λ u w h. l.level.left u w (omega arith);
      blank = l.level.blank;
      held = live_is l;
      rests =
          λ q.
          holds_zero q
          ∙ none_rests (holds live q) (ltb q (length ws) && ltb (suc d) (length (code ws q)))
          (λ e. let less = both_less q (length ws) (suc d) (length (code ws q)) e in is_live l q less.0 (omega (arith, less.1)));
      before = λ q h. l.states q (live_is l q h).0 (live_is l q h).1;
      behind = λ q h m n. absurd (never_both (is_live l q h m) n);
      at_long = at_long;
    }

-- ONE CODE, the last of those left, number j
module _ {ls bs starts : List ℕ} {t : TreeLists} {k : LinkLists} {at : List ℕ} {left rest d j : ℕ}
    (p : Linking ls bs starts t k at left rest d) (some : left ≢ 0) (top : Top left j) where
  abbrev ws : List (List ℕ)
  ws = cut ls bs

  -- its start of d + 1 bytes
  abbrev v : List ℕ
  v = take (suc d) (code ws j)

  is_left : holds left j ≡ true
  is_left = top.held some

  below : j < length ws
  below = (p.held j is_left).0

  deep : d < length (code ws j)
  deep = (p.held j is_left).1

  sums : sum ls ≤ length bs
  sums = omega (arith, p.good.sums)

  pub linking_number : (j < length ls) × (j < 64)
  linking_number = (omega (arith, below, cut_length ls bs), omega (arith, below, p.is_tree.codes_few))

  pub linking_length : length (code ws j) ≡ get_or ls j 0
  linking_length = cut_code_length ls bs j sums linking_number.0

  -- the place of its byte number d + 1
  abbrev s : ℕ
  s = get_or starts j 0 + d

  place_is : s ≡ offset ws j + d
  place_is = omega (arith, p.offsets j below)

  pub linking_place : (s < length bs) × (s < 2000)
  linking_place = (
    omega (arith, place_is, offset_fits ws j below, deep, cut_total ls bs sums, sums),
    omega (arith, place_is, offset_fits ws j below, deep, p.is_tree.few),
  )

  longer_start : take d (code ws j) ++ (get_or bs s 0 ∷ []) ≡ v
  longer_start =
      let inside : d < get_or ls j 0 = omega (arith, deep, linking_length) in
      let at-d : get_or (code ws j) d 0 ≡ get_or bs s 0 =
      ap (λ (w : List ℕ). get_or w d 0) (cut_code ls bs j sums linking_number.0) ∙ part_at (offset ws j) (get_or ls j 0) bs d inside
      ∙ ap (λ (i : ℕ). get_or bs i 0) (sym place_is) in
      sym (take-suc (code ws j) d 0 deep ∙ ap (λ (x : ℕ). take d (code ws j) ++ (x ∷ [])) at-d)

  v_known : known ws v ≡ true
  v_known = known_code ws j (suc d) below deep

  v_long : length v ≡ suc d
  v_long = length-take-le (suc d) (code ws j) deep

  v_here : start ws (suc s) ≡ v
  v_here =
      let at-v : suc s ≡ offset ws j + suc d = omega (arith, place_is) in
      ap (start ws) at-v ∙ start_at ws j (suc d) below (omega arith) deep

  -- no other start has the state of that byte, and where v has it, j is its first code
  only_v : (u : List ℕ) → known ws u ≡ true → state ws u ≡ suc s → u ≡ v
  only_v u w e = sym (start_state ws u w) ∙ ap (start ws) e ∙ v_here

  only_long : (u : List ℕ) → known ws u ≡ true → state ws u ≡ suc s → length u ≡ suc d
  only_long u w e = ap length (only_v u w e) ∙ v_long

  abbrev own_first : (u : List ℕ) → known ws u ≡ true → state ws u ≡ suc s → First ws u
  own_first u w e =
      record {
        at = j;
        below = below;
        has = rw (only_v u w e) (is_start_take (suc d) (code ws j) deep);
        state_is = omega (arith, place_is, e, only_long u w e);
        earlier = state_unshared ws j u (omega (arith, place_is, e));
      }

  own_number : state ws v ≡ suc s → get_or k.nearest (suc s) 0 ≡ number ws v
  own_number e = ap (λ (g : ℕ). get_or k.nearest g 0) (sym e) ∙ p.unlinked v v_long (own_first v v_known e) is_left

  number_small : get_or k.nearest (suc s) 0 ≤ 64
  number_small =
      by_eq (state ws v) (suc s)
      (λ e. omega (arith, own_number e, number_few ws v, p.is_tree.codes_few))
      (λ n.
      let none =
      p.blank.none (suc s)
      (λ u w e. n (ap (state ws) (sym (only_v u w e)) ∙ e)) in
      omega (arith, none.2))

  pub linking_next : Next ws t k (take d (code ws j)) (get_or at j 0) (get_or bs s 0) s d
  linking_next =
      record {
        is_tree = p.is_tree;
        known_is = rw longer_start v_known;
        state_is = sym (p.before j is_left);
        depth_is = length-take-le d (code ws j) (omega (arith, deep));
        within = omega (arith, place_is, offset_fits ws j below, deep);
        linked =
            record {
              to = λ u w h. (p.done u w h).link;
              size = λ u w h. (p.done u w h).size;
              long = p.blank.links_long;
            };
        blank = p.blank;
        small = number_small;
      }

  put_here : Put ws k (put_byte ws k v s) (suc s)
  put_here =
      put_byte_is ws k v s p.is_tree.few p.is_tree.codes_few p.blank v_known v_here own_number
      (p.done (fallback ws v) (fallback_known ws v) (omega (arith, fallback_shorter ws v (omega (arith, v_long)), v_long)))

  -- what is left over after it
  rests_turn : (left' rest' : ℕ) → Taken left left' j → ((q : ℕ) → holds rest' q ≡ holds rest q || (eqb q j && ltb (suc d) (length (code ws j)))) →
      (q : ℕ) → holds rest' q ≡ not (holds left' q) && (ltb q (length ws) && ltb (suc d) (length (code ws q)))
  rests_turn left' rest' x r q =
      by_eq q j
      (λ (e : q ≡ j).
      rw (e, r j, p.rests j, is_left, x.gone, eq-eqb j j refl, lt-ltb j (length ws) below) refl)
      (λ (n : q ≢ j). rw (r q, ne_eqb q j n, x.others q n, or-false) (p.rests q))

  -- what link_byte promises
  abbrev pub Result : (k' : LinkLists) → (r : ℕ) → Type 0
  Result k' r =
      (r ≡ state ws (take d (code ws j) ++ (get_or bs s 0 ∷ []))) × (k' ≡ put_byte ws k (take d (code ws j) ++ (get_or bs s 0 ∷ [])) s)

  linking_turn : (left' rest' r : ℕ) (k' : LinkLists) → Taken left left' j →
      ((q : ℕ) → holds rest' q ≡ holds rest q || (eqb q j && ltb (suc d) (length (code ws j)))) → Result k' r →
      Linking ls bs starts t k' (set at j r) left' rest' d
  linking_turn left' rest' r k' x rest-is result =
      let put : Put ws k k' (suc s) = rw (result.1, longer_start) put_here in
      let r-is : r ≡ state ws v = result.0 ∙ ap (state ws) longer_start in
      record {
        good = p.good;
        is_tree = p.is_tree;
        offsets = p.offsets;
        starts_long = p.starts_long;
        done = λ u w h. put.kept u w (λ e. omega (arith, only_long u w e)) (p.done u w h);
        linked =
            λ u e f n.
            let w = first_known ws u f in
            by_eq (state ws u) (suc s) (put.own u w)
            (λ other.
            put.kept u w other
            (p.linked u e f
            (by_eq f.at j
            (λ i. absurd (other (f.state_is ∙ ap (λ (i : ℕ). offset ws i + length u) i ∙ omega (arith, place_is))))
            (λ i. sym (x.others f.at i) ∙ n))));
        unlinked =
            λ u e f n.
            let w = first_known ws u f in
            let not-j : f.at ≢ j = λ i. never_both (rw i at n) x.gone in
            put.other (state ws u) (λ i. not-j (first_one ws u f (own_first u w i)))
            ∙ p.unlinked u e f (sym (x.others f.at not-j) ∙ n);
        longer = λ u w h. put.other (state ws u) (λ e. omega (arith, only_long u w e)) ∙ p.longer u w h;
        blank = put.blank;
        held =
            λ q h.
            by_eq q j
            (λ (e : q ≡ j). absurd (never_both (rw e at h) x.gone))
            (λ (n : q ≢ j). p.held q (sym (x.others q n) ∙ h));
        rests = rests_turn left' rest' x rest-is;
        before =
            λ q h.
            by_eq q j
            (λ (e : q ≡ j). absurd (never_both (rw e at h) x.gone))
            (λ (n : q ≢ j). get_or-set_other at j q r 0 n ∙ p.before q (sym (x.others q n) ∙ h));
        behind =
            λ q h l m.
            by_eq q j
            (λ (e : q ≡ j). rw e (get_or-set_same at j r 0 (omega (arith, linking_number.1, p.at_long)) ∙ r-is))
            (λ (n : q ≢ j). get_or-set_other at j q r 0 n ∙ p.behind q h l (sym (x.others q n) ∙ m));
        at_long = omega (arith, length-set at j r, p.at_long);
      }

  -- its bit is put among the rest if it has another byte
  pub linking_more : (left' rest' r : ℕ) (k' : LinkLists) → WithoutTop left left' → suc d < get_or ls j 0 → WithBit rest j rest' → Result k' r →
      Linking ls bs starts t k' (set at j r) left' rest' d
  linking_more left' rest' r k' w long more =
      linking_turn left' rest' r k' (taken_top top w)
      (λ q.
      rw (lt-ltb (suc d) (length (code ws j)) (omega (arith, linking_length))) (rw (lt-ltb j 64 linking_number.1) at (more.each q)))

  pub linking_last : (left' r : ℕ) (k' : LinkLists) → WithoutTop left left' → get_or ls j 0 ≤ suc d → Result k' r →
      Linking ls bs starts t k' (set at j r) left' rest d
  linking_last left' r k' w short =
      linking_turn left' rest r k' (taken_top top w)
      (λ q. rw (le-ltb (suc d) (length (code ws j)) (omega (arith, linking_length)), and-false, or-false) refl)

-- AT THE END none is left
pub linking_end : {ls bs starts : List ℕ} {t : TreeLists} {k : LinkLists} {at : List ℕ} {left rest d : ℕ} →
    Linking ls bs starts t k at left rest d → left ≡ 0 → Leveling (cut ls bs) k at rest (suc d)
linking_end {ls} {bs} {starts} {t} {k} {at} {left} {rest} {d} p z =
    let ws = cut ls bs in
    let none : (q : ℕ) → holds left q ≡ false = λ q. rw z (holds_zero q) in
    record {
      level =
          record {
            done =
                λ u w h.
                by_le (length u) d (p.done u w)
                (λ (l : d < length u). p.linked u (omega arith) (known_first ws u w (omega arith)) (none (known_first ws u w (omega arith)).at));
            left = p.longer;
            blank = p.blank;
          };
      states = λ q h l. p.behind q h (omega arith) (none q);
      lives = λ q. p.rests q ∙ ap (λ (b : Bool). not b && (ltb q (length ws) && ltb (suc d) (length (code ws q)))) (none q);
    }

-- LEVEL BY LEVEL
pub record Climbing (ls bs starts : List ℕ) (t : TreeLists) (k : LinkLists) (at : List ℕ) (live d : ℕ) : Type 0 where
  pub good : Good ls bs
  pub on : OnLevel (cut ls bs) starts t k at live d
  pub fits : live < 2 ^ 64

-- at first the states of all codes are that of the empty start, and all are live
pub climbing_start : {ls bs starts : List ℕ} {t : TreeLists} {k : LinkLists} (live : ℕ) → Good ls bs → OnLevels (cut ls bs) starts t k →
    FirstBits (length ls) live → live < 2 ^ 64 → Climbing ls bs starts t k (replicate 64 0) live 0
climbing_start {ls} {bs} {starts} {t} {k} live good p bits fits =
    let ws = cut ls bs in
    let filled : (q : ℕ) → q < length ls → 0 < length (code ws q) =
    λ q h. omega (arith, every_at (λ l. 1 ≤ l) ls q good.filled h, cut_code_length ls bs q (omega (arith, good.sums)) h) in
    record {
      good = good;
      on =
          record {
            is_tree = p.is_tree;
            offsets = p.offsets;
            leveling =
                record {
                  level = p.level;
                  states = λ q h l. get_or-replicate 64 q 0 0 (omega (arith, p.is_tree.codes_few)) ∙ sym (state_nil ws);
                  lives =
                      λ q.
                      bits q ∙ rw (cut_length ls bs)
                      (by_le (length ls) q
                      (λ (h : length ls ≤ q). rw (le-ltb q (length ls) h) refl)
                      (λ (h : q < length ls). rw (lt-ltb q (length ls) h, lt-ltb 0 (length (code ws q)) (filled q h)) refl));
                };
          };
      fits = fits;
    }

module _ {ls bs starts : List ℕ} {t : TreeLists} {k : LinkLists} {at : List ℕ} {live d : ℕ} (p : Climbing ls bs starts t k at live d) where
  -- while a code is live, the depth is below its length
  pub climbing_below : live ≢ 0 → d < 2000
  climbing_below some =
      by_le 2000 d
      (λ (h : 2000 ≤ d).
      absurd (some (zero_bits live p.fits (λ q l.
      by_test (holds live q)
      (λ e.
      let is = live_is p.on.leveling q e in
      absurd (omega (arith, is.1, offset_fits (cut ls bs) q is.0, p.on.is_tree.few)))
      (λ e. e)))))
      (λ h. h)

  pub climbing_turn : (k' : LinkLists) (at' : List ℕ) (live' : ℕ) → Leveling (cut ls bs) k' at' live' (suc d) → live' < 2 ^ 64 →
      Climbing ls bs starts t k' at' live' (suc d)
  climbing_turn k' at' live' l fits =
      record {
        good = p.good;
        on =
            record {
              is_tree = p.on.is_tree;
              offsets = p.on.offsets;
              leveling = l;
            };
        fits = fits;
      }

  -- at the end no code is longer, so no start is
  pub climbing_end : live ≡ 0 → AllLinked (cut ls bs) k
  climbing_end z =
      let ws = cut ls bs in
      let l = p.on.leveling in
      record {
        done =
            λ u w.
            by_le (length u) d (l.level.done u w)
            (λ (h : d < length u).
            let f = known_first ws u w (omega arith) in
            absurd (never_both (is_live l f.at f.below (omega (arith, first_long ws u f))) (rw z (holds_zero f.at))));
        blank = l.level.blank;
      }
