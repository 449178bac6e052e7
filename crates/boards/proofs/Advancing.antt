-- The next bytes of a piece: some that tell nothing, because no code begins at them, and then one byte, or the first bytes of a code. Assumes nothing.
use mathlib.Core.Path.{◌≡◌, refl, sym, ap, ◌∙◌}
use mathlib.Core.Bool.{true, false}
use mathlib.Core.Logic.{◌≢◌}
use mathlib.Core.List.{List, [], ◌∷◌, ◌++◌}
use Prim.Native.Nat.{ℕ, zero, suc, ◌+◌, ◌-◌, ◌≤◌, ◌<◌}
use native.Mathlib.Nat.{le_refl, add-zero, sub-zero}
use native.Mathlib.Numerals.{add-one}
use native.Mathlib.Omega.{arith}
use lib.Dec.{ltb}
use lib.ListN.{length, get_or, drop}
use lib.Seq.{drop-cons}
use borrow.Author.Tests.{ltb-true}
use Rattle.words.proofs.Tests.{by_eq}
use Rattle.words.proofs.Lists.{length_snoc}
use Rattle.runs.specs.Reading.{fed_more}
use Rattle.runs.proofs.Feeds.{more_none, more_more, feed_on}
use Rattle.starts.specs.Starts.{code, known, state, start, reached}
use Rattle.starts.specs.Hits.{hits_at}
use Rattle.starts.proofs.States.{state_nil, start_state}
use Rattle.starts.proofs.Codes.{code_within}
use Rattle.starts.proofs.Ends.{reached_known, reached_short, reached_nil, reached_self, reached_next, reached_less, reached_tail}
use Rattle.starts.proofs.Nearest.{nearest_short}
use Rattle.starts.proofs.Hits.{hits_none}
use Rattle.boards.specs.declared.fronts.Fronts.{Fronts as FrontLists}
use Rattle.boards.specs.declared.tree.Tree.{Tree as TreeLists}
use Rattle.boards.specs.declared.Watch.{Watch}
use Rattle.boards.specs.Fronts.{Fronts, common_at, Passed, Stopped, Entering, OnEnter, Enters}
use Rattle.boards.specs.Tables.{part, OnLinks, ToldLinks}
use Rattle.boards.specs.Feed.{stepped, reported, with_byte, feeder, feed}
use Rattle.boards.specs.Inside.{Advancing, Advanced}
use Rattle.boards.proofs.Cuts.{part_length, part_more, part_first}
use Rattle.boards.proofs.FirstBytes.{common_none, passed_none}
use Rattle.boards.proofs.Watching.{stepped_from}

-- WHAT TELLS NOTHING: the bytes from one index on to another lead from state g to state h and have no hits
record Silent (ws : List (List ℕ)) (piece : List ℕ) (g i h j : ℕ) : Type 0 where
  onward : i ≤ j
  reads : (x : Watch) (k : ℕ) → x.state ≡ g → length ws ≤ k →
      feed ws (drop i piece) k x
      ≡ fed_more (j - i) [] (feed ws (drop j piece) k (record { state = h; taken = x.taken + (j - i); hits = x.hits }))

-- a watch is the one with its fields
same_watch : (x : Watch) (g : ℕ) → x.state ≡ g → x ≡ record { state = g; taken = x.taken; hits = x.hits }
same_watch x g e = λ i. record { state = e i; taken = x.taken; hits = x.hits }

module _ {ws : List (List ℕ)} {piece : List ℕ} where
  -- bytes whose last has no hit
  silent_read : {u : List ℕ} {g i h j : ℕ} → Advanced ws u piece g i h j → ((n : ℕ) → hits_at ws (start ws h) n ≡ []) → Silent ws piece g i h j
  silent_read {u} {g} {i} {h} {j} a none =
      record {
        onward = omega (arith, a.onward);
        reads = λ x k e l. a.reads x k e l ∙ rw (none (x.taken + (j - i)), sub-zero k, add-zero x.hits) refl;
      }

  -- no byte at all
  silent_none : (g i : ℕ) → Silent ws piece g i g i
  silent_none g i =
      let none : i - i ≡ 0 = omega arith in
      record {
        onward = le_refl i;
        reads = λ x k e l.
            ap (feed ws (drop i piece) k) (same_watch x g e)
            ∙ rw (none, add-zero x.taken) (sym (more_none (feed ws (drop i piece) k (record { state = g; taken = x.taken; hits = x.hits }))));
      }

  -- two stretches that end alike: the longer one as far as the shorter one begins
  silent_until : {g i q m h j : ℕ} → Silent ws piece g i h j → Silent ws piece q m h j → i ≤ m → Silent ws piece g i q m
  silent_until {g} {i} {q} {m} {h} {j} a b l =
      let sum : m - i + (j - m) ≡ j - i = omega (arith, a.onward, b.onward) in
      record {
        onward = l;
        reads = λ x k e r.
            let at : x.taken + (m - i) + (j - m) ≡ x.taken + (j - i) = omega (arith, sum) in
            let y : Watch = record { state = q; taken = x.taken + (m - i); hits = x.hits } in
            let z : Watch = record { state = h; taken = y.taken + (j - m); hits = x.hits } in
            a.reads x k e r
            ∙ sym
            (ap (fed_more (m - i) []) (b.reads y k refl r) ∙ more_more (m - i) (j - m) [] [] (feed ws (drop j piece) k z)
            ∙ rw (sum, at) refl);
      }

  -- before other bytes
  silent_then : {u v : List ℕ} {g i h j s m : ℕ} → Silent ws piece g i h j → length v ≤ length u + (j - i) → Advanced ws v piece h j s m →
      Advanced ws u piece g i s m
  silent_then {u} {v} {g} {i} {h} {j} {s} {m} q l a =
      let sum : j - i + (m - j) ≡ m - i = omega (arith, q.onward, a.onward) in
      record {
        onward = omega (arith, q.onward, a.onward);
        within = a.within;
        state_is = a.state_is;
        short = omega (arith, a.short, sum);
        reads = λ x k e r.
            let at : x.taken + (j - i) + (m - j) ≡ x.taken + (m - i) = omega (arith, sum) in
            let y : Watch = record { state = h; taken = x.taken + (j - i); hits = x.hits } in
            let hs = hits_at ws (start ws s) (y.taken + (m - j)) in
            let z : Watch = record { state = s; taken = y.taken + (m - j); hits = x.hits + length hs } in
            q.reads x k e r ∙ ap (fed_more (j - i) []) (a.reads y k refl r)
            ∙ more_more (j - i) (m - j) [] hs (feed ws (drop m piece) (k - length hs) z)
            ∙ rw (sum, at) refl;
      }

  -- ONE BYTE, from the state of a known start
  read_byte : (u : List ℕ) (g i h : ℕ) → known ws u ≡ true → state ws u ≡ g → i < length piece →
      h ≡ state ws (reached ws (u ++ (get_or piece i 0 ∷ []))) → Advanced ws u piece g i h (i + 1)
  unfolding reported with_byte
  read_byte u g i h k s inside e =
      let c : ℕ = get_or piece i 0 in
      let us : List ℕ = u ++ (c ∷ []) in
      let at : start ws h ≡ reached ws us = ap (start ws) e ∙ start_state ws (reached ws us) (reached_known ws us) in
      let one : i + 1 - i ≡ 1 = omega arith in
      record {
        onward = omega arith;
        within = omega arith;
        state_is = rw at (sym e);
        short = rw at (omega (arith, reached_short ws us, length_snoc u c));
        reads = λ x n f l.
            let to : stepped ws x.state c ≡ h = rw f (stepped_from ws u g c k s ∙ sym e) in
            rw (drop-cons piece i 0 inside, one, add-one i, add-one x.taken, ← to) (feed_on (feeder ws) c (drop (suc i) piece) n x l);
      }

-- THE FIRST BYTES from an index on, from state 0, of codes that all have as many
module _ (ws : List (List ℕ)) (piece : List ℕ) (depth : ℕ) (within : (j : ℕ) → j < length ws → depth ≤ length (code ws j)) where
  abbrev after : (i n : ℕ) → List ℕ
  after i n = reached ws (part i n piece)

  after_short : (i n : ℕ) → i + n ≤ length piece → length (after i n) ≤ n
  after_short i n h = omega (arith, reached_short ws (part i n piece), part_length i n piece h)

  -- one more byte, behind some that tell nothing
  read_after : (u : List ℕ) (i n : ℕ) → i + n < length piece → Silent ws piece 0 i (state ws (after i n)) (i + n) →
      Advanced ws u piece 0 i (state ws (after i (suc n))) (i + n + 1)
  read_after u i n h s =
      silent_then s (omega (arith, after_short i n (omega arith)))
      (read_byte (after i n) (state ws (after i n)) (i + n) (state ws (after i (suc n))) (reached_known ws (part i n piece)) refl h
      (ap (state ws) (ap (reached ws) (part_more i n piece h) ∙ reached_next ws (part i n piece) (get_or piece (i + n) 0))))

  -- it tells nothing either, if the start that it leads to is shorter than the codes
  silent_after : (i n : ℕ) → i + n < length piece → length (after i (suc n)) < depth → Silent ws piece 0 i (state ws (after i n)) (i + n) →
      Silent ws piece 0 i (state ws (after i (suc n))) (i + suc n)
  silent_after i n h l s =
      let on : i + n + 1 ≡ i + suc n = omega arith in
      rw on at
      (silent_read (read_after [] i n h s)
      (λ t.
      rw (start_state ws (after i (suc n)) (reached_known ws (part i (suc n) piece)))
      (hits_none ws t (after i (suc n)) (nearest_short ws depth (code_within ws depth within) (after i (suc n)) l))))

  silent_front : (i n : ℕ) → i + n ≤ length piece → n < depth → Silent ws piece 0 i (state ws (after i n)) (i + n)
  unfolding part
  silent_front i zero h l = rw (add-zero i, reached_nil ws, state_nil ws) (silent_none 0 i)
  silent_front i (suc n) h l =
      silent_after i n (omega arith) (omega (arith, after_short i (suc n) h)) (silent_front i n (omega arith) (omega arith))

  module _ (some : 1 ≤ depth) where
    abbrev less : ℕ
    less = depth - 1

    one_more : suc less ≡ depth
    one_more = omega arith

    -- a code's first bytes lead to their state
    read_front : (u : List ℕ) (i h : ℕ) → i + depth ≤ length piece → known ws (part i depth piece) ≡ true → h ≡ state ws (part i depth piece) →
        Advanced ws u piece 0 i h (i + depth)
    read_front u i h inside k e =
        let on : i + less + 1 ≡ i + depth = omega arith in
        let to : state ws (after i (suc less)) ≡ h =
        ap (λ (n : ℕ). state ws (after i n)) one_more ∙ ap (state ws) (reached_self ws (part i depth piece) k) ∙ sym e in
        rw (on, to) at (read_after u i less (omega arith) (silent_front i less (omega arith) (omega arith)))

    -- where no code begins, feeding goes on behind the first of them as if it led to 0
    silent_one : (i : ℕ) → i + depth ≤ length piece → known ws (part i depth piece) ≡ false → Silent ws piece 0 i 0 (i + 1)
    silent_one i inside none =
        let first : part i depth piece ≡ get_or piece i 0 ∷ part (i + 1) less piece =
        ap (λ (n : ℕ). part i n piece) (sym one_more) ∙ part_first i less piece (omega arith) in
        let behind : i + 1 + less ≡ i + depth = omega arith in
        let same : after i depth ≡ after (i + 1) less =
        ap (reached ws) first ∙ reached_tail ws (get_or piece i 0) (part (i + 1) less piece) (sym (ap (known ws) first) ∙ none) in
        let long : length (part i depth piece) ≡ depth = part_length i depth piece inside in
        let short : length (after i depth) < depth = omega (arith, reached_less ws (part i depth piece) none (omega arith)) in
        silent_until
        (rw one_more at (silent_after i less (omega arith) (rw one_more short) (silent_front i less (omega arith) (omega arith))))
        (rw (behind, ← same) at (silent_front (i + 1) less (omega arith) (omega arith)))
        (omega arith)

-- A STRETCH in state 0 at which no code begins
module _ {ws : List (List ℕ)} {k : FrontLists} (f : Fronts ws k) (piece : List ℕ)
    (bytes : (i : ℕ) → get_or piece i 0 < 256) where
  stretch_then : (d i j : ℕ) {u : List ℕ} {h m : ℕ} → j ≡ i + d → Passed k.words piece i j → Advanced ws u piece 0 j h m → Advanced ws u piece 0 i h m
  stretch_then zero i j e q a = let at : j ≡ i = omega arith in rw at at a
  stretch_then (suc d) i j e q a =
      let none = q.none i (omega arith) (omega arith) in
      silent_then
      (silent_one ws piece k.depth f.within f.some i (omega (arith, f.most, none.0)) (common_none f piece i none.0 bytes none.1)) (omega arith)
      (stretch_then d (i + 1) j (omega arith)
      (record { onward = omega arith; inside = q.inside; none = λ m lo hi. q.none m (omega arith) hi }) a)

-- WHERE THE NEXT BYTES ARE: at i or, from state 0, at the first index where a code begins or fewer than four bytes are left
pub record At (words piece : List ℕ) (g i p : ℕ) : Type 0 where
  passed : Passed words piece i p
  moved : i ≢ p → g ≡ 0
  stops : g ≡ 0 → p + 3 < length piece → common_at words piece p ≢ 0

module _ {words piece : List ℕ} {g i p : ℕ} where
  pub at_here : g ≢ 0 → i < length piece → p ≡ i → At words piece g i p
  at_here d h e =
      rw e (record { passed = passed_none words piece i h; moved = λ n. absurd (n refl); stops = λ z. absurd (d z) })

  pub at_stop : {r : ℕ} → g ≡ 0 → Stopped words piece i r → p ≡ r → At words piece g i p
  at_stop e s q = rw q (record { passed = s.passed; moved = λ _. e; stops = λ _. s.stops })

  pub at_inside : At words piece g i p → p < length piece
  at_inside a = a.passed.inside

module _ {ws : List (List ℕ)} {u : List ℕ} {t : TreeLists} {links : List ℕ} {k : FrontLists} {g : ℕ} {piece : List ℕ} {i : ℕ}
    (v : Advancing ws u t links k g piece i) where
  -- A STEP by one byte: what it needs, and where it leads from there
  pub step_needs : OnLinks t links g
  step_needs =
      record { ws = ws; u = u; is_tree = v.is_tree; known_is = v.known_is; state_is = v.state_is; linked = v.linked (length u) }

  module _ {p : ℕ} (a : At k.words piece g i p) where
    at_then : {w : List ℕ} {h m : ℕ} → Advanced ws w piece g p h m → Advanced ws w piece g i h m
    at_then b =
        by_eq i p (λ (e : i ≡ p). rw e b)
        (λ (d : i ≢ p).
        let e = a.moved d in
        rw e (stretch_then v.fronts piece v.bytes (p - i) i p (omega (arith, a.passed.onward)) a.passed (rw e at b)))

    pub by_step : {h : ℕ} → ToldLinks t links g (λ vs w. h ≡ state vs (reached vs (w ++ (get_or piece p 0 ∷ [])))) → Advanced ws u piece g i h (p + 1)
    by_step {h} told =
        at_then
        (read_byte u g p h v.known_is v.state_is a.passed.inside (told ws u v.is_tree v.known_is v.state_is (v.linked (length u))))

    -- ENTERING a code by its first bytes
    module _ (rest : g ≡ 0) (inside-test : ltb (p + 3) (length piece) ≡ true) where
      inside : p + 3 < length piece
      inside = ltb-true (p + 3) (length piece) inside-test

      entering : Entering ws k piece p
      entering = record { fronts = v.fronts; inside = inside; bytes = v.bytes; begins = a.stops rest inside }

      pub enter_needs : OnEnter k piece p
      enter_needs = record { ws = ws; entering = entering }

      enter_bound : p + k.depth ≤ length piece
      enter_bound = omega (arith, inside, v.fronts.most)

      pub by_enter : {h : ℕ} → Enters k piece p h → Advanced ws u piece g i h (p + k.depth)
      by_enter {h} told =
          let to = told ws entering in
          at_then (rw rest (read_front ws piece k.depth v.fronts.within v.fronts.some u p h enter_bound to.0 to.1))
