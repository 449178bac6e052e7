-- The words of the codes' first bytes: each code's bits are put in its turn, what the words of four bytes have in common, where they have nothing in common no
-- code begins, passing over such bytes, and the state of the first bytes of a code. Assumes nothing.
use mathlib.Core.Path.{◌≡◌, refl, sym, ap, ◌∙◌}
use mathlib.Core.Bool.{Bool, true, false, ◌&&◌, ◌||◌, or-false, and-false}
use mathlib.Core.List.{List, [], ◌++◌, append-nil}
use mathlib.Core.Logic.{◌≢◌}
use Prim.Native.Nat.{ℕ, zero, suc, ◌+◌, ◌*◌, ◌-◌, ◌≤◌, ◌<◌, min}
use native.Mathlib.Nat.{le_refl, add-zero}
use native.Mathlib.Omega.{arith}
use lib.Bits.{bit_and, bit_or, and_zero_l}
use lib.Dec.{ltb, eqb}
use lib.ListN.{length, get_or, take, drop, set, length-set, length-take, length-drop, length-append, get_or-append, replicate, length-replicate, get_or-replicate, drop_of_length-le}
use lib.Seq.{get_or-set_same, get_or-set_other, get_or-take, get_or-append_right, length-take-le}
use borrow.Rule.Slice.PartMut.{put_mid, mid_of, post_of}
use borrow.Author.Tests.{ltb-true, ltb-false, lt-ltb, le-ltb, eqb-true, eq-eqb, ne_eqb}
use Rattle.words.specs.Words.{Every, byte}
use Rattle.words.proofs.Tests.{by_test, by_le, by_eq, never_both, fails, and_left, and_right}
use Rattle.words.proofs.Lists.{every_at}
use Rattle.bits.specs.Bits.{holds, Top, WithBit}
use Rattle.bits.proofs.Bits.{or_zeros, holds_and, holds_zero, holds_all}
use Rattle.starts.specs.Starts.{code, offset, state, is_start, known}
use Rattle.starts.proofs.States.{start_is, is_start_nil, start_longer, known_at, known_first, code_take, state_first}
use Rattle.starts.proofs.States.{offset_zero, offset_more, offset_within, offset_fits}
use Rattle.boards.specs.declared.fronts.Fronts.{Fronts as FrontLists}
use Rattle.boards.specs.Board.{cut}
use Rattle.boards.specs.Tables.{part, Good}
use Rattle.boards.specs.Fronts.{Shortest, CodePut, new_fronts, AllPut, Fronts, word_at, pair_at, common_at, Passed}
use Rattle.boards.proofs.Added.{zeros}
use Rattle.boards.proofs.Cuts.{part_length, part_at, part_more, cut_length, cut_total, cut_code, cut_code_length}

-- so many first bytes the first i codes have
pub record ShortestOf (ls : List ℕ) (depth i : ℕ) : Type 0 where
  pub few : depth ≤ 4
  pub within : (j : ℕ) → j < i → j < length ls → depth ≤ get_or ls j 0
  pub some : Every (λ l. 1 ≤ l) ls → 1 ≤ depth

pub shortest_none : (ls : List ℕ) → ShortestOf ls 4 0
shortest_none ls = record { few = omega arith; within = λ j (h : j < 0). absurd (omega arith); some = λ e. omega arith }

-- with the next one
pub shortest_next : {ls : List ℕ} {depth i : ℕ} → ShortestOf ls depth i → i < length ls → (e : ℕ) → e ≡ min depth (get_or ls i 0) → ShortestOf ls e (i + 1)
shortest_next {ls} {depth} {i} v h e is =
    record {
      few = omega (arith, v.few);
      within = λ j (k : j < i + 1) m.
          by_eq j i
          (λ (same : j ≡ i). let at : get_or ls j 0 ≡ get_or ls i 0 = ap (λ (n : ℕ). get_or ls n 0) same in omega arith)
          (λ (other : j ≢ i). omega (arith, v.within j (omega arith) m));
      some = λ all. omega (arith, v.some all, every_at (λ l. 1 ≤ l) ls i all h);
    }

pub shortest_all : {ls : List ℕ} {depth i : ℕ} → ShortestOf ls depth i → length ls ≤ i → Shortest ls depth
shortest_all v l = record { few = v.few; within = λ j (h : j < _). v.within j (omega arith) h; some = v.some }

-- below j + 1 is what is below j, but for j itself
ltb_other : (q j : ℕ) → q ≢ j → ltb q (j + 1) ≡ ltb q j
ltb_other q j n =
    by_test (ltb q j)
    (λ t. let h = ltb-true q j t in rw t (lt-ltb q (j + 1) (omega arith)))
    (λ t. let h = ltb-false q j t in rw t (le-ltb q (j + 1) (omega arith)))

-- ONE CODE's bits, row by row
pub code_put_none : (w : List ℕ) (j : ℕ) (a : List ℕ) → CodePut w 0 j a a
code_put_none w j a =
    record {
      each = λ q c r _. rw (le-ltb q 0 (omega arith)) (sym (or-false (holds (get_or a (256 * q + c) 0) r)));
      long = refl;
    }

pub code_put_next : {w : List ℕ} {q j : ℕ} {a b : List ℕ} → CodePut w q j a b → (k r : ℕ) → get_or w q 0 < 256 → j < 64 → k < length b →
    k ≡ 256 * q + get_or w q 0 → WithBit (get_or b k 0) (63 - j) r → CodePut w (q + 1) j a (set b k r)
code_put_next {w} {q} {j} {a} {b} v k r small few room e u =
    record {
      each = λ p c t (h : c < 256).
          let m = 256 * p + c in
          let old = holds (get_or a m 0) t in
          by_eq m k
          (λ (here : m ≡ k).
          let row : p ≡ q = omega arith in
          let at : get_or w p 0 ≡ c = rw row (omega arith) in
          ap (λ (n : ℕ). holds (get_or (set b k r) n 0) t) here ∙ ap (λ (n : ℕ). holds n t) (get_or-set_same b k r 0 room) ∙ u.each t
          ∙ ap (λ x. x || (eqb t (63 - j) && ltb (63 - j) 64)) (ap (λ (n : ℕ). holds (get_or b n 0) t) (sym here) ∙ v.each p c t h)
          ∙ rw (le-ltb p q (omega arith), lt-ltb p (q + 1) (omega arith), eq-eqb (get_or w p 0) c at, lt-ltb (63 - j) 64 (omega arith))
          (put_here old (eqb t (63 - j))))
          (λ (other : m ≢ k).
          let tests : ltb p q && eqb (get_or w p 0) c ≡ ltb p (q + 1) && eqb (get_or w p 0) c =
          by_eq p q
          (λ (row : p ≡ q).
          let byte-other : eqb (get_or w p 0) c ≡ false =
          ne_eqb (get_or w p 0) c
          (λ (f : get_or w p 0 ≡ c). let there : get_or w q 0 ≡ c = ap (λ (n : ℕ). get_or w n 0) (sym row) ∙ f in other (omega arith)) in
          rw (byte-other, and-false (ltb p q), and-false (ltb p (q + 1))))
          (λ (row : p ≢ q). rw (ltb_other p q row)) in
          rw (get_or-set_other b k m r 0 other) (v.each p c t h ∙ ap (λ x. old || x && eqb t (63 - j)) tests));
      long = length-set b k r ∙ v.long;
    }
  where
    put_here : (x t : Bool) → (x || false) || (t && true) ≡ x || t
    put_here true t = refl
    put_here false true = refl
    put_here false false = refl

-- CODE NUMBER j stands inside the bytes, at its offset
module _ {ls bs : List ℕ} (g : Good ls bs) (j : ℕ) (h : j < length ls) where
  code_long : length (code (cut ls bs) j) ≡ get_or ls j 0
  code_long = cut_code_length ls bs j (omega (arith, g.sums)) h

  code_byte : (i : ℕ) → i < get_or ls j 0 → byte (code (cut ls bs) j) i ≡ get_or bs (offset (cut ls bs) j + i) 0
  unfolding byte
  code_byte i l = rw (cut_code ls bs j (omega (arith, g.sums)) h) (part_at (offset (cut ls bs) j) (get_or ls j 0) bs i l)

  code_inside : offset (cut ls bs) j + get_or ls j 0 ≤ length bs
  code_inside =
      let ws = cut ls bs in
      omega (arith, g.sums, offset_fits ws j (omega (arith, cut_length ls bs)), cut_total ls bs (omega (arith, g.sums)), code_long)

-- TURNS of the codes: all below j have their bits and their offsets, and the next one begins at s
pub record Putting (ls bs : List ℕ) (depth : ℕ) (words starts : List ℕ) (j s : ℕ) : Type 0 where
  pub good : Good ls bs
  pub shortest : Shortest ls depth
  pub within : j ≤ length ls
  pub offset_is : s ≡ offset (cut ls bs) j
  each : (q c r : ℕ) → q < depth → c < 256 → r < 64 → holds (get_or words (256 * q + c) 0) (63 - r) ≡ ltb r j && eqb (byte (code (cut ls bs) r) q) c
  offsets : (r : ℕ) → r < j → get_or starts r 0 ≡ offset (cut ls bs) r
  pub words_long : length words ≡ 1024
  pub starts_long : length starts ≡ 64

pub putting_none : {ls bs : List ℕ} {depth : ℕ} → Good ls bs → Shortest ls depth → Putting ls bs depth new_fronts.words new_fronts.starts 0 0
putting_none {ls} {bs} g e =
    record {
      good = g;
      shortest = e;
      within = omega arith;
      offset_is = sym (offset_zero (cut ls bs));
      each = λ q c r _ _ _. rw (zeros 1024 (256 * q + c), le-ltb r 0 (omega arith)) (holds_zero (63 - r));
      offsets = λ r (h : r < 0). absurd (omega arith);
      words_long = length-replicate {A = ℕ} 1024 0;
      starts_long = length-replicate {A = ℕ} 64 0;
    }

pub putting_all : {ls bs words starts : List ℕ} {depth j s : ℕ} → Putting ls bs depth words starts j s → length ls ≤ j →
    AllPut (cut ls bs) depth words starts
putting_all {ls} {bs} {j = j} v h =
    let all : length (cut ls bs) ≡ j = omega (arith, cut_length ls bs, v.within) in
    record {
      each = λ q c r k l m. rw all (v.each q c r k l m);
      offsets = λ r (i : r < length (cut ls bs)). v.offsets r (omega arith);
      words_long = v.words_long;
      starts_long = v.starts_long;
    }

module _ {ls bs words starts : List ℕ} {depth j s : ℕ} (v : Putting ls bs depth words starts j s) (h : j < length ls) where
  pub turn_bounds : (j < 64) × (s + get_or ls j 0 ≤ length bs) × (depth ≤ get_or ls j 0) × (length bs ≤ 2000)
  turn_bounds = (
    omega (arith, v.good.codes),
    omega (arith, v.offset_is, code_inside v.good j h),
    v.shortest.within j h,
    v.good.bytes,
  )

  -- its first bytes, lent as a slice
  abbrev front : List ℕ
  front = take (s + depth - s) (drop s bs)

  front_is : front ≡ part s depth bs
  unfolding part
  front_is = let whole : s + depth - s ≡ depth = omega arith in rw whole refl

  pub front_size : length front ≡ depth
  front_size = let b = turn_bounds in rw front_is (part_length s depth bs (omega (arith, b.1, b.2)))

  pub putting_next : {next : List ℕ} → CodePut front (length front) j words next → Putting ls bs depth next (set starts j s) (j + 1) (s + get_or ls j 0)
  putting_next {next} p =
      let ws = cut ls bs in
      let one_more : j + 1 ≡ suc j = omega arith in
      record {
        good = v.good;
        shortest = v.shortest;
        within = omega arith;
        offset_is = rw one_more (omega (arith, v.offset_is, offset_more ws j (omega (arith, cut_length ls bs)), code_long v.good j h));
        each = λ q c r (k : q < depth) (l : c < 256) (m : r < 64).
            let put = eqb (get_or bs (s + q) 0) c in
            let byte-is : get_or front q 0 ≡ get_or bs (s + q) 0 = rw front_is (part_at s depth bs q k) in
            rw (front_size, byte-is) at (p.each q c (63 - r) l)
            ∙ ap (λ x. x || (ltb q depth && put) && eqb (63 - r) (63 - j)) (v.each q c r k l m)
            ∙ by_eq r j
            (λ (same : r ≡ j).
            let here : byte (code ws r) q ≡ get_or bs (s + q) 0 =
            rw (same, v.offset_is) (code_byte v.good j h q (omega (arith, v.shortest.within j h))) in
            rw (
              le-ltb r j (omega arith),
              lt-ltb r (j + 1) (omega arith),
              lt-ltb q depth k,
              eq-eqb (63 - r) (63 - j) (ap (λ (n : ℕ). 63 - n) same),
              here,
            )
            (put_own put))
            (λ (other : r ≢ j).
            let apart : eqb (63 - r) (63 - j) ≡ false = ne_eqb (63 - r) (63 - j) (λ (d : 63 - r ≡ 63 - j). other (omega (arith, turn_bounds.0))) in
            rw (apart, and-false (ltb q depth && put), ltb_other r j other) (or-false (ltb r j && eqb (byte (code ws r) q) c)));
        offsets = λ r (i : r < j + 1).
            by_eq r j
            (λ (same : r ≡ j). rw same (get_or-set_same starts j s 0 (omega (arith, v.starts_long, turn_bounds.0)) ∙ v.offset_is))
            (λ (other : r ≢ j). get_or-set_other starts j r s 0 other ∙ v.offsets r (omega arith));
        words_long = p.long ∙ v.words_long;
        starts_long = length-set starts j s ∙ v.starts_long;
      }
    where
      put_own : (t : Bool) → false || (true && t) && true ≡ true && t
      put_own true = refl
      put_own false = refl

-- ALL BITS from one word on: in a list b that was a
pub record FilledFrom (from : ℕ) (a b : List ℕ) : Type 0 where
  pub before : (c : ℕ) → c < from → get_or b c 0 ≡ get_or a c 0
  pub all : (c r : ℕ) → from ≤ c → c < length b → r < 64 → holds (get_or b c 0) r ≡ true
  pub long : length b ≡ length a

-- which a list has that is filled there
pub filled_from : {from n : ℕ} {a m : List ℕ} → length a ≡ n → from ≤ n → m ≡ replicate (length (mid_of from (n - from) a)) 18446744073709551615 → FilledFrom from a (put_mid from (n - from) a m)
filled_from {from} {n} {a} {m} size fits full =
    let x : ℕ = 18446744073709551615 in
    let rest : post_of from (n - from) a ≡ [] = drop_of_length-le (drop from a) (omega (arith, length-drop from a)) in
    let front : length (take from a) ≡ from = length-take-le from a (omega arith) in
    let part_long : length (mid_of from (n - from) a) ≡ n - from = length-take-le (n - from) (drop from a) (omega (arith, length-drop from a)) in
    rw (rest, append-nil m, full, part_long)
    (record {
      before = λ c h. get_or-append (take from a) (replicate (n - from) x) 0 c (omega arith) ∙ get_or-take from a c 0 h;
      all = λ c r l h k.
          let long : length (take from a ++ replicate (n - from) x) ≡ n = omega (arith, length-append (take from a) (replicate (n - from) x), length-replicate (n - from) x) in
          rw (get_or-append_right (take from a) (replicate (n - from) x) c 0 (omega arith), get_or-replicate (n - from) (c - length (take from a)) x 0 (omega arith))
          (holds_all r k);
      long = omega (arith, length-append (take from a) (replicate (n - from) x), length-replicate (n - from) x);
    })

-- THE WORDS of all codes
pub fronts_are : {ls bs words next starts : List ℕ} {depth : ℕ} → Good ls bs → Shortest ls depth → AllPut (cut ls bs) depth words starts →
    FilledFrom (256 * depth) words next → Fronts (cut ls bs) (record { words = next; starts = starts; depth = depth })
fronts_are {ls} {bs} {words} {next} {starts} {depth} g e p f =
    record {
      put =
          record {
            each = λ q c j (h : q < depth) (l : c < 256) m. rw (f.before (256 * q + c) (omega arith)) (p.each q c j h l m);
            offsets = p.offsets;
            words_long = f.long ∙ p.words_long;
            starts_long = p.starts_long;
          };
      all = λ q c j (h : depth ≤ q) (k : q < 4) (l : c < 256) m.
          f.all (256 * q + c) (63 - j) (omega arith) (omega (arith, f.long, p.words_long)) (omega arith);
      some = e.some g.filled;
      most = e.few;
      within = λ j (h : j < length (cut ls bs)).
          let below : j < length ls = omega (arith, cut_length ls bs) in omega (arith, code_long g j below, e.within j below);
      codes_few = omega (arith, cut_length ls bs, g.codes);
      few = omega (arith, cut_total ls bs (omega (arith, g.sums)), g.sums, g.bytes);
    }

-- THE FOUR ROWS
by_four : (P : ℕ → Type 0) → P 0 → P 1 → P 2 → P 3 → (q : ℕ) → q < 4 → P q
by_four P a b c d zero h = a
by_four P a b c d (suc zero) h = b
by_four P a b c d (suc (suc zero)) h = c
by_four P a b c d (suc (suc (suc zero))) h = d
by_four P a b c d (suc (suc (suc (suc q)))) h = absurd (omega arith)

-- numbers of four indexes that are 0 together
pub four_none : (f : ℕ → ℕ) (i a b c d : ℕ) → a ≡ f i → b ≡ f (i + 1) → c ≡ f (i + 2) → d ≡ f (i + 3) → bit_or (bit_or a b) (bit_or c d) ≡ 0 →
    (q : ℕ) → q < 4 → f (i + q) ≡ 0
four_none f i a b c d u v x y e =
    let all = or_zeros (bit_or a b) (bit_or c d) e in
    let front = or_zeros a b all.0 in
    let back = or_zeros c d all.1 in
    by_four (λ q. f (i + q) ≡ 0) (rw (add-zero i) (sym u ∙ front.0)) (sym v ∙ front.1) (sym x ∙ back.0) (sym y ∙ back.1)

module _ (words piece : List ℕ) (i : ℕ) where
  abbrev at : (q : ℕ) → ℕ
  at q = word_at words piece i q

  -- a bit in common is one of each word; and where the first two words have none, none is in common
  common_holds : (r : ℕ) → holds (common_at words piece i) r ≡ (holds (at 0) r && holds (at 1) r) && (holds (at 2) r && holds (at 3) r)
  unfolding common_at pair_at
  common_holds r =
      holds_and (bit_and (at 0) (at 1)) (bit_and (at 2) (at 3)) r
      ∙ rw (holds_and (at 0) (at 1) r, holds_and (at 2) (at 3) r)

  common_held : (r : ℕ) → ((q : ℕ) → q < 4 → holds (at q) r ≡ true) → holds (common_at words piece i) r ≡ true
  common_held r h =
      common_holds r ∙ rw (h 0 (omega arith), h 1 (omega arith), h 2 (omega arith), h 3 (omega arith))

  held_common : (r : ℕ) → holds (common_at words piece i) r ≡ true → (q : ℕ) → q < 4 → holds (at q) r ≡ true
  held_common r e =
      let all = sym (common_holds r) ∙ e in
      let front = and_left (holds (at 0) r && holds (at 1) r) (holds (at 2) r && holds (at 3) r) all in
      let back = and_right (holds (at 0) r && holds (at 1) r) (holds (at 2) r && holds (at 3) r) all in
      by_four (λ q. holds (at q) r ≡ true)
      (and_left (holds (at 0) r) (holds (at 1) r) front) (and_right (holds (at 0) r) (holds (at 1) r) front)
      (and_left (holds (at 2) r) (holds (at 3) r) back) (and_right (holds (at 2) r) (holds (at 3) r) back)

  pub pair_none : pair_at words piece i ≡ 0 → common_at words piece i ≡ 0
  unfolding common_at
  pair_none e = rw e (and_zero_l (bit_and (at 2) (at 3)))

-- A CODE THAT BEGINS at an index has its bit in common there, and no other code has
module _ {ws : List (List ℕ)} {k : FrontLists} (f : Fronts ws k) (piece : List ℕ) (i : ℕ)
    (inside : i + 3 < length piece) (bytes : (j : ℕ) → get_or piece j 0 < 256) where
  front_long : length (part i k.depth piece) ≡ k.depth
  front_long = part_length i k.depth piece (omega (arith, f.most))

  begins_held : (j : ℕ) → j < length ws → is_start (part i k.depth piece) (code ws j) ≡ true → holds (common_at k.words piece i) (63 - j) ≡ true
  unfolding word_at byte
  begins_held j h t =
      let w = code ws j in
      let same : take k.depth w ≡ part i k.depth piece = ap (λ (n : ℕ). take n w) (sym front_long) ∙ start_is (part i k.depth piece) w t in
      common_held k.words piece i (63 - j)
      (λ q (l : q < 4).
      by_le k.depth q
      (λ (over : k.depth ≤ q). f.all q (get_or piece (i + q) 0) j over l (bytes (i + q)) (omega (arith, f.codes_few)))
      (λ (under : q < k.depth).
      let here : byte w q ≡ get_or piece (i + q) 0 =
      sym (get_or-take k.depth w q 0 under) ∙ ap (λ (u : List ℕ). get_or u q 0) same ∙ part_at i k.depth piece q under in
      f.put.each q (get_or piece (i + q) 0) j under (bytes (i + q)) (omega (arith, f.codes_few))
      ∙ rw (lt-ltb j (length ws) h, eq-eqb (byte w q) (get_or piece (i + q) 0) here)))

  module _ (j : ℕ) (few : j < 64) (e : holds (common_at k.words piece i) (63 - j) ≡ true) where
    row_held : (q : ℕ) → q < k.depth → (j < length ws) × (byte (code ws j) q ≡ get_or piece (i + q) 0)
    unfolding word_at
    row_held q h =
        let c = get_or piece (i + q) 0 in
        let both : ltb j (length ws) && eqb (byte (code ws j) q) c ≡ true =
        sym (f.put.each q c j h (bytes (i + q)) few) ∙ held_common k.words piece i (63 - j) e q (omega (arith, f.most)) in (
          ltb-true j (length ws) (and_left (ltb j (length ws)) (eqb (byte (code ws j) q) c) both),
          eqb-true (byte (code ws j) q) c (and_right (ltb j (length ws)) (eqb (byte (code ws j) q) c) both),
        )

    held_below : j < length ws
    held_below = (row_held 0 (omega (arith, f.some))).0

    held_begins : (n : ℕ) → n ≤ k.depth → is_start (part i n piece) (code ws j) ≡ true
    unfolding part
    held_begins zero h = is_start_nil (code ws j)
    held_begins (suc n) h =
        let long : length (part i n piece) ≡ n = part_length i n piece (omega (arith, f.most)) in
        rw (part_more i n piece (omega (arith, f.most)))
        (start_longer (part i n piece) (code ws j) (get_or piece (i + n) 0) (held_begins n (omega arith))
        (omega (arith, f.within j held_below))
        (ap (byte (code ws j)) long ∙ (row_held n (omega arith)).1))

  -- NO CODE BEGINS where nothing is in common
  pub common_none : common_at k.words piece i ≡ 0 → known ws (part i k.depth piece) ≡ false
  common_none e =
      fails (known ws (part i k.depth piece))
      (λ is_known.
      let first = known_first ws (part i k.depth piece) is_known (omega (arith, front_long, f.some)) in
      never_both (begins_held first.at first.below first.has) (ap (λ (m : ℕ). holds m (63 - first.at)) e ∙ holds_zero (63 - first.at)))

  -- ENTERING: t is the highest bit in common, so code number 63 - t is the first that begins there
  module _ (some : common_at k.words piece i ≢ 0) (t : ℕ) (top : Top (common_at k.words piece i) t) where
    first_held : holds (common_at k.words piece i) (63 - (63 - t)) ≡ true
    first_held = let back : 63 - (63 - t) ≡ t = omega (arith, top.few) in rw back (top.held some)

    first_below : 63 - t < length ws
    first_below = held_below (63 - t) (omega arith) first_held

    first_has : is_start (part i k.depth piece) (code ws (63 - t)) ≡ true
    first_has = held_begins (63 - t) (omega arith) first_held k.depth (le_refl k.depth)

    none_earlier : known (take (63 - t) ws) (part i k.depth piece) ≡ false
    none_earlier =
        fails (known (take (63 - t) ws) (part i k.depth piece))
        (λ is_known.
        let first = known_first (take (63 - t) ws) (part i k.depth piece) is_known (omega (arith, front_long, f.some)) in
        let q = first.at in
        let earlier : q < 63 - t = omega (arith, first.below, length-take (63 - t) ws) in
        let below : q < length ws = omega (arith, first_below) in
        let has : is_start (part i k.depth piece) (code ws q) ≡ true = rw (code_take ws q (63 - t) earlier) at first.has in
        never_both (begins_held q below has) (top.above (63 - q) (omega arith)))

    -- where it begins, and the state
    pub enter_room : get_or k.starts (63 - t) 0 ≤ 2000
    enter_room = omega (arith, f.put.offsets (63 - t) first_below, offset_within ws (63 - t), f.few)

    pub enter_state : (known ws (part i k.depth piece) ≡ true) × (get_or k.starts (63 - t) 0 + k.depth ≡ state ws (part i k.depth piece))
    enter_state = (
      known_at ws (part i k.depth piece) (63 - t) first_below first_has,
      omega (
        arith,
        front_long,
        f.put.offsets (63 - t) first_below,
        state_first ws (63 - t) (part i k.depth piece) first_below first_has none_earlier,
      ),
    )

-- PASSING: from where it begins, and over one byte at which no code begins
pub passed_none : (words piece : List ℕ) (from : ℕ) → from < length piece → Passed words piece from from
passed_none ws cs from h = record { onward = le_refl from; inside = h; none = λ i (l : from ≤ i) (m : i < from). absurd (omega arith) }

pub passed_one : {words piece : List ℕ} {from i : ℕ} → Passed words piece from i → (k : ℕ) → k ≡ i + 1 → i + 3 < length piece →
    common_at words piece i ≡ 0 → Passed words piece from k
passed_one {from = from} {i} v k e h n =
    record {
      onward = omega (arith, v.onward);
      inside = omega arith;
      none = λ q (l : from ≤ q) (m : q < k).
          by_eq q i
          (λ (same : q ≡ i). rw same (h, n))
          (λ (other : q ≢ i). v.none q l (omega arith));
    }

-- over four, where none begins
pub passed_four : {words piece : List ℕ} {from i : ℕ} → Passed words piece from i → (k : ℕ) → k ≡ i + 4 → i + 6 < length piece →
    ((q : ℕ) → q < 4 → common_at words piece (i + q) ≡ 0) → Passed words piece from k
passed_four {words} {piece} {from} {i} v k e h n =
    record {
      onward = omega (arith, v.onward);
      inside = omega arith;
      none = λ q (l : from ≤ q) (m : q < k).
          by_le i q
          (λ (g : i ≤ q). let at : i + (q - i) ≡ q = omega arith in (omega arith, rw at at (n (q - i) (omega arith))))
          (λ (g : q < i). v.none q l g);
    }
