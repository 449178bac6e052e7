-- Which codes are accepted, which watches are fit, and what preparing and feeding refuse: each test tells a fact, and the first that fails gives the number.
-- Joining's refusals are told by the same tests. Assumes nothing.
use mathlib.Core.Path.{◌≡◌, refl, sym, ap, ◌∙◌}
use mathlib.Core.Bool.{Bool, true, false, ◌&&◌, not}
use mathlib.Core.List.{List, [], ◌∷◌, map}
use mathlib.Core.Logic.{◌≢◌, ◌↔◌}
use Prim.Native.Nat.{ℕ, zero, suc, ◌+◌, ◌*◌, ◌≤◌, ◌<◌, min}
use native.Mathlib.Omega.{arith}
use lib.Dec.{ltb, eqb}
use lib.ListN.{length, length-map}
use borrow.Author.Tests.{eq-eqb, ne_eqb, lt-ltb, le-ltb, eqb-true, eqb-false, ltb-true, ltb-false, not-true, not-false}
use Rattle.words.specs.Words.{member, Every}
use Rattle.words.proofs.Tests.{by_test, by_le, never_both, fails, and_left, and_right, and_both}
use Rattle.words.proofs.Lists.{every_map, every_append}
use Rattle.automaton.specs.Costs.{sum}
use Rattle.runs.specs.Reading.{longest_text}
use Rattle.codes.specs.Refusals.{refused_if, first_refusal}
use Rattle.codes.specs.Codes.{longest_code, has_control}
use Rattle.codes.proofs.Controls.{clean_bytes, bytes_clean}
use Rattle.starts.specs.Starts.{code, total, start, is_code, index, number, twice}
use Rattle.starts.proofs.Codes.{index_below, code_index, number_at}
use Rattle.boards.specs.declared.Watch.{Watch}
use Rattle.boards.specs.Board.{cut, bytes_of, board_room, some_above, no_board, list_refusal, codes_refusal, accepted, named, begins}
use Rattle.boards.specs.Feed.{fit}
use Rattle.boards.specs.Entry.{prepare_refusal, Lent, room, call_refusal, feed_refusal}
use Rattle.boards.specs.Promise.{Filled, Short, Boardable, Clean, Different, BoardsAccepted, RefusalsTold}
use Rattle.boards.specs.Promise.{StandsFor, FitFor, WatchesFit, Spots, FeedingRefused}
use Rattle.boards.proofs.Rows.{length_bytes}
use Rattle.boards.proofs.Listing.{Some, empty_some, long_some, none_every, no_codes, many_codes, many_bytes, by_sum}
use Rattle.boards.proofs.Boards.{sum_lengths, bytes_cut}
use Rattle.boards.proofs.Watching.{start_is_known, fit_is, fit_test, fit_start}

-- A TEST DECIDES a fact: it passes exactly where the fact holds
abbrev Decides : Bool → Type 0 → Type 0
Decides t P = (t ≡ true) ↔ P

module _ {t : Bool} {P : Type 0} (p : (t ≡ false) ↔ P) where
  pub decides_not : Decides (not t) P
  decides_not = (λ e. p.0 (not-true t e), λ h. ap not (p.1 h))

  pub decides_then : {s : Bool} {Q : Type 0} → Decides s Q → Decides (not t && s) (P × Q)
  decides_then {s} q = (
    λ e. (decides_not.0 (and_left (not t) s e), q.0 (and_right (not t) s e)),
    λ f. and_both (not t) s (decides_not.1 f.0) (q.1 f.1),
  )

  pub decides_fails : Decides t (¬ P)
  decides_fails = (λ e h. never_both e (p.1 h), λ f. by_test t (λ e. e) (λ e. absurd (f (p.0 e))))

pub decides_number : {t : Bool} {P : Type 0} (n k : ℕ) → eqb n k ≡ t → Decides t P → (n ≡ k) ↔ P
decides_number n k e p = (λ h. p.0 (sym e ∙ eq-eqb n k h), λ h. eqb-true n k (e ∙ p.1 h))

-- THE ORDER of the refusals
order : (a b c d e f : Bool) →
    let n = first_refusal (
    first_refusal (first_refusal (refused_if 1 a ∷ refused_if 2 b ∷ refused_if 10 c ∷ refused_if 13 d ∷ []) ∷ refused_if 11 e ∷ [])
    ∷ refused_if 3 f
    ∷ []) in
    (eqb n 1 ≡ a)
    × (eqb n 2 ≡ not a && b)
    × (eqb n 10 ≡ not a && (not b && c))
    × (eqb n 13 ≡ not a && (not b && (not c && d)))
    × (eqb n 11 ≡ not a && (not b && (not c && (not d && e))))
    × (eqb n 3 ≡ not a && (not b && (not c && (not d && (not e && f)))))
    × (eqb n 0 ≡ not a && (not b && (not c && (not d && (not e && not f)))))
unfolding first_refusal refused_if
order true b c d e f = (refl, refl, refl, refl, refl, refl, refl)
order false true c d e f = (refl, refl, refl, refl, refl, refl, refl)
order false false true d e f = (refl, refl, refl, refl, refl, refl, refl)
order false false false true e f = (refl, refl, refl, refl, refl, refl, refl)
order false false false false true f = (refl, refl, refl, refl, refl, refl, refl)
order false false false false false true = (refl, refl, refl, refl, refl, refl, refl)
order false false false false false false = (refl, refl, refl, refl, refl, refl, refl)

-- THE TESTS of lengths and bytes
module _ {t : ℕ → Bool} {any : List ℕ → Bool} (a : Some t any) where
  every_none : (ls : List ℕ) → Every (λ l. t l ≡ false) ls → any ls ≡ false
  every_none [] all = a.none
  every_none (l ∷ ls) all = a.more l ls ∙ rw (all.0, every_none ls all.1) refl

  none_of_all : {P : ℕ → Type 0} → ((l : ℕ) → (t l ≡ false) ↔ P l) → (ls : List ℕ) → (any ls ≡ false) ↔ Every P ls
  none_of_all p ls = (λ e. every_map ls (λ l. (p l).0) (none_every a ls e), λ h. every_none ls (every_map ls (λ l. (p l).1) h))

pub below_test : (k n : ℕ) → (ltb k n ≡ false) ↔ (n ≤ k)
below_test k n = (ltb-false k n, le-ltb k n)

pub above_test : (k n : ℕ) → Decides (ltb k n) (k < n)
above_test k n = (ltb-true k n, lt-ltb k n)

pub filled_test : (ls : List ℕ) → (member 0 ls ≡ false) ↔ Filled ls
filled_test =
    none_of_all empty_some
    (λ l. (λ e. let n : l ≢ 0 = eqb-false l 0 e in omega arith, λ (h : 1 ≤ l). ne_eqb l 0 (λ z. omega arith)))

pub short_test : (ls : List ℕ) → (some_above longest_code ls ≡ false) ↔ Short ls
short_test = none_of_all (long_some longest_code) (λ l. below_test longest_code l)

boardable_test : (ls bs : List ℕ) → (no_board ls bs ≡ false) ↔ Boardable ls bs
boardable_test ls bs = (
  λ e.
      let some : length ls ≢ 0 = λ z. never_both (no_codes ls bs z) e in
      let codes : length ls ≤ 64 = by_le (length ls) 64 (λ h. h) (λ h. absurd (never_both (many_codes ls bs some h) e)) in
      let bytes : length bs ≤ 2000 = by_le (length bs) 2000 (λ h. h) (λ h. absurd (never_both (many_bytes ls bs some codes h) e)) in
      let sums : sum ls ≡ length bs =
      eqb-true (sum ls) (length bs) (not-false (eqb (sum ls) (length bs)) (by_sum ls bs some codes bytes (sum ls) refl ∙ e)) in
      (omega arith, codes, bytes, sums),
  λ h.
      sym (by_sum ls bs (λ z. omega (arith, h.0, z)) h.1 h.2 (sum ls) refl)
      ∙ ap not (eq-eqb (sum ls) (length bs) h.3),
)

pub clean_test : (bs : List ℕ) → (has_control bs ≡ false) ↔ Clean bs
clean_test bs = (clean_bytes bs, bytes_clean bs)

-- no code stands there twice: any two of them differ
pub different_once : (ws : List (List ℕ)) → Different ws → twice ws ≡ false
unfolding twice code
different_once [] f = refl
different_once (w ∷ ws) f =
    let new : is_code ws w ≡ false =
    fails (is_code ws w) (λ e. f 0 (suc (index ws w)) (omega arith) (omega (arith, index_below ws w e)) (sym (code_index ws w e))) in
    rw new (different_once ws (λ i j l h. f (suc i) (suc j) (omega arith) (omega arith)))

pub different_test : (ws : List (List ℕ)) → (twice ws ≡ false) ↔ Different ws
different_test ws = (
  λ e i j l h same. omega (arith, l, number_at ws i e (omega (arith, l, h)), number_at ws j e h, ap (number ws) same),
  different_once ws,
)

pub refusals_told : RefusalsTold
unfolding RefusalsTold prepare_refusal codes_refusal list_refusal
refusals_told ls bs k =
    let a = filled_test ls in
    let b = short_test ls in
    let c = boardable_test ls bs in
    let d = clean_test bs in
    let e = different_test (cut ls bs) in
    let n : ℕ = prepare_refusal ls bs k in
    let o = order (member 0 ls) (some_above longest_code ls) (no_board ls bs) (has_control bs) (twice (cut ls bs)) (ltb k 32768) in (
      decides_number n 1 o.0 (decides_fails a),
      decides_number n 2 o.1 (decides_then a (decides_fails b)),
      decides_number n 10 o.2 (decides_then a (decides_then b (decides_fails c))),
      decides_number n 13 o.3 (decides_then a (decides_then b (decides_then c (decides_fails d)))),
      decides_number n 11 o.4 (decides_then a (decides_then b (decides_then c (decides_then d (decides_fails e))))),
      decides_number n 3 o.5 (decides_then a (decides_then b (decides_then c (decides_then d (decides_then e (above_test k 32768)))))),
      decides_number n 0 o.6 (decides_then a (decides_then b (decides_then c (decides_then d (decides_then e (decides_not (below_test k 32768))))))),
    )

-- THE CODES, one by one: what every length has, and every byte of all codes
module _ (P : ℕ → Type 0) where
  each_length : (ws : List (List ℕ)) → Every P (map length ws) → (j : ℕ) → j < length ws → P (length (code ws j))
  unfolding code
  each_length [] all j h = absurd (omega arith)
  each_length (w ∷ ws) all zero h = all.0
  each_length (w ∷ ws) all (suc j) h = each_length ws all.1 j (omega arith)

  pub all_lengths : (ws : List (List ℕ)) → ((j : ℕ) → j < length ws → P (length (code ws j))) → Every P (map length ws)
  unfolding code
  all_lengths [] f = tt
  all_lengths (w ∷ ws) f = (f 0 (omega arith), all_lengths ws (λ j h. f (suc j) (omega arith)))

  each_code : (ws : List (List ℕ)) → Every P (bytes_of ws) → (j : ℕ) → j < length ws → Every P (code ws j)
  unfolding code bytes_of
  each_code [] all j h = absurd (omega arith)
  each_code (w ∷ ws) all zero h = ((every_append P w (bytes_of ws)).0 all).0
  each_code (w ∷ ws) all (suc j) h = each_code ws ((every_append P w (bytes_of ws)).0 all).1 j (omega arith)

  pub all_codes : (ws : List (List ℕ)) → ((j : ℕ) → j < length ws → Every P (code ws j)) → Every P (bytes_of ws)
  unfolding code bytes_of
  all_codes [] f = tt
  all_codes (w ∷ ws) f = (every_append P w (bytes_of ws)).1 (f 0 (omega arith), all_codes ws (λ j h. f (suc j) (omega arith)))

-- accepted codes are those that preparing does not refuse where there is room
pub roomy : (ls bs : List ℕ) → prepare_refusal ls bs 32768 ≡ codes_refusal ls bs
unfolding prepare_refusal
roomy ls bs = alone (codes_refusal ls bs)
  where
    alone : (n : ℕ) → first_refusal (n ∷ refused_if 3 (ltb 32768 board_room) ∷ []) ≡ n
    alone zero = unfold first_refusal refused_if in refl
    alone (suc n) = unfold first_refusal in refl

pub boards_accepted : BoardsAccepted
unfolding BoardsAccepted RefusalsTold accepted
boards_accepted ws =
    let ls : List ℕ = map length ws in
    let bs : List ℕ = bytes_of ws in
    let count : length ls ≡ length ws = length-map ws (λ (w : List ℕ). length w) in
    let bytes : length bs ≡ total ws = length_bytes ws in
    let told = (refusals_told ls bs 32768).6 in (
      λ e.
          let f = told.0 (roomy ls bs ∙ eqb-true (codes_refusal ls bs) 0 e) in
          let c = f.1.1.0 in (
            omega (arith, c.0, count),
            omega (arith, c.1, count),
            omega (arith, c.2, bytes),
            λ j h. (
              each_length (λ l. 1 ≤ l) ws f.0 j h,
              each_length (λ l. l ≤ 4000) ws f.1.0 j h,
              each_code (λ v. 32 ≤ v) ws f.1.1.1.0 j h,
            ),
            rw (bytes_cut ws) at f.1.1.1.1.0,
          ),
      λ f.
          eq-eqb (codes_refusal ls bs) 0
          (sym (roomy ls bs)
          ∙ told.1 (
            all_lengths (λ l. 1 ≤ l) ws (λ j h. (f.3 j h).0),
            (
              all_lengths (λ l. l ≤ 4000) ws (λ j h. (f.3 j h).1),
              (
                (omega (arith, f.0, count), omega (arith, f.1, count), omega (arith, f.2, bytes), sum_lengths ws),
                (all_codes (λ v. 32 ≤ v) ws (λ j h. (f.3 j h).2), (rw (bytes_cut ws) f.4, omega arith)),
              ),
            ),
          )),
    )

pub accepted_once : (ws : List (List ℕ)) → accepted ws ≡ true → twice ws ≡ false
unfolding BoardsAccepted
accepted_once ws e = different_once ws ((boards_accepted ws).0 e).4

-- WHICH WATCHES ARE FIT
watch_fit : (ws : List (List ℕ)) (x : Watch) → StandsFor ws x.state x.taken → x.hits ≤ 64 * x.taken → fit ws x ≡ true
watch_fit ws x u h =
    fit_test ws x (rw u.state_is at (fit_start ws u.start x.taken x.hits u.known_is u.short h))

watches_are : (ws : List (List ℕ)) (x : Watch) → (fit ws x ≡ true) ↔ FitFor ws x
watches_are ws x = (
  (λ e.
      let f = fit_is ws x e in (
        record { start = start ws x.state; known_is = start_is_known ws x.state; state_is = f.state_is; short = f.reached },
        f.few,
      )),
  (λ p. watch_fit ws x p.0 p.1),
)

pub watches_fit : WatchesFit
unfolding WatchesFit
watches_fit = watches_are

-- THE ORDER of feeding's refusals
feed_order : (a b c d : Bool) →
    let n = first_refusal (refused_if 4 a ∷ refused_if 5 b ∷ first_refusal (refused_if 6 c ∷ refused_if 7 d ∷ []) ∷ []) in
    (eqb n 4 ≡ a)
    × (eqb n 5 ≡ not a && b)
    × (eqb n 6 ≡ not a && (not b && c))
    × (eqb n 7 ≡ not a && (not b && (not c && d)))
    × (eqb n 0 ≡ not a && (not b && (not c && not d)))
unfolding first_refusal refused_if
feed_order true b c d = (refl, refl, refl, refl, refl)
feed_order false true c d = (refl, refl, refl, refl, refl)
feed_order false false true d = (refl, refl, refl, refl, refl)
feed_order false false false true = (refl, refl, refl, refl, refl)
feed_order false false false false = (refl, refl, refl, refl, refl)

begins_test : (bs : List ℕ) → (not (begins bs) ≡ false) ↔ (begins bs ≡ true)
begins_test bs = (not-false (begins bs), λ e. ap not e)

fit_for_test : (ws : List (List ℕ)) (x : Watch) → (not (fit ws x) ≡ false) ↔ FitFor ws x
fit_for_test ws x = (λ e. (watches_are ws x).0 (not-false (fit ws x) e), λ h. ap not ((watches_are ws x).1 h))

spots_test : (ws : List (List ℕ)) (l : Lent) → (ltb (room l) (length ws) ≡ false) ↔ Spots ws l
unfolding room
spots_test ws l = (
  λ e.
      let h : length ws ≤ min (length l.places) (length l.numbers) = ltb-false (min (length l.places) (length l.numbers)) (length ws) e in
      (omega arith, omega arith),
  λ h. le-ltb (min (length l.places) (length l.numbers)) (length ws) (omega (arith, h.0, h.1)),
)

pub feeding_refused : FeedingRefused
unfolding FeedingRefused feed_refusal call_refusal
feeding_refused bs x l =
    let ws : List (List ℕ) = named bs in
    let n : ℕ = feed_refusal bs x l in
    let bytes : ℕ = x.taken + length l.piece in
    let a = begins_test bs in
    let b = fit_for_test ws x in
    let c = spots_test ws l in
    let o = feed_order (not (begins bs)) (not (fit ws x)) (ltb (room l) (length ws)) (ltb longest_text bytes) in (
      decides_number n 4 o.0 (not-true (begins bs), λ e. ap not e),
      decides_number n 5 o.1 (decides_then a (decides_fails b)),
      decides_number n 6 o.2 (decides_then a (decides_then b (decides_fails c))),
      decides_number n 7 o.3 (decides_then a (decides_then b (decides_then c (above_test longest_text bytes)))),
      decides_number n 0 o.4 (decides_then a (decides_then b (decides_then c (decides_not (below_test longest_text bytes))))),
    )
