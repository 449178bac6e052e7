-- TWO BOARDS JOINED: which codes they have together, that joining is preparing afresh, what it refuses and answers, and what a run with the joined board finds.
-- Assumes nothing.
use mathlib.Core.Path.{◌≡◌, refl, sym, ap, ◌∙◌}
use mathlib.Core.Bool.{Bool, true, false, ◌&&◌, ◌||◌, not, or-true, or-false}
use mathlib.Core.List.{List, [], ◌∷◌, ◌++◌, map}
use mathlib.Core.Logic.{◌≢◌, ◌↔◌}
use Prim.Native.Nat.{ℕ, ◌-◌, ◌≤◌, ◌<◌}
use native.Mathlib.Omega.{arith}
use lib.Dec.{ltb, eqb}
use lib.ListN.{length, take, drop, length-append, length-map}
use lib.Seq.{take-append_seam}
use borrow.Author.Tests.{eq-eqb, ne_eqb, le-ltb, ltb-false, not-false}
use Rattle.words.specs.Words.{member, in_front}
use Rattle.words.proofs.Tests.{and_left, and_right, and_both, or_none}
use Rattle.runs.specs.declared.Refusal.{Refusal}
use Rattle.runs.specs.Refusals.{refusal_number}
use Rattle.runs.specs.Calls.{Outcome}
use Rattle.runs.proofs.Refusals.{number_some}
use Rattle.codes.specs.Refusals.{refused_if, first_refusal, Answer, Refused}
use Rattle.codes.specs.Codes.{longest_code, has_control}
use Rattle.codes.specs.Promise.{AnswersTold}
use Rattle.codes.proofs.Refusals.{not_refused, answered_refusal, answers_told}
use Rattle.starts.specs.Starts.{code, total, is_code, index, number}
use Rattle.starts.specs.Hits.{Hit, places_of}
use Rattle.starts.proofs.Codes.{index_below, code_index, is_code_at, number_code, number_kept}
use Rattle.starts.proofs.Hits.{every_hit_map}
use Rattle.finder.specs.Texts.{places}
use Rattle.boards.specs.declared.Watch.{Watch}
use Rattle.boards.specs.Board.{cut, bytes_of, most_codes, most_bytes, some_above, no_board, list_refusal, codes_refusal}
use Rattle.boards.specs.Board.{board_room, accepted, board, named, begins}
use Rattle.boards.specs.Entry.{prepare_refusal, prepare_answer, prepare_buffer, Lent, feed_run}
use Rattle.boards.specs.Join.{lacking, joined, joined_named, join_refusal, join_answer, join_buffer, JoinSays}
use Rattle.boards.specs.Joined.{Prepares}
use Rattle.boards.specs.Promise.{Clean, BoardSized, BoardsAccepted, PrepareMakes}
use Rattle.boards.specs.Runs.{RunFound, EntriesFind}
use Rattle.boards.specs.Joins.{Boards, Few, JoinedCodes, JoiningPrepares, BoardsJoined, JoiningRefused, JoiningAnswers}
use Rattle.boards.specs.Joins.{JoinedItself, JoinedFinds}
use Rattle.boards.proofs.Naming.{NamedBy, codes_named}
use Rattle.boards.proofs.Rows.{length_bytes}
use Rattle.boards.proofs.Boards.{sum_lengths, bytes_cut, board_named, board_begins, board_sized, begins_accepted, begins_front, prepare_makes}
use Rattle.boards.proofs.Accepting.{decides_not, decides_then, decides_fails, decides_number, below_test, above_test}
use Rattle.boards.proofs.Accepting.{filled_test, short_test, clean_test, different_once, different_test, all_lengths, all_codes}
use Rattle.boards.proofs.Accepting.{boards_accepted, accepted_once}
use Rattle.boards.proofs.Running.{entries_find}
use Rattle.boards.proofs.Lacking.{joined_is, joined_once, joined_each, joined_order, joined_same}

-- THE CODES JOINED
pub joined_codes : JoinedCodes
unfolding JoinedCodes joined
joined_codes ws vs = (
  take-append_seam ws (lacking ws vs),
  joined_is ws vs,
  number_kept ws (lacking ws vs),
  λ a b. (different_test (joined ws vs)).0 (joined_once ws vs (different_once ws a) (different_once vs b)),
  λ d i j. joined_order ws vs i j (different_once vs d),
)

-- ACCEPTED CODES JOINED are refused by preparing for their number and their bytes only
module _ (ws vs : List (List ℕ)) (a : accepted ws ≡ true) (b : accepted vs ≡ true) where
  abbrev us : List (List ℕ)
  us = joined ws vs

  good : (j : ℕ) → j < length us → (1 ≤ length (code us j)) × (length (code us j) ≤ 4000) × Clean (code us j)
  unfolding BoardsAccepted
  good =
      joined_each ws vs (λ w. (1 ≤ length w) × (length w ≤ 4000) × Clean w) ((boards_accepted ws).0 a).3 ((boards_accepted vs).0 b).3

  some : length us ≢ 0
  unfolding BoardsAccepted joined
  some e = omega (arith, e, length-append ws (lacking ws vs), ((boards_accepted ws).0 a).0)

  no_empty : member 0 (map length us) ≡ false
  no_empty = (filled_test (map length us)).1 (all_lengths (λ l. 1 ≤ l) us (λ j h. (good j h).0))

  no_long : some_above longest_code (map length us) ≡ false
  no_long = (short_test (map length us)).1 (all_lengths (λ l. l ≤ 4000) us (λ j h. (good j h).1))

  no_control : has_control (bytes_of us) ≡ false
  no_control = (clean_test (bytes_of us)).1 (all_codes (λ v. 32 ≤ v) us (λ j h. (good j h).2))

  by_size : no_board (map length us) (bytes_of us) ≡ ltb most_codes (length us) || ltb most_bytes (total us)
  unfolding no_board
  by_size =
      rw (sum_lengths us, length_bytes us, eq-eqb (total us) (total us) refl, length-map us (λ (w : List ℕ). length w))
      (rw (ne_eqb (length us) 0 some, or-false (ltb most_bytes (total us))) refl)

-- so joining and preparing have the same refusals
alike : (t s : Bool) →
    first_refusal (refused_if 4 false ∷ refused_if 10 t ∷ refused_if 3 s ∷ [])
    ≡ first_refusal (
    first_refusal (first_refusal (refused_if 1 false ∷ refused_if 2 false ∷ refused_if 10 t ∷ refused_if 13 false ∷ []) ∷ refused_if 11 false ∷ [])
    ∷ refused_if 3 s
    ∷ [])
unfolding first_refusal refused_if
alike true s = refl
alike false true = refl
alike false false = refl

same_refusal : (a b : List ℕ) (k : ℕ) → begins a ≡ true → begins b ≡ true →
    let us = joined (named a) (named b) in join_refusal a b k ≡ prepare_refusal (map length us) (bytes_of us) k
unfolding join_refusal joined_named prepare_refusal codes_refusal list_refusal
same_refusal a b k p q =
    let ws : List (List ℕ) = named a in
    let vs : List (List ℕ) = named b in
    let us : List (List ℕ) = joined ws vs in
    let x = begins_accepted a p in
    let y = begins_accepted b q in
    let once = joined_once ws vs (accepted_once ws x) (accepted_once vs y) in
    rw (p, q, no_empty ws vs x y, no_long ws vs x y, by_size ws vs x y, no_control ws vs x y, bytes_cut us, once)
    (alike (ltb most_codes (length us) || ltb most_bytes (total us)) (ltb k board_room))

pub joining_prepares : JoiningPrepares
unfolding JoiningPrepares join_answer join_buffer joined_named prepare_answer prepare_buffer
joining_prepares a b c p q =
    let us : List (List ℕ) = joined (named a) (named b) in
    let refusal = same_refusal a b (length c) p q in
    let answer : join_answer a b (length c) ≡ prepare_answer (map length us) (bytes_of us) (length c) = rw (refusal, bytes_cut us) refl in
    let buffer : join_buffer a b c ≡ prepare_buffer (map length us) (bytes_of us) c = rw (refusal, bytes_cut us) refl in (
      bytes_cut us,
      refusal,
      answer,
      buffer,
      λ r d. (
        λ s. record { answers = s.answers ∙ answer; leaves = s.leaves ∙ buffer },
        λ s. record { answers = s.answers ∙ sym answer; leaves = s.leaves ∙ sym buffer },
      ),
    )

pub boards_joined : BoardsJoined
unfolding BoardsJoined JoiningPrepares
boards_joined ws vs rest more c p q =
    let n = board_named ws rest in
    let m = board_named vs more in
    let same = joining_prepares (board ws ++ rest) (board vs ++ more) c (board_begins ws rest ∙ p) (board_begins vs more ∙ q) in
    (rw (n, m) at same.2, rw (n, m) at same.3)

-- A BUFFER READ is refused exactly if it begins with no board
pub read_refused : (s : Refusal) (t : Bool) → refusal_number s ≡ refused_if 4 (not t) → (t ≡ false) × (refusal_number s ≡ 4)
unfolding refused_if
read_refused s false e = (refl, e)
read_refused s true e = absurd (number_some s e)

pub read_passed : (t : Bool) → 0 ≡ refused_if 4 (not t) → t ≡ true
read_passed t e = not-false t (not_refused 3 (not t) (sym e))

-- THE ENTRY POINT: a buffer that begins with no board is refused; otherwise the codes that the two name are prepared
module _ (a b x : List ℕ) where
  pub says_no_board : begins a && begins b ≡ false → JoinSays a b (Refused 4) x x
  unfolding join_answer join_buffer join_refusal first_refusal refused_if
  says_no_board e =
      let n : join_refusal a b (length x) ≡ 4 = rw e in
      record { answers = rw n (sym (answered_refusal 4 (length (board (joined_named a b))) (λ z. omega arith))); leaves = rw n refl }

  pub says_joined : {ls bs ms cs : List ℕ} → NamedBy a ls bs → NamedBy b ms cs → begins a ≡ true → begins b ≡ true → {r : Answer} {y : List ℕ} →
      Prepares (joined (cut ls bs) (cut ms cs)) r x y → JoinSays a b r x y
  unfolding JoiningPrepares
  says_joined m n p q s = ((joining_prepares a b x p q).4 _ _).1 (rw (codes_named m, codes_named n) at s)

-- THE ORDER of the refusals
order : (t u v : Bool) →
    let n = first_refusal (refused_if 4 t ∷ refused_if 10 u ∷ refused_if 3 v ∷ []) in
    (eqb n 4 ≡ t) × (eqb n 10 ≡ not t && u) × (eqb n 3 ≡ not t && (not u && v)) × (eqb n 0 ≡ not t && (not u && not v))
unfolding first_refusal refused_if
order true u v = (refl, refl, refl, refl)
order false true v = (refl, refl, refl, refl)
order false false true = (refl, refl, refl, refl)
order false false false = (refl, refl, refl, refl)

boards_test : (a b : List ℕ) → (not (begins a && begins b) ≡ false) ↔ Boards a b
boards_test a b = (
  λ e. let both = not-false (begins a && begins b) e in (and_left (begins a) (begins b) both, and_right (begins a) (begins b) both),
  λ h. ap not (and_both (begins a) (begins b) h.0 h.1),
)

few_test : (ws : List (List ℕ)) → (ltb most_codes (length ws) || ltb most_bytes (total ws) ≡ false) ↔ Few ws
few_test ws = (
  λ e.
      let n = or_none (ltb most_codes (length ws)) (ltb most_bytes (total ws)) e in
      (ltb-false most_codes (length ws) n.0, ltb-false most_bytes (total ws) n.1),
  λ h. rw (le-ltb most_codes (length ws) h.0, le-ltb most_bytes (total ws) h.1) refl,
)

pub joining_refused : JoiningRefused
unfolding JoiningRefused join_refusal joined_named
joining_refused a b k =
    let us : List (List ℕ) = joined (named a) (named b) in
    let n : ℕ = join_refusal a b k in
    let t = boards_test a b in
    let u = few_test us in
    let o = order (not (begins a && begins b)) (ltb most_codes (length us) || ltb most_bytes (total us)) (ltb k 32768) in (
      decides_number n 4 o.0 (decides_fails t),
      decides_number n 10 o.1 (decides_then t (decides_fails u)),
      decides_number n 3 o.2 (decides_then t (decides_then u (above_test k 32768))),
      decides_number n 0 o.3 (decides_then t (decides_then u (decides_not (below_test k 32768)))),
    )

-- WHAT IS ANSWERED
pub joining_answers : JoiningAnswers
unfolding JoiningAnswers JoiningRefused PrepareMakes BoardSized AnswersTold join_answer join_buffer joined_named in_front
joining_answers a b c =
    let us : List (List ℕ) = joined (named a) (named b) in
    let n : ℕ = join_refusal a b (length c) in
    let v : ℕ = length (board us) in (
      (answers_told n v).0,
      λ e.
          let on = ((joining_refused a b (length c)).3.0 e).0 in
          let made = prepare_makes (map length us) (bytes_of us) c (sym (same_refusal a b (length c) on.0 on.1) ∙ e) in
          (rw (bytes_cut us) at made.0, (answers_told n v).1 ∙ rw e (board_sized us).0, rw e refl),
      λ h. rw (ne_eqb n 0 h) refl,
    )

-- a board joined with itself
pub joined_itself : JoinedItself
unfolding JoinedItself JoiningRefused JoiningAnswers BoardsAccepted BoardSized in_front
joined_itself = (
  joined_same,
  λ a c b h.
      let ws : List (List ℕ) = named a in
      let good = (boards_accepted ws).0 (begins_accepted a b) in
      let none = (joining_refused a a (length c)).3.1 ((b, b), (rw (joined_same ws) (good.1, good.2), h)) in
      let made = rw (joined_same ws) at ((joining_answers a a c).1 none) in
      let front = ap (take (length (board ws))) (begins_front a b) ∙ take-append_seam (board ws) (drop (length (board ws)) a) in
      (none, rw front made.2),
)

-- RUNS: on a buffer that is a board and more
board_run : (ws : List (List ℕ)) (buffer rest : List ℕ) (ls : List Lent) → accepted ws ≡ true → buffer ≡ board ws ++ rest →
    RunFound ws buffer (feed_run buffer ls)
unfolding EntriesFind
board_run ws buffer rest ls good e = rw e (entries_find ws rest ls good)

begun_run : (a : List ℕ) (ls : List Lent) → begins a ≡ true → RunFound (named a) a (feed_run a ls)
unfolding in_front
begun_run a ls b = board_run (named a) a (drop (length (board (named a))) a) ls (begins_accepted a b) (begins_front a b)

-- a run tells a code at the places that a search for it finds
told_places : {ws : List (List ℕ)} {buffer : List ℕ} {r : Outcome Watch Hit} → RunFound ws buffer r → (w : List ℕ) → is_code ws w ≡ true →
    places_of (number ws w) r.told ≡ places w r.bytes
told_places {ws} {buffer} {r} found w t =
    rw (number_code ws w t) (found.separate (index ws w) (index_below ws w t) ∙ ap (λ (u : List ℕ). places u r.bytes) (code_index ws w t))

pub joined_finds : JoinedFinds
unfolding JoinedFinds JoiningRefused JoiningAnswers
joined_finds a b c ls ks ms none e f =
    let ws : List (List ℕ) = named a in
    let vs : List (List ℕ) = named b in
    let us : List (List ℕ) = joined ws vs in
    let d : List ℕ = join_buffer a b c in
    let on = ((joining_refused a b (length c)).3.0 none).0 in
    let made = (joining_answers a b c).1 none in
    let found = board_run us d (drop (length (board us)) c) ls made.0 made.2 in
    record {
      found = found;
      firsts = λ w t. told_places found w (rw (joined_is ws vs w, t)) ∙ ap (places w) (sym e) ∙ sym (told_places (begun_run a ks on.0) w t);
      seconds = λ w t.
          told_places found w (rw (joined_is ws vs w, t) (or-true (is_code ws w)))
          ∙ ap (places w) (sym f)
          ∙ sym (told_places (begun_run b ms on.1) w t);
      no_others =
          every_hit_map (feed_run d ls).told
          (λ h k.
          let w : List ℕ = code us (h.number - 1) in
          sym (joined_is ws vs w) ∙ is_code_at us (h.number - 1) (omega (arith, k.0, k.1)))
          found.coded;
    }
