-- What is promised of runs of a board's feeding calls. Each statement is a type; docs/PROOFS.md names its proof. Assumes nothing.
use Rattle.std.specs.Prelude.{◌≡◌, true, List, [], ◌∷◌, ◌++◌, ◌≢◌, ◌↔◌, ℕ, suc, ◌+◌, ◌≤◌, ◌<◌, length, take, drop}
use Rattle.runs.specs.Answers.{Answer}
use Rattle.runs.specs.Reading.{ending_refusal, ending_full, PieceDone, Refused}
use Rattle.runs.specs.Calls.{Outcome}
use Rattle.sheets.specs.Sheet as sheet
use Rattle.finder.specs.Texts.{places}
use Rattle.finder.specs.Entry as finder
use Rattle.starts.specs.Starts.{code, state, reached}
use Rattle.starts.specs.Hits.{Hit, hits, places_of, EveryHit, Ordered}
use Rattle.boards.specs.declared.Watch.{Watch}
use Rattle.boards.specs.Board.{cut, accepted, board, named}
use Rattle.boards.specs.Promise.{Spots}
use Rattle.boards.specs.Feed.{opened, fit, feed}
use Rattle.boards.specs.Entry.{prepare_refusal, prepare_buffer, Lent, room, feed_refusal, feed_call, FeedSays, paired, feed_run}

-- AFTER A RUN a call, whatever it is lent, is refused with 6 exactly if a list has fewer spots than there are codes, else with 7 exactly if more than
-- 4294967295 bytes would be taken, and else not at all; 4 and 5 never come up
abbrev pub RefusesOnly : (ws : List (List ℕ)) → (buffer : List ℕ) → Outcome Watch Hit → Type 0
RefusesOnly ws bs r =
    (l : Lent) → let n = feed_refusal bs r.after l in
    (n ≢ 4)
    × (n ≢ 5)
    × ((n ≡ 6) ↔ (¬ Spots ws l))
    × ((n ≡ 7) ↔ (Spots ws l × (4294967295 < length r.bytes + length l.piece)))
    × ((n ≡ 0) ↔ (Spots ws l × (length r.bytes + length l.piece ≤ 4294967295)))

-- THE RUN, from an opening on, of any calls: the watch has counted the bytes taken and the hits, and its state is that of the bytes taken; the hits told are
-- those in the bytes taken, by rising last byte, longer codes first, so none twice; each has the number of a code, from 1; and those with a code's number are
-- exactly the places that a search for this code alone finds in the bytes taken. And the next call is refused with 6 or 7 only, under their conditions
-- (`RefusesOnly`); `EndingsTold` says that it answers that number
pub record RunFound (ws : List (List ℕ)) (buffer : List ℕ) (r : Outcome Watch Hit) : Type 0 where
  pub bytes_are : r.after.taken ≡ length r.bytes
  pub state_is : r.after.state ≡ state ws (reached ws r.bytes)
  pub hits_are : r.after.hits ≡ length r.told
  pub told_are : r.told ≡ hits ws r.bytes
  pub separate : (j : ℕ) → j < length ws → places_of (suc j) r.told ≡ places (code ws j) r.bytes
  pub ordered : Ordered ws r.told
  pub coded : EveryHit (λ h. (1 ≤ h.number) × (h.number ≤ length ws)) r.told
  pub fits : fit ws r.after ≡ true
  pub refused : RefusesOnly ws buffer r

-- on a buffer that begins with the board of accepted codes
unfoldable pub EntriesFind : Type 0
EntriesFind =
    (ws : List (List ℕ)) (rest : List ℕ) (ls : List Lent) → accepted ws ≡ true →
    RunFound ws (board ws ++ rest) (feed_run (board ws ++ rest) ls)

-- so from preparing on: on the buffer that preparing left, if it was not refused
unfoldable pub PreparedFind : Type 0
PreparedFind =
    (lengths bytes buffer : List ℕ) (ls : List Lent) → prepare_refusal lengths bytes (length buffer) ≡ 0 →
    RunFound (cut lengths bytes) (prepare_buffer lengths bytes buffer) (feed_run (prepare_buffer lengths bytes buffer) ls)

-- SEPARATE WATCHES: a run of the finder with one of the codes, however its text was cut, writes what the board's run writes with that code's number, if both
-- have taken the same bytes
unfoldable pub SameAsSeparate : Type 0
SameAsSeparate =
    (ws : List (List ℕ)) (rest more : List ℕ) (ls : List Lent) (ks : List finder.Lent) (j : ℕ) → accepted ws ≡ true → j < length ws →
    let r = feed_run (board ws ++ rest) ls in
    let q = finder.feed_run finder.told_places (sheet.sheet (code ws j) ++ more) ks in
    q.bytes ≡ r.bytes → q.told ≡ places_of (suc j) r.told

-- two runs alike in the codes and the bytes taken end alike, in the watch and in the hits
unfoldable pub EntriesAlike : Type 0
EntriesAlike =
    (ws : List (List ℕ)) (rest other : List ℕ) (ls ks : List Lent) → accepted ws ≡ true →
    let r = feed_run (board ws ++ rest) ls in
    let q = feed_run (board ws ++ other) ks in
    r.bytes ≡ q.bytes → r ≡ q

-- A CALLER'S OWN CALLS are a run: it begins with an opening and nothing taken, and a call of `feed` that gets the last watch makes it one longer
unfoldable pub RunsGrow : Type 0
RunsGrow =
    (buffer : List ℕ) →
    (feed_run buffer [] ≡ record { after = opened; bytes = []; told = [] })
    × ((ls : List Lent) (l : Lent) (r : Answer Watch) (a : Lent) →
    let q = feed_run buffer ls in
    FeedSays buffer q.after l r a →
    feed_run buffer (ls ++ (l ∷ []))
    ≡ record {
      after = r.watch;
      bytes = q.bytes ++ take r.taken l.piece;
      told = q.told ++ paired (take r.written a.places) (take r.written a.numbers);
    })

-- no more is written than either list has spots. An ending has its refusal's number; list full: in one of them fewer spots are free than there are codes,
-- and bytes of the piece are left; piece done: all its bytes were taken
unfoldable pub EndingsTold : Type 0
EndingsTold =
    (buffer : List ℕ) (x : Watch) (l : Lent) →
    let r = (feed_call buffer x l).answer in
    (r.written ≤ room l)
    × (ending_refusal r.ending ≡ feed_refusal buffer x l)
    × (ending_full r.ending ≡ 1 → (room l < r.written + length (named buffer)) × (r.taken < length l.piece))
    × (ending_refusal r.ending ≡ 0 → ending_full r.ending ≡ 0 → r.taken ≡ length l.piece)

-- feeding stops in time: before each byte that a call takes, both lists have a free spot for each code behind the hits of the bytes before it
unfoldable pub StopsInTime : Type 0
StopsInTime =
    (buffer : List ℕ) (x : Watch) (l : Lent) (i : ℕ) → i < (feed_call buffer x l).answer.taken →
    let ws = named buffer in
    let n = length (feed ws (take i l.piece) (room l) x).told in
    (n + length ws ≤ length l.places) × (n + length ws ≤ length l.numbers)

-- bytes behind the board are not looked at, whatever the watch
unfoldable pub BehindUnread : Type 0
BehindUnread =
    (ws : List (List ℕ)) (rest other : List ℕ) (x : Watch) (l : Lent) → feed_call (board ws ++ rest) x l ≡ feed_call (board ws ++ other) x l

-- feeding goes on: a call that is not refused takes at least one byte of a piece that is not empty; an empty piece changes nothing and is done
unfoldable pub FeedingGoesOn : Type 0
FeedingGoesOn =
    (buffer : List ℕ) (x : Watch) (l : Lent) → feed_refusal buffer x l ≡ 0 →
    let e = feed_call buffer x l in
    (1 ≤ length l.piece → 1 ≤ e.answer.taken)
    × (l.piece ≡ [] → (e.answer ≡ record { watch = x; taken = 0; written = 0; ending = PieceDone }) × (e.left ≡ l))

-- READING BACK what a call that is not refused has written: as many spots as it says, at the front of both lists, hold place and number of each hit that
-- feeding tells, pair by pair; behind them nothing has changed, nor has the piece, nor how long the lists are
unfoldable pub HitsReadBack : Type 0
HitsReadBack =
    (buffer : List ℕ) (x : Watch) (l : Lent) → feed_refusal buffer x l ≡ 0 →
    let e = feed_call buffer x l in
    let n = e.answer.written in
    let told = (feed (named buffer) l.piece (room l) x).told in
    (n ≡ length told)
    × (paired (take n e.left.places) (take n e.left.numbers) ≡ told)
    × (drop n e.left.places ≡ drop n l.places)
    × (drop n e.left.numbers ≡ drop n l.numbers)
    × (length e.left.places ≡ length l.places)
    × (length e.left.numbers ≡ length l.numbers)
    × (e.left.piece ≡ l.piece)

-- A REFUSED CALL takes no byte and writes nothing: it answers the watch that it got and its refusal's number, and leaves all that was lent to it as it was
unfoldable pub RefusedUnchanged : Type 0
RefusedUnchanged =
    (buffer : List ℕ) (x : Watch) (l : Lent) → let n = feed_refusal buffer x l in n ≢ 0 →
    let e = feed_call buffer x l in
    (e.answer ≡ record { watch = x; taken = 0; written = 0; ending = Refused n }) × (e.left ≡ l)
