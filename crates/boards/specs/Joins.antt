-- What is promised of joining two boards. Each statement is a type; docs/PROOFS.md names its proof. Assumes nothing.
use Rattle.std.specs.Prelude.{◌≡◌, true, false, ◌||◌, List, ◌++◌, map, ◌≢◌, ◌↔◌, ℕ, ◌+◌, ◌*◌, ◌-◌, ◌≤◌, ◌<◌, length, take, drop}
use Rattle.runs.specs.Calls.{Outcome}
use Rattle.codes.specs.Refusals.{answer_refusal, answer_value, Answer}
use Rattle.starts.specs.Starts.{code, total, is_code, number}
use Rattle.starts.specs.Hits.{Hit, places_of, EveryHit}
use Rattle.boards.specs.declared.Watch.{Watch}
use Rattle.boards.specs.Board.{cut, bytes_of, accepted, board, named, begins}
use Rattle.boards.specs.Entry.{prepare_refusal, prepare_answer, prepare_buffer, PrepareSays, Lent, feed_run}
use Rattle.boards.specs.Join.{joined, join_refusal, join_answer, join_buffer, JoinSays}
use Rattle.boards.specs.Promise.{Different}
use Rattle.boards.specs.Runs.{RunFound}

-- THE CODES JOINED: first those of the first list, with their numbers; a word is one of them exactly if it is a code of one of the two lists; if no two codes
-- of a list are equal, no two of them are; and those that the first lacks keep their order
unfoldable pub JoinedCodes : Type 0
JoinedCodes =
    (ws vs : List (List ℕ)) → let us = joined ws vs in
    (take (length ws) us ≡ ws)
    × ((w : List ℕ) → is_code us w ≡ is_code ws w || is_code vs w)
    × ((w : List ℕ) → is_code ws w ≡ true → number us w ≡ number ws w)
    × (Different ws → Different vs → Different us)
    × (Different vs → (i j : ℕ) → i < j → j < length vs → is_code ws (code vs i) ≡ false → is_code ws (code vs j) ≡ false →
    number us (code vs i) < number us (code vs j))

-- JOINING IS PREPARING AFRESH: on two buffers that begin with a board, joining is refused, answers and leaves the third buffer, byte for byte, as preparing the
-- joined codes is, does and leaves it, whatever the third buffer; `join` promises of a call just what `prepare` promises of that of the joined codes. So all
-- that is promised of what preparing leaves holds of the joined board
unfoldable pub JoiningPrepares : Type 0
JoiningPrepares =
    (a b c : List ℕ) → begins a ≡ true → begins b ≡ true →
    let us = joined (named a) (named b) in
    let lengths = map length us in
    let bytes = bytes_of us in
    (cut lengths bytes ≡ us)
    × (join_refusal a b (length c) ≡ prepare_refusal lengths bytes (length c))
    × (join_answer a b (length c) ≡ prepare_answer lengths bytes (length c))
    × (join_buffer a b c ≡ prepare_buffer lengths bytes c)
    × ((r : Answer) (d : List ℕ) → JoinSays a b r c d ↔ PrepareSays lengths bytes r c d)

-- so of the boards of accepted codes, whatever stands behind them
unfoldable pub BoardsJoined : Type 0
BoardsJoined =
    (ws vs : List (List ℕ)) (rest more c : List ℕ) → accepted ws ≡ true → accepted vs ≡ true →
    let a = board ws ++ rest in
    let b = board vs ++ more in
    let us = joined ws vs in
    (join_answer a b (length c) ≡ prepare_answer (map length us) (bytes_of us) (length c))
    × (join_buffer a b c ≡ prepare_buffer (map length us) (bytes_of us) c)

-- WHAT JOINING REFUSES, and with which number: the first of the conditions that does not hold gives it, and 0 says that all do. Both buffers begin with a
-- board; the joined codes are at most 64, of at most 2000 bytes together; and the third buffer has 32768 bytes
abbrev pub Boards : (first second : List ℕ) → Type 0
Boards a b = (begins a ≡ true) × (begins b ≡ true)

abbrev pub Few : (ws : List (List ℕ)) → Type 0
Few ws = (length ws ≤ 64) × (total ws ≤ 2000)

unfoldable pub JoiningRefused : Type 0
JoiningRefused =
    (a b : List ℕ) (k : ℕ) → let n = join_refusal a b k in let us = joined (named a) (named b) in
    ((n ≡ 4) ↔ ¬ Boards a b)
    × ((n ≡ 10) ↔ (Boards a b × (¬ Few us)))
    × ((n ≡ 3) ↔ (Boards a b × (Few us × (k < 32768))))
    × ((n ≡ 0) ↔ (Boards a b × (Few us × (32768 ≤ k))))

-- WHAT JOINING ANSWERS: the refusal's number, and the third buffer is as it was; or the joined board's length, and that board stands in front, as that of
-- accepted codes, with no byte behind it changed
unfoldable pub JoiningAnswers : Type 0
JoiningAnswers =
    (a b c : List ℕ) → let n = join_refusal a b (length c) in let r = join_answer a b (length c) in let us = joined (named a) (named b) in
    (answer_refusal r ≡ n)
    × (n ≡ 0 →
    (accepted us ≡ true) × (answer_value r ≡ 4 + 3 * length us + 4 * total us) × (join_buffer a b c ≡ board us ++ drop (length (board us)) c))
    × (n ≢ 0 → join_buffer a b c ≡ c)

-- A BOARD JOINED WITH ITSELF is itself, where the third buffer is long enough
unfoldable pub JoinedItself : Type 0
JoinedItself =
    ((ws : List (List ℕ)) → joined ws ws ≡ ws)
    × ((a c : List ℕ) → begins a ≡ true → 32768 ≤ length c →
    let n = length (board (named a)) in
    (join_refusal a a (length c) ≡ 0) × (join_buffer a a c ≡ take n a ++ drop n c))

-- SEARCHING with the joined board is a run of a board, of the joined codes, so it tells no hit twice; it tells each code of the first at the places at which
-- the first board's run tells it, by the number that the code has on either board, and so those of the second; and no other code
pub record FindsBoth (ws vs : List (List ℕ)) (buffer : List ℕ) (r first second : Outcome Watch Hit) : Type 0 where
  pub found : RunFound (joined ws vs) buffer r
  pub firsts : (w : List ℕ) → is_code ws w ≡ true → places_of (number (joined ws vs) w) r.told ≡ places_of (number ws w) first.told
  pub seconds : (w : List ℕ) → is_code vs w ≡ true → places_of (number (joined ws vs) w) r.told ≡ places_of (number vs w) second.told
  pub no_others : EveryHit (λ h. let w = code (joined ws vs) (h.number - 1) in is_code ws w || is_code vs w ≡ true) r.told

-- however the text was cut for each of the three, if they have taken the same bytes
unfoldable pub JoinedFinds : Type 0
JoinedFinds =
    (a b c : List ℕ) (ls ks ms : List Lent) → join_refusal a b (length c) ≡ 0 →
    let r = feed_run (join_buffer a b c) ls in
    let first = feed_run a ks in
    let second = feed_run b ms in
    first.bytes ≡ r.bytes → second.bytes ≡ r.bytes →
    FindsBoth (named a) (named b) (join_buffer a b c) r first second
