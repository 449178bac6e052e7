-- What is promised of runs of feeding calls, of endings, and of `feed`'s own answers. Each statement is a type; docs/PROOFS.md names its proof. Assumes
-- nothing.
use Rattle.std.specs.Prelude.{◌≡◌, true, List, [], ◌∷◌, ◌++◌, map, ◌≢◌, ◌↔◌, ℕ, suc, ◌+◌, ◌≤◌, ◌<◌, length, take, drop}
use Rattle.words.specs.Words.{byte, member, Every, Rising, state_of}
use Rattle.runs.specs.Reading.{fed, ending_refusal, ending_full, PieceDone}
use Rattle.runs.specs.Answers.{Answer}
use Rattle.runs.specs.Calls.{Outcome, run, Call, called}
use Rattle.automaton.specs.Ceilings.{byte_ceiling, total_ceiling}
use Rattle.automaton.specs.Costs.{costs, sum}
use Rattle.codes.specs.Codes.{has_control, accepted}
use Rattle.sheets.specs.Sheet.{sheet}
use Rattle.sheets.specs.Entry.{prepare_refusal, prepare_buffer}
use Rattle.finder.specs.declared.Watch.{Watch}
use Rattle.finder.specs.Feed.{opened, fit, feeder, feed}
use Rattle.finder.specs.Machine.{Machine, machine_start, call_refusal, machine_after, machine_refusals}
use Rattle.finder.specs.Texts.{places, watch_of}
use Rattle.finder.specs.Entry.{Lent, FeedCall, feed_refusal, feed_call, FeedSays, feed_run, told_places, told_refusal, plain}

-- THE THIRD DEMAND: a watch has what the plain machine has, and the machine's costs keep to both ceilings
pub record Counted (w : List ℕ) (x : Watch) (m : Machine) : Type 0 where
  pub bytes : x.taken ≡ length m.text
  pub state : x.state ≡ state_of w m.text
  pub hits : x.hits ≡ length m.found
  pub compares : x.compares ≡ m.total
  pub adds : m.total ≡ sum (costs w m.text)
  pub each_below : Every (λ k. k ≤ byte_ceiling w) (costs w m.text)
  pub total_below : m.total ≤ total_ceiling (length w) (length m.text)
  pub fits : fit (length w) x ≡ true

-- A LIST OF CALLS from an opening on, refused ones among them: the machine after it, and the run of the definitions
abbrev pub machine_run : (w : List ℕ) → List Call → Machine
machine_run w cs = machine_after w cs machine_start

abbrev pub plain_run : (w : List ℕ) → List Call → Outcome Watch ℕ
plain_run w cs = run (called (feeder w) (λ c x. call_refusal c x.taken)) cs opened

unfoldable pub RunsCount : Type 0
RunsCount = (w : List ℕ) (cs : List Call) → 1 ≤ length w → Counted w (plain_run w cs).after (machine_run w cs)

-- the machine's text is the bytes taken
unfoldable pub TextTaken : Type 0
TextTaken = (w : List ℕ) (cs : List Call) → (machine_run w cs).text ≡ (plain_run w cs).bytes

-- lists alike in the code and the bytes taken end alike, in the watch and in the places
unfoldable pub AlikeCount : Type 0
AlikeCount = (w : List ℕ) (cs ds : List Call) → (plain_run w cs).bytes ≡ (plain_run w ds).bytes → plain_run w cs ≡ plain_run w ds

-- in state 0 a piece without the code's first byte is taken whole: each byte leads to 0 again at a cost of 1, and nothing is reported
unfoldable pub BytesPassed : Type 0
BytesPassed =
    (w piece : List ℕ) (k : ℕ) (x : Watch) → 1 ≤ length w → x.state ≡ 0 → Every (λ c. byte w 0 ≢ c) piece →
    let n = length piece in
    feed w piece (suc k) x ≡ fed (record { state = 0; taken = x.taken + n; hits = x.hits; compares = x.compares + n }) n []

-- THE SECOND DEMAND: the places that the calls write are those that the plain machine finds
unfoldable pub PlacesTold : Type 0
PlacesTold = (w : List ℕ) (cs : List Call) → (plain_run w cs).told ≡ (machine_run w cs).found

-- those are found byte by byte, each where a byte has come: how the list comes about. That these are the places is PlacesStand
unfoldable pub PlacesRight : Type 0
PlacesRight = (w : List ℕ) (cs : List Call) → (machine_run w cs).found ≡ places w (machine_run w cs).text

-- they rise, and i is one of them exactly when the bytes of the text from i on are the code
unfoldable pub PlacesStand : Type 0
PlacesStand =
    (w : List ℕ) (cs : List Call) → 1 ≤ length w →
    Rising (machine_run w cs).found
    × ((i : ℕ) → (member i (machine_run w cs).found ≡ true) ↔ (take (length w) (drop i (machine_run w cs).text) ≡ w))

-- an ending has its refusal's number; list full: the list is full and bytes of the piece are left; piece done: all its bytes were taken
unfoldable pub EndingsTold : Type 0
EndingsTold =
    (buffer : List ℕ) (x : Watch) (l : Lent) →
    let r = (feed_call buffer x l).answer in
    (ending_refusal r.ending ≡ feed_refusal buffer x (length l.piece) (length l.list))
    × (ending_full r.ending ≡ 1 → (r.written ≡ length l.list) × (r.taken < length l.piece))
    × (ending_refusal r.ending ≡ 0 → ending_full r.ending ≡ 0 → r.taken ≡ length l.piece)

-- number 4 comes up exactly where the buffer does not begin with the sheet of an accepted code; of the sheets of codes of 1 to 4,000 bytes, exactly for
-- those of codes with a control byte, the one exception
unfoldable pub SheetsTold : Type 0
SheetsTold =
    (x : Watch) (l : Lent) →
    ((buffer : List ℕ) →
    (ending_refusal (feed_call buffer x l).answer.ending ≡ 4) ↔ ((w rest : List ℕ) → accepted w ≡ true → buffer ≢ sheet w ++ rest))
    × ((w rest : List ℕ) → 1 ≤ length w → length w ≤ 4000 →
    (ending_refusal (feed_call (sheet w ++ rest) x l).answer.ending ≡ 4) ↔ (has_control w ≡ true))

-- bytes behind the sheet are not looked at, whatever the watch
unfoldable pub BehindUnread : Type 0
BehindUnread =
    (w rest other : List ℕ) (x : Watch) (l : Lent) → accepted w ≡ true →
    feed_call (sheet w ++ rest) x l ≡ feed_call (sheet w ++ other) x l

-- feeding goes on: a call that is not refused takes at least one byte of a piece that is not empty; an empty piece changes nothing and is done
unfoldable pub FeedingGoesOn : Type 0
FeedingGoesOn =
    (buffer : List ℕ) (x : Watch) (l : Lent) → feed_refusal buffer x (length l.piece) (length l.list) ≡ 0 →
    let e = feed_call buffer x l in
    (1 ≤ length l.piece → 1 ≤ e.answer.taken)
    × (l.piece ≡ [] → (e.answer ≡ record { watch = x; taken = 0; written = 0; ending = PieceDone }) × (e.left ≡ l))

-- A CALLER'S OWN CALLS are a run: it begins with an opening and nothing taken, and a call of `feed` that gets the last watch makes it one longer
unfoldable pub RunsGrow : Type 0
RunsGrow =
    (part : FeedCall → List ℕ) (buffer : List ℕ) →
    (feed_run part buffer [] ≡ record { after = opened; bytes = []; told = [] })
    × ((ls : List Lent) (l : Lent) (r : Answer Watch) (a : Lent) →
    let q = feed_run part buffer ls in
    FeedSays buffer q.after l r a →
    feed_run part buffer (ls ++ (l ∷ []))
    ≡ record { after = r.watch; bytes = q.bytes ++ take r.taken l.piece; told = q.told ++ part (record { answer = r; left = a }) })

-- THE ENTRY POINTS. What the answers of `feed` come to over a run, whatever its calls are lent: the third demand, and the second
pub record RunCounted (w : List ℕ) (cs : List Call) (r : Outcome Watch ℕ) (refusals : List ℕ) : Type 0 where
  pub refused : refusals ≡ machine_refusals w cs machine_start
  pub counted : Counted w r.after (machine_run w cs)
  pub watch : r.after ≡ watch_of w r.bytes
  pub text : r.bytes ≡ (machine_run w cs).text
  pub places : r.told ≡ (machine_run w cs).found
  pub rise : Rising r.told
  pub stand : (i : ℕ) → (member i r.told ≡ true) ↔ (take (length w) (drop i r.bytes) ≡ w)

abbrev pub EntriesCounted : (w buffer : List ℕ) → List Lent → Type 0
EntriesCounted w bs ls = RunCounted w (map plain ls) (feed_run told_places bs ls) (feed_run told_refusal bs ls).told

-- on a buffer that begins with the sheet of an accepted code
unfoldable pub EntriesCount : Type 0
EntriesCount = (w rest : List ℕ) (ls : List Lent) → accepted w ≡ true → EntriesCounted w (sheet w ++ rest) ls

-- so from preparing on: on the buffer that preparing left, if it was not refused
unfoldable pub PreparedCount : Type 0
PreparedCount =
    (w buffer : List ℕ) (ls : List Lent) → prepare_refusal w (length buffer) ≡ 0 → EntriesCounted w (prepare_buffer w buffer) ls

-- two runs alike in the code and the bytes taken end alike
unfoldable pub EntriesAlike : Type 0
EntriesAlike =
    (w rest other : List ℕ) (ls ks : List Lent) → accepted w ≡ true →
    let r = feed_run told_places (sheet w ++ rest) ls in
    let q = feed_run told_places (sheet w ++ other) ks in
    r.bytes ≡ q.bytes → r ≡ q
