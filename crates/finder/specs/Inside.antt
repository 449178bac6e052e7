-- What the private functions of this crate need and promise. Assumes nothing: these are definitions.
use Rattle.std.specs.Prelude.{◌≡◌, true, Option, Some, None, Ok, List, [], ◌∷◌, ◌++◌, ◌≢◌, ℕ, zero, suc, ◌+◌, ◌*◌, ◌-◌, ◌^◌, ◌≤◌, ◌<◌, min, length, get_or, take, drop}
use Rattle.runs.specs.Reading.{longest_text, fed_more}
use Rattle.runs.specs.declared.Feeding.{Feeding}
use Rattle.runs.specs.Answers.{answer_of}
use Rattle.automaton.specs.declared.Arrow.{Arrow}
use Rattle.automaton.specs.declared.Arrow.TheVariants.{Back, Forward, Nothing}
use Rattle.automaton.specs.Arrows.{label, all_targets, arrows, step, try_forward, stepped}
use Rattle.codes.specs.Codes.{longest_code}
use Rattle.sheets.specs.Sheet.{named, begins}
use Rattle.finder.specs.declared.Watch.{Watch}
use Rattle.finder.specs.declared.Ahead.{Ahead}
use Rattle.finder.specs.declared.Led.{Led}
use Rattle.finder.specs.declared.piece.Turn.{Turn}
use Rattle.finder.specs.Feed.{completed, feed}
use Rattle.finder.specs.Entry.{Lent, fed_call}

-- SEARCHING from a number on: P holds of all that were passed
pub record Passed (P : ℕ → Type 0) (from at : ℕ) : Type 0 where
  pub on : from ≤ at
  pub all : (i : ℕ) → from ≤ i → i < at → P i

-- and the search reaches the first number of which Q holds, or the end
pub record Reaches (P Q : ℕ → Type 0) (from end at : ℕ) : Type 0 where
  pub passed : Passed P from at
  pub within : at ≤ end
  pub found : at < end → Q at

-- byte c stands at index i, or another
abbrev pub Here : (piece : List ℕ) → (c i : ℕ) → Type 0
Here cs c i = get_or cs i 0 ≡ c

abbrev pub Other : (piece : List ℕ) → (c i : ℕ) → Type 0
Other cs c i = get_or cs i 0 ≢ c

-- the first index from one on at which byte c stands, or the end; and the first at which another stands
abbrev pub Skipped : (piece : List ℕ) → (from c at : ℕ) → Type 0
Skipped cs from c at = Reaches (Other cs c) (Here cs c) from (length cs) at

abbrev pub Stayed : (piece : List ℕ) → (from c at : ℕ) → Type 0
Stayed cs from c at = Reaches (Here cs c) (Other cs c) from (length cs) at

-- THE SHEET of code w
pub record Coded (bs w : List ℕ) : Type 0 where
  pub on : begins bs ≡ true
  pub code_is : w ≡ named bs

-- target number l of the code's
abbrev pub target_of : (w : List ℕ) → (l : ℕ) → ℕ
target_of w l = get_or (all_targets w) l 0

-- of the targets from one number up to another, the first whose label is byte c
abbrev pub SoughtBy : (w : List ℕ) → (from to c : ℕ) → Option ℕ → Type 0
SoughtBy w from to c (Some l) = Passed (λ k. label w (target_of w k) ≢ c) from l × (l < to) × (label w (target_of w l) ≡ c)
SoughtBy w from to c None = Passed (λ k. label w (target_of w k) ≢ c) from to

-- the watch after n bytes that led to a state at a cost and completed so many places
abbrev pub further : Watch → (state n hits cost : ℕ) → Watch
further x q n h c = record { state = q; taken = x.taken + n; hits = x.hits + h; compares = x.compares + c }

-- feeding goes on behind the bytes from index i to index j as if begun there, after what they told: from watch x with so much room, from watch y with what
-- is left of it
pub record GoesOn (w piece : List ℕ) (i j room : ℕ) (told : List ℕ) (x y : Watch) : Type 0 where
  pub is : feed w (drop i piece) room x ≡ fed_more (j - i) told (feed w (drop j piece) (room - length told) y)

-- WHERE BYTES LEAD, the one invariant of the loops: those from index i to index j lead from state p to state q at a cost, and only the last of them may
-- complete a place. So feeding goes on behind them, whatever else the watch holds
pub record Leads (w piece : List ℕ) (p i q cost j : ℕ) : Type 0 where
  pub on : i ≤ j
  pub within : j ≤ length piece
  pub state : q ≤ length w
  pub reached : q ≤ p + (j - i)
  pub cheap : cost ≤ longest_code * (j - i)
  pub feeds :
      (x : Watch) → x.state ≡ p → (k : ℕ) → 1 ≤ k →
      let told = completed (length w) q (x.taken + (j - i)) in GoesOn w piece i j k told x (further x q (j - i) (length told) cost)

-- so some bytes have led from state p and index i
pub record LedFrom (w piece : List ℕ) (p i : ℕ) (s : Led) : Type 0 where
  pub later : i < s.at
  pub leads : Leads w piece p i s.state s.cost s.at

-- the same, or none was taken yet, from a state between 0 and m
pub record Begun (w piece : List ℕ) (p i : ℕ) (s : Led) : Type 0 where
  pub leads : Leads w piece p i s.state s.cost s.at
  pub still : s.at ≡ i → (s.state ≡ p) × (1 ≤ p) × (p < length w)

-- what has led to state p and index i leads on from there: by some bytes more where p is neither 0 nor m and one is left
pub record RanFrom (w piece : List ℕ) (p i : ℕ) (s : Led) : Type 0 where
  pub on : i ≤ s.at
  pub later : 1 ≤ p → p < length w → i < length piece → i < s.at
  pub leads : (o from cost : ℕ) → Leads w piece o from p cost i → Leads w piece o from s.state (cost + s.cost) s.at

-- a byte can be read at index i in state p
pub record Readable (w : List ℕ) (p : ℕ) (piece : List ℕ) (i : ℕ) : Type 0 where
  pub state : p ≤ length w
  pub inside : i < length piece
  pub text : length piece ≤ longest_text

-- the same, if a byte is left
pub record Running (w : List ℕ) (p : ℕ) (piece : List ℕ) (i : ℕ) : Type 0 where
  pub state : p ≤ length w
  pub within : i ≤ length piece
  pub text : length piece ≤ longest_text

-- FORWARD ARROWS were followed by n bytes, all that the piece or the code has where no other byte was looked at, and so many backward labels failed. With the
-- byte behind, if it was looked at, they lead to the state of its arrow
abbrev pub WentBy : (w piece : List ℕ) → (p i n failed : ℕ) → Arrow → Type 0
WentBy w piece p i n f (Back t) = Leads w piece p i t (f + n + 1) (i + n + 1)
WentBy w piece p i n f Forward = (n ≡ min (length piece - i) (length w - p)) × Leads w piece p i (p + n) (f + n) (i + n)
WentBy w piece p i n f Nothing = Leads w piece p i 0 (f + n + 1) (i + n + 1)

pub record Went (w piece : List ℕ) (p i : ℕ) (a : Ahead) : Type 0 where
  pub bytes : i + a.bytes ≤ length piece
  pub short : p + a.bytes ≤ longest_code
  pub few : a.failed ≤ longest_code
  pub by : WentBy w piece p i a.bytes a.failed a.arrow

-- STATE 1: bytes that lead to 1 again, each at a cost of 1, up to one that none of its backward labels is equal to, or the end
abbrev pub StayedOne : (w piece : List ℕ) → (from at : ℕ) → Type 0
StayedOne w cs from at =
    Reaches (λ i. stepped w 1 (get_or cs i 0) ≡ step 1 1 (Back 1)) (λ i. stepped w 1 (get_or cs i 0) ≡ try_forward (arrows w 1) w 1 (get_or cs i 0)) from
    (length cs) at

-- bytes have led to a state at one comparison for each, and those that failed besides
abbrev pub led_to : (state from at failed : ℕ) → Led
led_to q i j f = record { state = q; cost = j - i + f; at = j }

-- THE LIST OF PLACES, or what is left of it: it was ps, and now n places are in front
pub record Written (ps told : List ℕ) (n : ℕ) (qs : List ℕ) : Type 0 where
  pub count : n ≡ length told
  pub room : n ≤ length qs
  pub size : length qs ≡ length ps
  pub front : take n qs ≡ told
  pub tail : drop n qs ≡ drop n ps

-- what the last byte has completed can be written, and is; so many bytes of text were before the piece
pub record Placing (m before : ℕ) (s : Led) (ps : List ℕ) : Type 0 where
  pub room : 1 ≤ length ps
  pub reached : s.state ≤ before + s.at
  pub text : before + s.at ≤ longest_text

-- n numbers in a row
unfoldable pub in_a_row : (first n : ℕ) → List ℕ
in_a_row a zero = []
in_a_row a (suc n) = in_a_row a n ++ ((a + n) ∷ [])

-- a place for each of the next bytes, behind the last place, can be written, and is for as many of them as are byte c
pub record Repeating (piece : List ℕ) (from count : ℕ) (ps : List ℕ) (last : ℕ) : Type 0 where
  pub bytes : from + count ≤ length piece
  pub room : count ≤ length ps
  pub text : length piece ≤ longest_text
  pub below : last + count ≤ longest_text

pub record Repeated (piece : List ℕ) (from count c last : ℕ) (ps : List ℕ) (n : ℕ) (qs : List ℕ) : Type 0 where
  pub stopped : Reaches (Here piece c) (Other piece c) from (from + count) (from + n)
  pub written : Written ps (in_a_row (last + 1) n) n qs

-- THE LOOP OVER A PIECE, which has so many bytes of text before it. A turn can start in state p at index i, with room for a place
pub record Turning (w : List ℕ) (before p : ℕ) (piece : List ℕ) (i : ℕ) (ps : List ℕ) : Type 0 where
  pub state : p ≤ length w
  pub reached : p ≤ before + i
  pub inside : i < length piece
  pub text : before + length piece ≤ longest_text
  pub room : 1 ≤ length ps

-- it has taken bytes and written the places that they completed, and feeding goes on behind them
pub record Turned (w piece : List ℕ) (before p i : ℕ) (ps : List ℕ) (t : Turn) (qs : List ℕ) : Type 0 where
  pub told : List ℕ
  pub written : Written ps told t.written qs
  pub few : length told ≤ t.led.at - i
  pub later : i < t.led.at
  pub within : t.led.at ≤ length piece
  pub state : t.led.state ≤ length w
  pub reached : t.led.state ≤ before + t.led.at
  pub cheap : t.led.cost ≤ longest_code * (t.led.at - i)
  pub feeds :
      (x : Watch) → x.state ≡ p → x.taken ≡ before + i →
      GoesOn w piece i t.led.at (length ps) told x (further x t.led.state (t.led.at - i) (length told) t.led.cost)

-- a watch with which n bytes more can be taken, for a code of m bytes: no byte costs more than the longest code has bytes
pub record Ready (m : ℕ) (x : Watch) (n : ℕ) : Type 0 where
  pub state : x.state ≤ m
  pub reached : x.state ≤ x.taken
  pub hits : x.hits ≤ x.taken
  pub text : x.taken + n ≤ longest_text
  pub cheap : x.compares + longest_code * n < 2 ^ 63

-- a piece was taken: the call is one that is not refused
pub record Took (w : List ℕ) (x : Watch) (before : Lent) (answer : Feeding Watch ℕ) (after : Lent) : Type 0 where
  pub is : record { answer = answer_of x (Ok answer); left = after } ≡ fed_call (feed w before.piece (length before.list) x) before
