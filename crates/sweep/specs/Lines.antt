-- THE LINES OF THE HEAD, one by one, and what is kept of their codes. Assumes nothing: these are definitions.
use Rattle.std.specs.Prelude.{◌≡◌, true, false, List, [], ◌∷◌, ◌++◌, map, ◌≢◌, ℕ, suc, ◌≤◌, min, Result, length, take}
use Rattle.words.specs.Words.{member}
use Rattle.codes.specs.Codes.{longest_code}
use Rattle.forms.specs.declared.Line.{Line}
use Rattle.forms.specs.declared.Line.TheVariants.{Opening, Code, Closed, Done, Wrong}
use Rattle.forms.specs.Line.{line_feed, pairs}
use Rattle.boards.specs.Board.{bytes_of, most_codes, most_bytes, some_above}
use Rattle.streams.specs.declared.NotComplete.{NotComplete}
use Rattle.streams.specs.Receipts.{Came, Moved, MayFollow}
use Rattle.streams.specs.Streams.{DoneOrTold, SomeCame}
use Rattle.sweep.specs.declared.head.Next.{Next}
use Rattle.sweep.specs.declared.head.Next.TheVariants.{Coded, Empty, Other}
use Rattle.sweep.specs.declared.head.Codes.{Codes}
use Rattle.sweep.specs.Looking.{OnBoard}
use Rattle.sweep.specs.Head.{code_line, NoHead, head_refusal}

-- what a line is by how far it was read
abbrev pub next_of : Line → Next
next_of (Opening n) = Other
next_of (Code i) = Other
next_of (Closed n) = Other
next_of (Done n) = Coded n
next_of Wrong = Other

-- A CODE IN A BUFFER, which has room for one byte more than the longest code: its first n bytes stand there, all of them if it is not too long
pub record InBuffer (code : List ℕ) (n : ℕ) (buffer : List ℕ) : Type 0 where
  pub room : length buffer ≡ suc longest_code
  pub size : n ≡ min (length code) (suc longest_code)
  pub whole : length code ≤ longest_code → take n buffer ≡ code

-- A LINE that came: that of a code
pub record CodeCame (at n : ℕ) (buffer : List ℕ) (after : ℕ) : Type 0 where
  pub code : List ℕ
  pub came : Moved Came at after (code_line code)
  pub paired : pairs 0 code ≡ true
  pub kept : InBuffer code n buffer

-- none of its form: an input that begins so has no head, whatever follows what came
pub record OtherCame (at after : ℕ) : Type 0 where
  pub bytes : List ℕ
  pub came : Moved Came at after bytes
  pub wrong : (rest : List ℕ) → MayFollow after rest → NoHead (bytes ++ rest)

-- what `read_next` promises
abbrev pub LineCame : (at : ℕ) → Next → (buffer : List ℕ) → (after : ℕ) → Type 0
LineCame at (Coded n) b after = CodeCame at n b after
LineCame at Empty b after = Moved Came at after (line_feed ∷ [])
LineCame at Other b after = OtherCame at after

abbrev pub NextRead : (at : ℕ) → Result Next NotComplete → (buffer : List ℕ) → (after : ℕ) → Type 0
NextRead at r b after = DoneOrTold r (λ next. LineCame at next b after) (SomeCame at after)

-- and `read_code`, where the line's first byte came before
abbrev pub CodeRead : (first at : ℕ) → Result Next NotComplete → (buffer : List ℕ) → (after : ℕ) → Type 0
CodeRead c at r b after = (before : ℕ) → Moved Came before at (c ∷ []) → c ≢ line_feed → NextRead before r b after

-- NUMBERS IN A LIST with so much room: its first n are these, as many as have room
pub record InList (room : ℕ) (xs : List ℕ) (n : ℕ) (list : List ℕ) : Type 0 where
  pub long : length list ≡ room
  pub size : n ≡ min room (length xs)
  pub front : take n list ≡ take room xs

-- THE CODES so far: their lengths and bytes are kept, with room for one more than a board may have, unless one is too long
pub record CodesKept (ws : List (List ℕ)) (c : Codes) : Type 0 where
  pub empties : c.empty ≡ member 0 (map length ws)
  pub longs : c.long ≡ some_above longest_code (map length ws)
  pub lengths_are : c.long ≡ false → InList (suc most_codes) (map length ws) c.count c.lengths
  pub bytes_are : c.long ≡ false → c.bytes ≡ take (suc most_bytes) (bytes_of ws)

-- A CODE'S BYTES, as many as tell whether it is too long
pub record FrontOf (code front : List ℕ) : Type 0 where
  pub size : length front ≡ min (length code) (suc longest_code)
  pub whole : length code ≤ longest_code → front ≡ code

-- what `add_code` promises: one code more
abbrev pub Adds : (front : List ℕ) → Codes → Codes → Type 0
Adds f c d = (ws : List (List ℕ)) (code : List ℕ) → FrontOf code f → CodesKept ws c → CodesKept (ws ++ (code ∷ [])) d

-- THEIR BOARD: refused with this number, or else prepared
pub record Boarded (ws : List (List ℕ)) (refusal : ℕ) (buffer : List ℕ) : Type 0 where
  pub refused : refusal ≡ head_refusal ws
  pub prepared : refusal ≡ 0 → OnBoard ws buffer

-- what `prepare_codes` promises
abbrev pub Prepares : Codes → (refusal : ℕ) → (buffer : List ℕ) → Type 0
Prepares c n b = (ws : List (List ℕ)) → CodesKept ws c → Boarded ws n b
