-- THE HEAD of the input: a line for each code, and an empty line. Assumes nothing: these are definitions.
use Rattle.std.specs.Prelude.{◌≡◌, true, List, [], ◌∷◌, ◌++◌, map, ◌≢◌, ℕ, Result, length}
use Rattle.runs.specs.declared.Refusal.{Refusal}
use Rattle.runs.specs.Refusals.{refusal_of}
use Rattle.forms.specs.Line.{opening, closing_bracket, line_feed, pairs}
use Rattle.boards.specs.Board.{bytes_of, board_room}
use Rattle.boards.specs.Entry.{prepare_refusal}
use Rattle.streams.specs.Receipts.{Came, Moved, MayFollow}
use Rattle.streams.specs.Streams.{DoneOrTold, SomeCame}
use Rattle.streams.specs.declared.NotComplete.{NotComplete}
use Rattle.sweep.specs.Looking.{OnBoard}

-- a code's line, those of several, and the empty line behind them
unfoldable pub code_line : (code : List ℕ) → List ℕ
code_line w = opening ++ (w ++ closing_bracket ∷ line_feed ∷ [])

unfoldable pub code_lines : (ws : List (List ℕ)) → List ℕ
code_lines [] = []
code_lines (w ∷ ws) = code_line w ++ code_lines ws

unfoldable pub head_form : (ws : List (List ℕ)) → List ℕ
head_form ws = code_lines ws ++ line_feed ∷ []

-- the brackets of each code pair, so each line is of its form
unfoldable pub AllPaired : (ws : List (List ℕ)) → Type 0
AllPaired [] = Unit {0}
AllPaired (w ∷ ws) = (pairs 0 w ≡ true) × AllPaired ws

-- an input that has no head
unfoldable pub NoHead : (input : List ℕ) → Type 0
NoHead input = (ws : List (List ℕ)) (list : List ℕ) → AllPaired ws → input ≡ head_form ws ++ list → ⊥

-- what refuses the codes: preparing their board
abbrev pub head_refusal : (ws : List (List ℕ)) → ℕ
head_refusal ws = prepare_refusal (map length ws) (bytes_of ws) board_room

-- THE HEAD as it came, with codes that preparing refuses with this number, or else their board is prepared
pub record RightHead (bytes : List ℕ) (refusal : ℕ) (buffer : List ℕ) : Type 0 where
  pub codes : List (List ℕ)
  pub form : bytes ≡ head_form codes
  pub paired : AllPaired codes
  pub refused : refusal ≡ head_refusal codes
  pub prepared : refusal ≡ 0 → OnBoard codes buffer

-- refused with 8 exactly where the input has no head, whatever follows what came
pub record Headed (at : ℕ) (refusal : ℕ) (buffer : List ℕ) (after : ℕ) : Type 0 where
  pub bytes : List ℕ
  pub came : Moved Came at after bytes
  pub wrong : refusal ≡ 8 → (rest : List ℕ) → MayFollow after rest → NoHead (bytes ++ rest)
  pub right : refusal ≢ 8 → RightHead bytes refusal buffer

-- what `read_head` promises
abbrev pub HeadRead : (at : ℕ) → Result (Result ℕ Refusal) NotComplete → (buffer : List ℕ) → (after : ℕ) → Type 0
HeadRead at r b after = DoneOrTold r (λ head. Headed at (refusal_of head) b after) (SomeCame at after)
