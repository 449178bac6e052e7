-- TWO BOARDS JOINED: what the entry point `join` answers and leaves behind. Assumes nothing: these are definitions.
use Rattle.std.specs.Prelude.{◌≡◌, ◌&&◌, ◌||◌, not, cond, List, [], ◌∷◌, ◌++◌, ℕ, ltb, eqb, length}
use Rattle.words.specs.Words.{in_front}
use Rattle.codes.specs.Refusals.{refused_if, first_refusal, answered, Answer}
use Rattle.starts.specs.Starts.{total, is_code}
use Rattle.boards.specs.Board.{most_codes, most_bytes, board_room, board, named, begins}

-- the codes of vs that ws lacks, in their order
unfoldable pub lacking : (ws vs : List (List ℕ)) → List (List ℕ)
lacking ws [] = []
lacking ws (v ∷ vs) = cond (is_code ws v) (lacking ws vs) (v ∷ lacking ws vs)

-- THE CODES JOINED: those of ws in their order, then those of vs that ws lacks
unfoldable pub joined : (ws vs : List (List ℕ)) → List (List ℕ)
joined ws vs = ws ++ lacking ws vs

-- those that two buffers name
unfoldable pub joined_named : (first second : List ℕ) → List (List ℕ)
joined_named a b = joined (named a) (named b)

-- REFUSALS, from the two buffers and the length of the third: 4 if one of the two does not begin with a board, then 10 for too many codes or bytes, then 3
unfoldable pub join_refusal : (first second : List ℕ) → (room : ℕ) → ℕ
join_refusal a b k =
    let ws = joined_named a b in
    first_refusal (
    refused_if 4 (not (begins a && begins b))
    ∷ refused_if 10 (ltb most_codes (length ws) || ltb most_bytes (total ws))
    ∷ refused_if 3 (ltb k board_room)
    ∷ [])

-- the joined board's length, or the refusal
unfoldable pub join_answer : (first second : List ℕ) → (room : ℕ) → Answer
join_answer a b k = answered (join_refusal a b k) (length (board (joined_named a b)))

-- the third buffer afterwards: the joined board in front and no byte behind it changed; as it was if refused
unfoldable pub join_buffer : (first second third : List ℕ) → List ℕ
join_buffer a b c = cond (eqb (join_refusal a b (length c)) 0) (in_front (board (joined_named a b)) c) c

-- what `join` promises, its contract
pub record JoinSays (first second : List ℕ) (answer : Answer) (before after : List ℕ) : Type 0 where
  pub answers : answer ≡ join_answer first second (length before)
  pub leaves : after ≡ join_buffer first second before
