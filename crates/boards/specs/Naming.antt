-- What reading the codes that a buffer names needs and promises inside the crate. Assumes nothing: these are definitions.
use Rattle.std.specs.Prelude.{◌≡◌, List, ℕ, ◌+◌, ◌*◌, ◌≤◌, length, get_or, take, drop}
use Rattle.automaton.specs.Costs.{sum}
use Rattle.boards.specs.declared.given.Codes.{Codes}
use Rattle.boards.specs.Board.{list_refusal, pairs_of, named_lengths, named_bytes}

-- the first k numbers of a list are the lengths that follow a buffer's first byte
pub record LengthsRead (board : List ℕ) (k : ℕ) (b : List ℕ) : Type 0 where
  pub front : take k b ≡ pairs_of k (drop 1 board)

-- A BUFFER THAT NAMES CODES that a board can have: as many, of the first lengths of a list, and their bytes end there
pub record Names (board lengths : List ℕ) (count end : ℕ) : Type 0 where
  pub few : count ≤ 64
  pub count_is : count ≡ get_or board 0 0
  pub end_is : end ≡ 1 + 2 * count + sum (named_lengths board)
  pub within : end ≤ length board
  pub lengths_are : take count lengths ≡ named_lengths board
  pub listed : list_refusal (named_lengths board) (named_bytes board) ≡ 0

-- and these are the codes
pub record OnNamed (board : List ℕ) (k : Codes) : Type 0 where
  pub lengths_are : k.lengths.now ≡ named_lengths board
  pub bytes_are : k.bytes.now ≡ named_bytes board
