-- What listing the codes of two boards needs and promises inside the crate. Assumes nothing: these are definitions.
use Rattle.std.specs.Prelude.{◌≡◌, List, ◌++◌, map, ℕ, ◌+◌, ◌≤◌, length, take}
use Rattle.codes.specs.Refusals.{Answer}
use Rattle.starts.specs.Starts.{total}
use Rattle.boards.specs.declared.joining.List.{List as CodeList}
use Rattle.boards.specs.Board.{bytes_of}
use Rattle.boards.specs.Entry.{PrepareSays}
use Rattle.boards.specs.Join.{lacking}

-- A LIST OF CODES: their lengths in front of one list, their bytes in front of another
pub record Listed (us : List (List ℕ)) (l : CodeList) : Type 0 where
  pub count_is : l.count ≡ length us
  pub end_is : l.end ≡ total us
  pub lengths_are : take l.count l.lengths ≡ map length us
  pub bytes_are : take l.end l.bytes ≡ bytes_of us

-- there is room for j more codes of n bytes together
pub record RoomFor (j n : ℕ) (l : CodeList) : Type 0 where
  pub lengths_room : l.count + j ≤ 128
  pub bytes_room : l.end + n ≤ 4000

-- those of vs that ws lacks are listed behind the ones that were
pub record Lists (ws vs : List (List ℕ)) (l m : CodeList) : Type 0 where
  pub lists : (us : List (List ℕ)) → Listed us l → Listed (us ++ lacking ws vs) m
  pub count_few : m.count ≤ l.count + length vs
  pub end_few : m.end ≤ l.end + total vs

-- THE CODES us ARE PREPARED
abbrev pub Prepares : (us : List (List ℕ)) → Answer → (before after : List ℕ) → Type 0
Prepares us r a b = PrepareSays (map length us) (bytes_of us) r a b
