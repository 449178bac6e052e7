-- What is written of a board, part by part, and what the functions that write it need and promise. Assumes nothing: these are definitions.
use Rattle.std.specs.Prelude.{◌≡◌, false, List, [], ◌∷◌, ◌++◌, ℕ, zero, suc, ◌+◌, ◌*◌, ◌≤◌, ◌<◌, length, get_or, take, drop}
use Rattle.words.specs.Words.{Every, in_front}
use Rattle.sheets.specs.Sheet as sheet
use Rattle.starts.specs.Starts.{twice}
use Rattle.boards.specs.declared.links.Links.{Links as LinkLists}
use Rattle.boards.specs.Board.{board}
use Rattle.boards.specs.Tables.{AllLinked}

-- a list b that was a, with xs written from place k on
pub record Spliced (k : ℕ) (xs a b : List ℕ) : Type 0 where
  pub front : take (k + length xs) b ≡ take k a ++ xs
  pub rest : drop (k + length xs) b ≡ drop (k + length xs) a
  pub long : length b ≡ length a

-- numbers that two bytes can hold
abbrev pub Small : List ℕ → Type 0
Small vs = Every (λ v. v < 65536) vs

pub record OnLengths (ls a : List ℕ) (at : ℕ) : Type 0 where
  pub small : Small ls
  pub room : at + 2 * length ls ≤ length a

-- the rows of the states below count, as the lists of links have them
unfoldable pub rows_in : (links nearest : List ℕ) → (count : ℕ) → List ℕ
rows_in ls ns zero = []
rows_in ls ns (suc g) = rows_in ls ns g ++ (sheet.number 2 (get_or ls (2 * g) 0) ++ (get_or ns g 0 ∷ []))

-- THE WHOLE BOARD of codes of which none stands there twice
pub record OnBoard (ws : List (List ℕ)) (k : LinkLists) (a : List ℕ) : Type 0 where
  pub once : twice ws ≡ false
  pub linked : AllLinked ws k
  pub room : 8196 ≤ length a

pub record BoardMade (ws : List (List ℕ)) (size : ℕ) (a b : List ℕ) : Type 0 where
  pub size_is : size ≡ length (board ws)
  pub few : size ≤ 8196
  pub front : b ≡ in_front (board ws) a
