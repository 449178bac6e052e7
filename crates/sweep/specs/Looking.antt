-- A LOOK AT A FILE: its bytes as they come, fed to a board, and the hits said. Assumes nothing: these are definitions.
use Rattle.std.specs.Prelude.{◌≡◌, Bool, true, false, cond, List, [], ◌++◌, ◌≢◌, ℕ, suc, ◌≤◌, Option, Some, None, Result, Ok, length, take, drop}
use Rattle.runs.specs.Calls.{run}
use Rattle.starts.specs.Hits.{Hit}
use Rattle.boards.specs.declared.Watch.{Watch}
use Rattle.boards.specs.Board.{most_codes, accepted, board}
use Rattle.boards.specs.Entry.{Lent, room, feed_refusal, feeding}
use Rattle.sweep.specs.declared.look.End.{End}
use Rattle.sweep.specs.declared.look.End.TheVariants.{Whole, Unread}
use Rattle.sweep.specs.declared.look.Reader.{Reader}
use Rattle.sweep.specs.declared.says.Printer.{Printer}
use Rattle.sweep.specs.Forms.{hit_forms}
use Rattle.sweep.specs.Files.{Asked, Opened, Held, Over, Missed, longest_path}
use Rattle.sweep.specs.Disk.{openings, came_of}
use Rattle.sweep.specs.Saying.{Says}
use Rattle.streams.specs.declared.NotComplete.{NotComplete}
use Rattle.streams.specs.Receipts.{Moved}

-- a buffer begins with the board of accepted codes
pub record OnBoard (ws : List (List ℕ)) (buffer : List ℕ) : Type 0 where
  pub good : accepted ws ≡ true
  pub rest : List ℕ
  pub is : buffer ≡ board ws ++ rest

-- CALLS OF FEEDING that lead from watch x to watch y, with the bytes that they take and the hits that they tell
pub record Goes (buffer : List ℕ) (x : Watch) (bytes : List ℕ) (told : List Hit) (y : Watch) : Type 0 where
  pub calls : List Lent
  pub is : run (feeding buffer) calls x ≡ record { after = y; bytes = bytes; told = told }

-- a call with these bytes is refused, though its lists have room for a hit of each code
pub record RefusedPart (buffer : List ℕ) (x : Watch) (part : List ℕ) : Type 0 where
  pub call : Lent
  pub piece : call.piece ≡ part
  pub spots : most_codes ≤ room call
  pub refused : feed_refusal buffer x call ≢ 0

-- A PART of a piece: one call, and its hits are said; it takes something, if there is something; or it is refused, or a write failed
pub record PartTaken
    (buffer : List ℕ) (file : ℕ) (x : Watch) (part : List ℕ) (p : Printer) (r : Result (Option ℕ) NotComplete) (y : Watch) (q : Printer) : Type 0 where
  pub taken : ℕ
  pub told : List Hit
  pub within : taken ≤ length part
  pub goes : Goes buffer x (take taken part) told y
  pub says : Says p (hit_forms file told) r q
  pub some : (k : ℕ) → r ≡ Ok (Some k) → (k ≡ taken) × (1 ≤ length part → 1 ≤ taken)
  pub refused : r ≡ Ok None → RefusedPart buffer y (drop taken part)

-- A PIECE, part by part: all of it is taken, or a part is refused, or a write failed
pub record PieceTaken
    (buffer : List ℕ) (file : ℕ) (x : Watch) (piece : List ℕ) (p : Printer) (r : Result Bool NotComplete) (y : Watch) (q : Printer) : Type 0 where
  pub bytes : List ℕ
  pub left : List ℕ
  pub told : List Hit
  pub whole : bytes ++ left ≡ piece
  pub goes : Goes buffer x bytes told y
  pub says : Says p (hit_forms file told) r q
  pub all : r ≡ Ok true → left ≡ []
  pub refused : r ≡ Ok false → RefusedPart buffer y left

-- a piece has so many bytes at most
abbrev pub piece_most : ℕ
piece_most = 262144

-- WHY a file is unread: it could not be opened or a read failed, and all that came was taken; or the rest of a piece is refused
pub record WhyUnread (k : ℕ) (buffer : List ℕ) (x : Watch) (left : List ℕ) : Type 0 where
  pub missed : Bool
  pub why : cond missed (Missed k × (left ≡ [])) (RefusedPart buffer x left × (length left ≤ piece_most))

-- THE OPEN FILE from watch x on, to its end or to where it could not be read on: its bytes, taken, and then those that came and were not
pub record Looked
    (buffer : List ℕ) (file : ℕ) (x : Watch) (s : Reader) (r : Result End NotComplete) (y : Watch) (t : Reader) : Type 0 where
  pub bytes : List ℕ
  pub left : List ℕ
  pub told : List Hit
  pub same : openings t.disk ≡ openings s.disk
  pub goes : Goes buffer x bytes told y
  pub came : Moved (Held (openings s.disk)) (came_of s.disk) (came_of t.disk) (bytes ++ left)
  pub says : Says s.printer (hit_forms file told) r t.printer
  pub whole : r ≡ Ok Whole → (left ≡ []) × Over (openings s.disk) (came_of t.disk)
  pub unread : r ≡ Ok Unread → WhyUnread (openings s.disk) buffer y left

-- THE FILE OF A PATH, from its opening on
pub record PathLooked
    (buffer : List ℕ) (file : ℕ) (x : Watch) (path : List ℕ) (s : Reader) (r : Result End NotComplete) (y : Watch) (t : Reader) : Type 0 where
  pub bytes : List ℕ
  pub left : List ℕ
  pub told : List Hit
  pub next : openings t.disk ≡ suc (openings s.disk)
  pub asked : Asked (openings t.disk) path
  pub goes : Goes buffer x bytes told y
  pub came : Moved (Held (openings t.disk)) 0 (came_of t.disk) (bytes ++ left)
  pub says : Says s.printer (hit_forms file told) r t.printer
  pub whole :
      r ≡ Ok Whole → Opened (openings t.disk) path × (length path ≤ longest_path) × (left ≡ []) × Over (openings t.disk) (came_of t.disk)
  pub unread : r ≡ Ok Unread → WhyUnread (openings t.disk) buffer y left
