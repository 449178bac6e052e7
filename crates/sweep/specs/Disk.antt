-- THE OPEN FILE as it is kept, and two numbers, at which only src/files.rt looks; and what opening and reading it come to, by receipts. Assumes nothing: these
-- are definitions.
use Rattle.std.specs.Prelude.{◌≡◌, Bool, true, false, List, ℕ, suc, ◌≤◌, Option, Some, None, length, take}
use Rattle.std.specs.declared.fs.File.{File}
use Rattle.streams.specs.Receipts.{Moved}
use Rattle.sweep.specs.declared.files.Disk.{Disk}
use Rattle.sweep.specs.Files.{Asked, Opened, Held, Over, Missed, longest_path}

-- the file, or none; how many openings there were; and how many bytes of the file that was opened last have come
abbrev pub kept_of : (disk : Disk) → Option File
kept_of d = d.file

abbrev pub openings : (disk : Disk) → ℕ
openings d = d.openings

abbrev pub came_of : (disk : Disk) → ℕ
came_of d = d.came

-- none
abbrev pub no_descriptor : Option File
no_descriptor = None

-- IT IS OPEN: a file is kept, and so its descriptor is the one that the last opening answered
pub record IsOpen (disk : Disk) : Type 0 where
  pub file : File
  pub kept : kept_of disk ≡ Some file

-- OPENING: one more opening, of this path, and nothing of the file has come
pub record FileOpened (path : List ℕ) (disk : Disk) (opened : Bool) (after : Disk) : Type 0 where
  pub next : openings after ≡ suc (openings disk)
  pub none : came_of after ≡ 0
  pub asked : Asked (openings after) path
  pub opens : opened ≡ true → Opened (openings after) path × (length path ≤ longest_path)
  pub is_open : opened ≡ true → IsOpen after
  pub fails : opened ≡ false → Missed (openings after)
  pub shut : opened ≡ false → kept_of after ≡ no_descriptor

-- READING: k bytes came into a buffer, none only where the file ended, if there is room for one
pub record FileBrought (disk : Disk) (k : ℕ) (after : Disk) (buffer : List ℕ) : Type 0 where
  pub within : k ≤ length buffer
  pub came : Moved (Held (openings disk)) (came_of disk) (came_of after) (take k buffer)
  pub ends : k ≡ 0 → 1 ≤ length buffer → Over (openings disk) (came_of after)

-- or the read failed, and none is counted
abbrev pub FileRead : (disk : Disk) → Option ℕ → (after : Disk) → (buffer : List ℕ) → Type 0
FileRead d (Some k) e b = (openings e ≡ openings d) × FileBrought d k e b
FileRead d None e b = (openings e ≡ openings d) × (came_of e ≡ came_of d) × Missed (openings d)
