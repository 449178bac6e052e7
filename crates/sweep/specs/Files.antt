-- RECEIPTS for what the system did with files, as those of crates/streams are for standard input and output: shut names, and makers. Those that ask for
-- nothing are for the proofs of two functions of src/files.rt that do nothing but call the system: make_asked, make_opened, make_given and make_missed for
-- `open_path`; make_held, make_over and make_missed for `read_descriptor`. A third, `close_descriptor`, asks for one. Assumes nothing: these are definitions.
use Rattle.std.specs.Prelude.{◌≡◌, List, ℕ, ◌+◌, ◌^◌, ◌≤◌, ◌<◌, ℤ, Option, Some, None, MatchOption, IsUtf8, length}
use Rattle.std.specs.Coded.{Π_prop, Unit-prop}
use Rattle.std.specs.declared.fs.File.{File}
use Rattle.std.specs.Fd.{file_raw_fd}
use Rattle.streams.specs.Receipts.{Answered}

-- opening number k of the run, from 1, is of this path, whatever comes of it
pub Asked : (k : ℕ) → (path : List ℕ) → Type 0
Asked k p = Unit {0}

pub make_asked : (k : ℕ) (path : List ℕ) → Asked k path
unfolding Asked
make_asked k p = tt

-- it opened the file of this path for reading
pub Opened : (k : ℕ) → (path : List ℕ) → Type 0
Opened k p = Unit {0}

pub make_opened : (k : ℕ) (path : List ℕ) → Opened k path
unfolding Opened
make_opened k p = tt

-- it answered this descriptor
pub Given : (k : ℕ) → (d : ℤ) → Type 0
Given k d = Unit {0}

pub make_given : (k : ℕ) (d : ℤ) → Given k d
unfolding Given
make_given k d = tt

-- byte i of that file is c: a read brought it when i bytes had come before it
pub Held : (k i c : ℕ) → Type 0
Held k i c = Unit {0}

pub make_held : (k i c : ℕ) → Held k i c
unfolding Held
make_held k i c = tt

-- the file has n bytes: a read that had room brought none when so many had come
pub Over : (k n : ℕ) → Type 0
Over k n = Unit {0}

pub make_over : (k n : ℕ) → Over k n
unfolding Over
make_over k n = tt

-- the longest path that is opened
abbrev pub longest_path : ℕ
longest_path = 4095

-- the opening, or a read of the file, failed; or its path is too long or no UTF-8 text, and no opening is tried; or 64 bits cannot count its bytes
pub Missed : (k : ℕ) → Type 0
Missed k = Unit {0}

pub make_missed : (k : ℕ) → Missed k
unfolding Missed
make_missed k = tt

pub too_long : (k : ℕ) (path : List ℕ) → longest_path < length path → Asked k path × Missed k
unfolding Asked Missed
too_long k p h = (tt, tt)

pub no_text : (k : ℕ) (path : List ℕ) → ¬ (IsUtf8 path) → Asked k path × Missed k
unfolding Asked Missed
no_text k p h = (tt, tt)

pub too_many : (k came more : ℕ) → 2 ^ 64 ≤ came + more → Missed k
unfolding Missed
too_many k n m h = tt

-- the descriptor of a file
abbrev pub descriptor_of : (file : File) → ℤ
descriptor_of f = file_raw_fd f

-- WHAT AN OPENING ANSWERS: a file, with its descriptor, or none
pub record PathOpened (k : ℕ) (path : List ℕ) (got : Option File) : Type 0 where
  pub asked : Asked k path
  pub opens : (f : File) → got ≡ Some f → Opened k path × Given k (descriptor_of f)
  pub fails : got ≡ None → Missed k

-- WHAT MAY BE CLOSED: the file whose descriptor opening k answered, or none
abbrev pub MayClose : (k : ℕ) → (file : Option File) → Type 0
MayClose k file = (f : File) → file ≡ Some f → Given k (descriptor_of f)

Given_prop : (k : ℕ) (d : ℤ) → IsProp (Given k d)
unfolding Given
Given_prop k d = Unit-prop

pub MayClose_prop : (k : ℕ) (file : Option File) → IsProp (MayClose k file)
MayClose_prop k file = Π_prop λ f. Π_prop λ _. Given_prop k (descriptor_of f)

-- WHAT A READ of a file ANSWERS, if its descriptor is the one that opening k answered, and `at` of its bytes had come: how many bytes it brought, or it failed.
-- It has not been closed, since a file is closed only where it is let go of
pub record DescriptorRead (k at : ℕ) (file : File) (got : Option ℕ) (buffer : List ℕ) : Type 0 where
  pub answered : Given k (descriptor_of file) → MatchOption got (Missed k) (λ n. Answered (Held k) (Over k) at n buffer)
