-- What the words of the codes' first bytes hold, and what passing over bytes needs and promises. Assumes nothing: these are definitions.
use Rattle.std.specs.Prelude.{◌≡◌, Bool, true, ◌&&◌, ◌||◌, List, ◌≢◌, ℕ, ◌+◌, ◌*◌, ◌-◌, ◌≤◌, ◌<◌, ltb, eqb, length, get_or, replicate}
use Rattle.std.specs.Int.Bits.{bit_and}
use Rattle.words.specs.Words.{Every, byte}
use Rattle.bits.specs.Bits.{holds}
use Rattle.starts.specs.Starts.{code, known, total, state}
use Rattle.boards.specs.declared.fronts.Fronts.{Fronts as FrontLists}
use Rattle.boards.specs.Tables.{part, Offsets}

-- so many first bytes every code has: at most 4, and at least 1 if no length is 0
pub record Shortest (ls : List ℕ) (depth : ℕ) : Type 0 where
  pub few : depth ≤ 4
  pub within : (j : ℕ) → j < length ls → depth ≤ get_or ls j 0
  pub some : Every (λ l. 1 ≤ l) ls → 1 ≤ depth

-- ONE CODE, number j: its bit is put at byte q in row q, below `depth`
pub record CodePut (w : List ℕ) (depth j : ℕ) (a b : List ℕ) : Type 0 where
  pub each : (q c r : ℕ) → c < 256 →
      holds (get_or b (256 * q + c) 0) r ≡ holds (get_or a (256 * q + c) 0) r || (ltb q depth && eqb (get_or w q 0) c) && eqb r (63 - j)
  pub long : length b ≡ length a

-- ALL CODES, in new lists, which have nothing in them
abbrev pub new_fronts : FrontLists
new_fronts = record { words = replicate 1024 0; starts = replicate 64 0; depth = 0 }

-- code number j has bit 63 - j, so that the highest bit is the first code's
pub record AllPut (ws : List (List ℕ)) (depth : ℕ) (words starts : List ℕ) : Type 0 where
  pub each : (q c j : ℕ) → q < depth → c < 256 → j < 64 → holds (get_or words (256 * q + c) 0) (63 - j) ≡ ltb j (length ws) && eqb (byte (code ws j) q) c
  pub offsets : Offsets ws starts
  pub words_long : length words ≡ 1024
  pub starts_long : length starts ≡ 64

-- THE WORDS: in the rows below `depth` a code's bit is set at its byte of that number, in the others everywhere
pub record Fronts (ws : List (List ℕ)) (f : FrontLists) : Type 0 where
  pub put : AllPut ws f.depth f.words f.starts
  pub all : (q c j : ℕ) → f.depth ≤ q → q < 4 → c < 256 → j < 64 → holds (get_or f.words (256 * q + c) 0) (63 - j) ≡ true
  pub some : 1 ≤ f.depth
  pub most : f.depth ≤ 4
  pub within : (j : ℕ) → j < length ws → f.depth ≤ length (code ws j)
  pub codes_few : length ws ≤ 64
  pub few : total ws ≤ 2000

-- WHAT A PIECE'S BYTES from i on have in common: byte number q has its word in row q
unfoldable pub word_at : (words piece : List ℕ) → (i q : ℕ) → ℕ
word_at ws cs i q = get_or ws (256 * q + get_or cs (i + q) 0) 0

unfoldable pub pair_at : (words piece : List ℕ) → (i : ℕ) → ℕ
pair_at ws cs i = bit_and (word_at ws cs i 0) (word_at ws cs i 1)

unfoldable pub common_at : (words piece : List ℕ) → (i : ℕ) → ℕ
common_at ws cs i = bit_and (pair_at ws cs i) (bit_and (word_at ws cs i 2) (word_at ws cs i 3))

-- PASSING: nothing in common at any of four indexes
abbrev pub NoneBegins : (words piece : List ℕ) → (i : ℕ) → (r : Bool) → Type 0
NoneBegins ws cs i r = r ≡ true → (q : ℕ) → q < 4 → common_at ws cs (i + q) ≡ 0

-- from one index on up to another, which is still inside, the words of the four bytes from each on have nothing in common
pub record Passed (words piece : List ℕ) (from to : ℕ) : Type 0 where
  pub onward : from ≤ to
  pub inside : to < length piece
  pub none : (i : ℕ) → from ≤ i → i < to → (i + 3 < length piece) × (common_at words piece i ≡ 0)

-- and at that index they have, unless fewer than four are left
pub record Stopped (words piece : List ℕ) (from to : ℕ) : Type 0 where
  pub passed : Passed words piece from to
  pub stops : to + 3 < length piece → common_at words piece to ≢ 0

-- ENTERING: the first bytes at i begin a code, and lead to their state
pub record Entering (ws : List (List ℕ)) (f : FrontLists) (piece : List ℕ) (i : ℕ) : Type 0 where
  pub fronts : Fronts ws f
  pub inside : i + 3 < length piece
  pub bytes : (j : ℕ) → get_or piece j 0 < 256
  pub begins : common_at f.words piece i ≢ 0

pub record OnEnter (f : FrontLists) (piece : List ℕ) (i : ℕ) : Type 0 where
  pub ws : List (List ℕ)
  pub entering : Entering ws f piece i

abbrev pub Enters : FrontLists → (piece : List ℕ) → (i r : ℕ) → Type 0
Enters f cs i r =
    (ws : List (List ℕ)) → Entering ws f cs i → let u = part i f.depth cs in (known ws u ≡ true) × (r ≡ state ws u)
