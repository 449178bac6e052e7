-- THE FIRST LINE of the program's input: its form, and how it is read, byte by byte. Assumes nothing: these are definitions.
use Rattle.std.specs.Prelude.{Bool, true, false, not, ◌&&◌, cond, List, [], ◌∷◌, ℕ, ◌+◌, ◌-◌, ◌^◌, ltb, eqb, length, get_or, set}
use Rattle.forms.specs.declared.Line.{Line}
use Rattle.forms.specs.declared.Line.TheVariants.{Opening, Code, Closed, Done, Wrong}
use Rattle.forms.specs.Ascii.{ascii}

abbrev pub opening : List ℕ
opening = ascii "(code "

abbrev pub opening_bracket : ℕ
opening_bracket = 40

abbrev pub closing_bracket : ℕ
closing_bracket = 41

abbrev pub line_feed : ℕ
line_feed = 10

-- the most brackets that may be open inside a code: as many as 64 bits count
abbrev pub deepest : ℕ
deepest = 2 ^ 64 - 1

-- ONE BYTE OF A CODE in which d brackets are open: whether it may stand there, and how many are open behind it. An opening bracket may while it can be
-- counted, a closing one if it closes one of them, any other byte unless it is the line feed
unfoldable pub of_code : (depth byte : ℕ) → Bool
of_code d b = cond (eqb b opening_bracket) (ltb d deepest) (cond (eqb b closing_bracket) (ltb 0 d) (not (eqb b line_feed)))

unfoldable pub depth_after : (depth byte : ℕ) → ℕ
depth_after d b = cond (eqb b opening_bracket) (d + 1) (cond (eqb b closing_bracket) (d - 1) d)

-- PAIRS: each byte may stand there, where d brackets are open before the first, and none is open behind the last
unfoldable pub pairs : (depth : ℕ) → (code : List ℕ) → Bool
pairs d [] = eqb d 0
pairs d (b ∷ bs) = of_code d b && pairs (depth_after d b) bs

-- ONE BYTE more, where there is room for k bytes of the code
unfoldable pub line_after : (k : ℕ) → Line → (byte : ℕ) → Line
line_after k (Opening n) b =
    cond (ltb n 6 && eqb (get_or opening n 0) b) (cond (eqb n 5) (Code (record { kept = 0; depth = 0 })) (Opening (n + 1))) Wrong
line_after k (Code i) b =
    cond (of_code i.depth b)
    (Code (record { kept = cond (ltb i.kept k) (i.kept + 1) i.kept; depth = depth_after i.depth b }))
    (cond (eqb b closing_bracket) (Closed i.kept) Wrong)
line_after k (Closed n) b = cond (eqb b line_feed) (Done n) Wrong
line_after k (Done n) b = Done n
line_after k Wrong b = Wrong

-- the bytes of the code that are kept
unfoldable pub kept_after : Line → (byte : ℕ) → (kept : List ℕ) → List ℕ
kept_after (Opening n) b a = a
kept_after (Code i) b a = cond (of_code i.depth b) (set a i.kept b) a
kept_after (Closed n) b a = a
kept_after (Done n) b a = a
kept_after Wrong b a = a

-- whether the line is still being read
abbrev pub goes_on : Line → Bool
goes_on (Opening n) = true
goes_on (Code i) = true
goes_on (Closed n) = true
goes_on (Done n) = false
goes_on Wrong = false

-- READING an input while the line goes on; one that ends before that is not of the form
pub record Read : Type 0 where
  pub line : Line
  pub kept_bytes : List ℕ
  pub rest : List ℕ

unfoldable pub read : Line → (kept input : List ℕ) → Read
read l a [] = record { line = cond (goes_on l) Wrong l; kept_bytes = a; rest = [] }
read l a (b ∷ bs) =
    cond (goes_on l) (read (line_after (length a) l b) (kept_after l b a) bs) (record { line = l; kept_bytes = a; rest = b ∷ bs })
