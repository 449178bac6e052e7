-- READING A TEXT IN PIECES, whatever reads it: what each byte adds, and a piece taken until it ends or the list is full. Assumes nothing: these are
-- definitions.
use Rattle.std.specs.Prelude.{Bool, ◌&&◌, cond, List, [], ◌∷◌, ◌++◌, ℕ, ◌+◌, ◌-◌, ltb, length}

-- the most bytes that are read from an opening on
abbrev pub longest_text : ℕ
longest_text = 4294967295

-- WHAT EACH BYTE OF A TEXT ADDS, after what stands before it
unfoldable pub over : {A : Type 0} → (adds : (before : List ℕ) → (c : ℕ) → List A) → (before text : List ℕ) → List A
over f bs [] = []
over f bs (c ∷ cs) = f bs c ++ over f (bs ++ (c ∷ [])) cs

-- a place, if it is complete: a list of none or one
unfoldable pub place_if : (complete : Bool) → (place : ℕ) → List ℕ
place_if t i = cond t (i ∷ []) []

-- A READER with states in X: what byte c makes of a state, what is told when it is taken, and how many spots must be free before any byte is
pub record Reader (X A : Type 0) : Type 0 where
  pub byte : (c : ℕ) → X → X
  pub tells : (c : ℕ) → X → List A
  pub needs : ℕ

-- WHAT WAS FED: the state afterwards, the bytes taken, and what was told
pub record Fed (X A : Type 0) : Type 0 where
  pub after : X
  pub taken : ℕ
  pub told : List A

abbrev pub fed : {X A : Type 0} → X → (taken : ℕ) → (told : List A) → Fed X A
fed x n ps = record { after = x; taken = n; told = ps }

-- n bytes and what they told, before what was fed
unfoldable pub fed_more : {X A : Type 0} → (n : ℕ) → (told : List A) → Fed X A → Fed X A
fed_more n ps f = fed f.after (n + f.taken) (ps ++ f.told)

-- A PIECE, until it ends or too few spots are free in the list
unfoldable pub feed : {X A : Type 0} → Reader X A → (piece : List ℕ) → (room : ℕ) → X → Fed X A
feed d [] k x = fed x 0 []
feed d (c ∷ cs) k x =
    cond (ltb k d.needs) (fed x 0 []) (fed_more 1 (d.tells c x) (feed d cs (k - length (d.tells c x)) (d.byte c x)))

-- HOW A CALL ENDS: the piece is done, the list is full and bytes of the piece are left, or it is refused with a number
pub data Ended : Type 0 where
  PieceDone ListFull : Ended
  Refused : (number : ℕ) → Ended

-- ITS ENDING: list full only when too few spots are free and bytes of the piece are left
unfoldable pub ending : {X A : Type 0} → (needs : ℕ) → (piece : List ℕ) → (room : ℕ) → Fed X A → Ended
ending n cs k f = cond (ltb (k - length f.told) n && ltb f.taken (length cs)) ListFull PieceDone

-- an ending's number of document 01's table, 0 for none, and whether it says list full (1) or not (0)
abbrev pub ending_refusal : Ended → ℕ
ending_refusal PieceDone = 0
ending_refusal ListFull = 0
ending_refusal (Refused n) = n

abbrev pub ending_full : Ended → ℕ
ending_full PieceDone = 0
ending_full ListFull = 1
ending_full (Refused n) = 0
