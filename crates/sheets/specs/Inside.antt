-- What the private functions of this crate need and promise. Assumes nothing: these are definitions.
use Rattle.std.specs.Prelude.{◌≡◌, Bool, cond, List, [], ◌++◌, ℕ, zero, suc, ◌+◌, ◌≤◌, ◌<◌, length, take, drop}
use Rattle.std.proofs.lemmas.List.Edits.{sets}
use Rattle.words.specs.Words.{same, border_of, in_front}
use Rattle.automaton.specs.Arrows.{targets_below, arrows_below}
use Rattle.automaton.specs.Preparing.{candidates, drops, dropped}
use Rattle.sheets.specs.declared.filling.Filled.{Filled}
use Rattle.codes.specs.Codes.{longest_code}
use Rattle.sheets.specs.Sheet.{number, numbers, counts_below, number_width, front, sheet, count_place, target_place, sheet_room}

-- NUMBERS. What is read at a place is the number that is there in so many bytes
abbrev pub Reads : (buffer : List ℕ) → (width at r : ℕ) → Type 0
Reads b d at r = (v : ℕ) → take d (drop at b) ≡ number d v → r ≡ v

-- the width of the numbers for a code of m bytes, which may have a sheet
pub record Numbered (m width : ℕ) : Type 0 where
  pub some : 1 ≤ m
  pub few : m ≤ longest_code
  pub width_is : width ≡ number_width m

-- what is read as the start of its targets is the count of the state below, and 0 where there is none
abbrev pub StartRead : (buffer : List ℕ) → (m width p r : ℕ) → Type 0
StartRead b m d zero r = r ≡ 0
StartRead b m d (suc q) r = Reads b d (count_place m q) r

-- a buffer has room for the sheet of a code
abbrev pub Fits : (w b : List ℕ) → Type 0
Fits w b = sheet_room (length w) ≤ length b

-- a buffer b that was a: it has cs in front and ts from place n on; behind ts it is as it was
pub record Filling (n : ℕ) (cs ts a b : List ℕ) : Type 0 where
  pub front : take (length cs) b ≡ cs
  pub mid : take (length ts) (drop n b) ≡ ts
  pub tail : drop (n + length ts) b ≡ drop (n + length ts) a
  pub long : length b ≡ length a

-- what is before the code is there; and the code
abbrev pub FrontMade : (m : ℕ) → (a b : List ℕ) → Type 0
FrontMade m a b = Filling (target_place m 0) (front m) [] a b

abbrev pub CodeMade : (w a b : List ℕ) → Type 0
CodeMade w a b = Filling (target_place (length w) 0) (front (length w) ++ w) [] a b

-- these and the counts of the states below r
unfoldable pub header : (w : List ℕ) → (r : ℕ) → List ℕ
header w r = (front (length w) ++ w) ++ numbers (number_width (length w)) (counts_below w r)

-- the counts of the states below r, and so many targets
abbrev pub FilledWith : (w : List ℕ) → (r : ℕ) → (targets a b : List ℕ) → Type 0
FilledWith w r ts a b = Filling (target_place (length w) 0) (header w r) (numbers (number_width (length w)) ts) a b

-- the sheet as far as the states below r
abbrev pub FilledTo : (w : List ℕ) → (r : ℕ) → (a b : List ℕ) → Type 0
FilledTo w r a b = FilledWith w r (targets_below w r) a b

-- a target t of state r can be put behind those stored
pub record TargetReady (w b : List ℕ) (r t stored : ℕ) : Type 0 where
  pub room : Fits w b
  pub some : 1 ≤ t
  pub inside : t ≤ length w
  pub ok : r ≤ length w
  pub fewer : stored < length w

-- one target put: stored, or kept back as the next state's longest border where it has r's forward label
unfoldable pub put_result : (w : List ℕ) → (r t : ℕ) → Filled → Filled
put_result w r t f =
    cond (drops w r t) (record { stored = f.stored; border = t }) (record { stored = f.stored + 1; border = f.border })

unfoldable pub put_buffer : (w : List ℕ) → (r t : ℕ) → Filled → (buffer : List ℕ) → List ℕ
put_buffer w r t f b = cond (drops w r t) b (sets b (target_place (length w) f.stored) (number (number_width (length w)) t))

-- state r can be filled: its longest border is known and the states below are there
pub record StateReady (w b : List ℕ) (r : ℕ) (below : Filled) : Type 0 where
  pub room : Fits w b
  pub some : 1 ≤ r
  pub ok : r ≤ length w
  pub border_is : below.border ≡ border_of w r
  pub stored_is : below.stored ≡ arrows_below w r
  pub filling : FilledTo w r b b

-- its targets are there
pub record StateMade (w : List ℕ) (r : ℕ) (f : Filled) (a b : List ℕ) : Type 0 where
  pub filling : FilledWith w r (targets_below w (suc r)) a b
  pub stored_is : f.stored ≡ arrows_below w (suc r)
  pub border_is : f.border ≡ dropped w r 0 (candidates w r)

-- all states are there, and so many targets
pub record StatesMade (w : List ℕ) (stored : ℕ) (a b : List ℕ) : Type 0 where
  pub stored_is : stored ≡ arrows_below w (suc (length w))
  pub filling : FilledTo w (suc (length w)) a b

-- the whole sheet is there, and so many bytes
pub record SheetMade (w : List ℕ) (size : ℕ) (a b : List ℕ) : Type 0 where
  pub size_is : size ≡ length (sheet w)
  pub front : b ≡ in_front (sheet w) a

-- whether a buffer begins with the sheet of a code
abbrev pub Freshly : (buffer code : List ℕ) → (answer : Bool) → Type 0
Freshly b w r = r ≡ same (take (length (sheet w)) b) (sheet w)
