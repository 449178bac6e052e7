-- The numbers of refusals in document 01's table. Assumes nothing: these are definitions.
use Rattle.std.specs.Prelude.{Result, Ok, Err, ℕ}
use Rattle.runs.specs.declared.Refusal.{Refusal}
use Rattle.runs.specs.declared.Refusal.TheVariants.{EmptyCode, LongCode, ShortBuffer, NotPrepared, UnfitWatch, ShortList, LongText, WrongLine}
use Rattle.runs.specs.declared.Refusal.TheVariants.{UnfitCodes, CodeTwice, ControlByte}

abbrev pub refusal_number : Refusal → ℕ
refusal_number EmptyCode = 1
refusal_number LongCode = 2
refusal_number ShortBuffer = 3
refusal_number NotPrepared = 4
refusal_number UnfitWatch = 5
refusal_number ShortList = 6
refusal_number LongText = 7
refusal_number WrongLine = 8
refusal_number UnfitCodes = 10
refusal_number CodeTwice = 11
refusal_number ControlByte = 13

-- the number of an answer's refusal, 0 for none
abbrev pub refusal_of : {A : Type 0} → Result A Refusal → ℕ
refusal_of (Ok v) = 0
refusal_of (Err r) = refusal_number r
