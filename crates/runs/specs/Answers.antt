-- What a feeding answers, in the words of these definitions. Assumes nothing: these are definitions.
use Rattle.std.specs.Prelude.{Result, Ok, Err, ℕ}
use Rattle.runs.specs.declared.Ending.{Ending}
use Rattle.runs.specs.declared.Ending.TheVariants as variants
use Rattle.runs.specs.declared.Feeding.{Feeding}
use Rattle.runs.specs.declared.Refusal.{Refusal}
use Rattle.runs.specs.Reading.{Ended, PieceDone, ListFull, Refused}
use Rattle.runs.specs.Refusals.{refusal_number}

-- an ending of a call that is not refused
abbrev pub ended : Ending → Ended
ended variants.PieceDone = PieceDone
ended variants.ListFull = ListFull

-- WHAT A CALL ANSWERS: the watch afterwards, the bytes taken, how much was written, and how it ended
pub record Answer (X : Type 0) : Type 0 where
  pub watch : X
  pub taken : ℕ
  pub written : ℕ
  pub ending : Ended

-- a feeding's answer to a call with the watch x: a refusal leaves the watch as it was, takes nothing and writes nothing
abbrev pub answer_of : {X : Type 0} → (x : X) → Result (Feeding X ℕ) Refusal → Answer X
answer_of x (Ok f) = record { watch = f.watch; taken = f.taken; written = f.written; ending = ended f.ending }
answer_of x (Err r) = record { watch = x; taken = 0; written = 0; ending = Refused (refusal_number r) }
