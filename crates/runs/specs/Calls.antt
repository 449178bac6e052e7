-- CALLS of any entry point, and runs of them. Assumes nothing: these are definitions.
use Rattle.std.specs.Prelude.{cond, List, [], ◌∷◌, ◌++◌, ℕ, eqb, take}
use Rattle.runs.specs.Reading.{Reader, Fed, fed, feed}

-- WHAT CALLS COME TO: the state answered last, the bytes taken, and what was told
pub record Outcome (X A : Type 0) : Type 0 where
  pub after : X
  pub bytes : List ℕ
  pub told : List A

-- A RUN: calls of an entry point, each in the state that the one before it answered
unfoldable pub run : {C X A : Type 0} → (entry : C → X → Outcome X A) → (calls : List C) → X → Outcome X A
run p [] x = record { after = x; bytes = []; told = [] }
run p (c ∷ cs) x =
    let e = p c x in
    let es = run p cs e.after in
    record { after = es.after; bytes = e.bytes ++ es.bytes; told = e.told ++ es.told }

-- CALLS OF A READER: a piece, and how many spots its list has
pub record Call : Type 0 where
  pub piece : List ℕ
  pub room : ℕ

-- what was fed, unless there was a refusal, which changes nothing
unfoldable pub unless_refused : {X A : Type 0} → (refusal : ℕ) → Fed X A → X → Fed X A
unless_refused n f x = cond (eqb n 0) f (fed x 0 [])

unfoldable pub called : {X A : Type 0} → Reader X A → (refuses : Call → X → ℕ) → Call → X → Outcome X A
called d r c x =
    let f = unless_refused (r c x) (feed d c.piece c.room x) x in
    record { after = f.after; bytes = take f.taken c.piece; told = f.told }
