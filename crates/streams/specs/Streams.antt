-- WHAT READING AND WRITING COME TO: the contracts of what speaks to the system. Assumes nothing: these are definitions.
use Rattle.std.specs.Prelude.{◌≡◌, Bool, true, false, List, ◌++◌, ℕ, ◌^◌, ◌≤◌, ◌<◌, length, take, Result, MatchResult}
use Rattle.forms.specs.declared.Line.{Line}
use Rattle.forms.specs.declared.Line.TheVariants.{Wrong}
use Rattle.forms.specs.Line.{goes_on, read}
use Rattle.streams.specs.declared.NotComplete.{NotComplete}
use Rattle.streams.specs.Receipts.{Came, Ended, Sent, Told, Broken, Moved, MayFollow}

-- either something is done, or standard error was told that the search is not complete, and something else holds
abbrev pub DoneOrTold : {A : Type 0} → Result A NotComplete → (Done : A → Type 0) → (Else : Type 0) → Type 0
DoneOrTold r Done Else = MatchResult r Done (λ _. Told × Else)

-- READING: k bytes came into a buffer, fewer than `full` only where the input ended
pub record Brought (full at k after : ℕ) (buffer : List ℕ) : Type 0 where
  pub within : k ≤ length buffer
  pub came : Moved Came at after (take k buffer)
  pub ends : k < full → Ended after

-- one read: or it failed, and none is counted
abbrev pub ReadInto : (full at : ℕ) → Result ℕ NotComplete → (after : ℕ) → (buffer : List ℕ) → Type 0
ReadInto n at r after b = DoneOrTold r (λ k. Brought n at k after b) (after ≡ at)

-- some bytes came
pub record SomeCame (at after : ℕ) : Type 0 where
  pub bytes : List ℕ
  pub came : Moved Came at after bytes

-- PRINTING: these bytes were sent, all of them, or none is counted
abbrev pub SentOrTold : (at : ℕ) → (bytes : List ℕ) → Result (Unit {0}) NotComplete → (after : ℕ) → Type 0
SentOrTold at bs r after = DoneOrTold r (λ _. Moved Sent at after bs) (Broken at after)

-- a list begins with another
pub record PrefixOf (xs ys : List ℕ) : Type 0 where
  pub rest : List ℕ
  pub is : ys ≡ xs ++ rest

-- WHY A LOOP ENDS: a turn that is to be followed by another has read something, and bytes read are counted in 64 bits
abbrev pub Rises : (more : Bool) → (at after : ℕ) → Type 0
Rises more at after = more ≡ true → (at < after) × (after < 2 ^ 64)

-- A LINE WITH A CODE, from `line` to `next`: bytes came, and behind them `read` goes on just so. This holds whatever follows them; only a wrong line may
-- rest on the input's having ended there
pub record LineOn (line : Line) (kept : List ℕ) (at : ℕ) (next : Line) (kept_after : List ℕ) (after : ℕ) : Type 0 where
  pub bytes : List ℕ
  pub came : Moved Came at after bytes
  pub reads :
      (rest : List ℕ) → (next ≡ Wrong → MayFollow after rest) → read line kept (bytes ++ rest) ≡ read next kept_after rest

-- so far it was read when a read failed
pub record LineStopped (line : Line) (kept : List ℕ) (at : ℕ) (kept_after : List ℕ) (after : ℕ) : Type 0 where
  pub next : Line
  pub on : LineOn line kept at next kept_after after

-- what one byte of it comes to: more of it is to be read just as long as `read` goes on, and then a byte came
abbrev pub ByteRead : Line → (kept : List ℕ) → (at : ℕ) → Result Line NotComplete → (kept_after : List ℕ) → (after : ℕ) → Type 0
ByteRead l a at r b after = DoneOrTold r (λ next. LineOn l a at next b after × Rises (goes_on next) at after) (LineStopped l a at b after)

-- what the loop over its bytes comes to: nothing more of it is to be read
abbrev pub LineRead : Line → (kept : List ℕ) → (at : ℕ) → Result Line NotComplete → (kept_after : List ℕ) → (after : ℕ) → Type 0
LineRead l a at r b after = DoneOrTold r (λ next. LineOn l a at next b after × (goes_on next ≡ false)) (LineStopped l a at b after)
