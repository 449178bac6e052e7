-- WHAT THE PROGRAM DOES with the bytes that come: the contracts of its loops, up to the whole run. Assumes nothing: these are definitions.
use Rattle.std.specs.Prelude.{◌≡◌, Option, Some, None, is_some, Result, List, [], ◌++◌, ℕ}
use Rattle.runs.specs.Reading.{Fed}
use Rattle.finder.specs.declared.Watch.{Watch}
use Rattle.finder.specs.Feed.{opened}
use Rattle.streams.specs.declared.NotComplete.{NotComplete}
use Rattle.streams.specs.Receipts.{Came, Sent, Broken, Moved, MayFollow}
use Rattle.streams.specs.Streams.{DoneOrTold, Brought, PrefixOf, SomeCame, Rises}
use Rattle.find.specs.Printed.{is_last, piece_refusal, piece_fed, piece_form, further}
use Rattle.find.specs.Output.{in_pieces, text_output, output}

-- READING a buffer full: so many bytes came, or a read failed, and what is counted came before it
abbrev pub GotInto : (full at : ℕ) → Result ℕ NotComplete → (after : ℕ) → (buffer : List ℕ) → Type 0
GotInto n at r after b = DoneOrTold r (λ k. Brought n at k after b) (SomeCame at after)

-- A PIECE was taken from watch x on, and what is to be printed for it was sent
pub record PieceSent (piece : List ℕ) (refusal : ℕ) (f : Fed Watch ℕ) (from : ℕ) (next : Option Watch) (to : ℕ) : Type 0 where
  pub sent : Moved Sent from to (piece_form refusal (is_last piece) f)
  pub next_is : next ≡ further refusal (is_last piece) f

abbrev pub PiecePrinted : (sheet : List ℕ) → Watch → (piece : List ℕ) → (k from : ℕ) → Result (Option Watch) NotComplete → (to : ℕ) → Type 0
PiecePrinted s x c k from r to = DoneOrTold r (λ next. PieceSent c (piece_refusal s x c k) (piece_fed s x c k) from next to) (Broken from to)

-- what is still to be printed for the rest of a text, with the watch for it; nothing, if no more is to be read
abbrev pub rest_output : (sheet : List ℕ) → (next : Option Watch) → (rest : List ℕ) → List ℕ
rest_output s (Some y) ts = text_output s (in_pieces ts) y
rest_output s None ts = []

-- THE SEARCH, from watch x to the next watch: bytes came, and those were sent that are to be printed for them. This holds whatever follows them; only where
-- no more is to be read may it rest on the input's having ended there
pub record SearchOn (sheet : List ℕ) (x : Watch) (at from : ℕ) (next : Option Watch) (after to : ℕ) : Type 0 where
  pub bytes : List ℕ
  pub out : List ℕ
  pub came : Moved Came at after bytes
  pub sent : Moved Sent from to out
  pub prints :
      (rest : List ℕ) → (next ≡ None → MayFollow after rest) →
      text_output sheet (in_pieces (bytes ++ rest)) x ≡ out ++ rest_output sheet next rest

-- STOPPED, where `prints` tells what is to be sent: bytes came, and those sent before a write failed, or all, are what is to be sent first, whatever follows
-- the bytes that came
pub record StoppedIn (prints : List ℕ → List ℕ) (at from after to : ℕ) : Type 0 where
  pub via : ℕ
  pub bytes : List ℕ
  pub out : List ℕ
  pub came : Moved Came at after bytes
  pub sent : Moved Sent from via out
  pub broken : Broken via to
  pub starts : (rest : List ℕ) → PrefixOf out (prints (bytes ++ rest))

-- a search that was stopped
abbrev pub SearchStopped : (sheet : List ℕ) → Watch → (at from after to : ℕ) → Type 0
SearchStopped s x at from after to = StoppedIn (λ ts. text_output s (in_pieces ts) x) at from after to

-- what one piece comes to: more of the text is to be read only if bytes came
abbrev pub PieceSearched : (sheet : List ℕ) → Watch → (at from : ℕ) → Result (Option Watch) NotComplete → (after to : ℕ) → Type 0
PieceSearched s x at from r after to =
    DoneOrTold r (λ next. SearchOn s x at from next after to × Rises (is_some next) at after) (SearchStopped s x at from after to)

-- what the loop over the pieces comes to, from an opening on: no more of the text is to be read
abbrev pub TextSearched : (sheet : List ℕ) → (at from : ℕ) → Result (Unit {0}) NotComplete → (after to : ℕ) → Type 0
TextSearched s at from r after to = DoneOrTold r (λ _. SearchOn s opened at from None after to) (SearchStopped s opened at from after to)

-- A COMPLETE RUN: bytes came and bytes were sent, so many, and those sent are the output of the whole input, whatever it has behind those that came
pub record Complete (after to : ℕ) : Type 0 where
  pub bytes : List ℕ
  pub out : List ℕ
  pub came : Moved Came 0 after bytes
  pub sent : Moved Sent 0 to out
  pub right : (rest : List ℕ) → MayFollow after rest → out ≡ output (bytes ++ rest)

-- A RUN THAT WAS STOPPED: those sent are what the output begins with, whatever the input has behind those that came; so they have no end form
abbrev pub Stopped : (after to : ℕ) → Type 0
Stopped after to = StoppedIn output 0 0 after to

-- THE PROGRAM's promise: a complete run, or it was stopped, and standard error was told
abbrev pub Ran : Result (Unit {0}) NotComplete → (after to : ℕ) → Type 0
Ran r after to = DoneOrTold r (λ _. Complete after to) (Stopped after to)
