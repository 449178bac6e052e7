-- WHAT THE PROGRAM DOES with the bytes that come and the files that they name, up to the whole run. Assumes nothing: these are definitions.
use Rattle.std.specs.Prelude.{◌≡◌, Bool, true, false, List, [], ◌++◌, ◌≢◌, ℕ, Result, IsErr, OnOk}
use Rattle.forms.specs.Text.{refused_form}
use Rattle.streams.specs.declared.NotComplete.{NotComplete}
use Rattle.streams.specs.Receipts.{Came, Ended, Sent, Told, Moved, MayFollow}
use Rattle.streams.specs.Streams.{DoneOrTold, SomeCame}
use Rattle.sweep.specs.declared.list.Sweep.{Sweep}
use Rattle.sweep.specs.Forms.{total_form}
use Rattle.sweep.specs.Saying.{Cut, Says}
use Rattle.sweep.specs.Looking.{OnBoard}
use Rattle.sweep.specs.Head.{head_form, AllPaired, NoHead, head_refusal}
use Rattle.sweep.specs.Swept.{Plan, listing, AllNamed, AllRight, sweep_form, sent_of, IsNew, Stopped, ListedOn}

-- THE LIST from where the sweep stood on, to its end, or the sweep was stopped
pub record Listed (buffer : List ℕ) (s : Sweep) (at : ℕ) (r : Result (Unit {0}) NotComplete) (t : Sweep) (after : ℕ) : Type 0 where
  pub bytes : List ℕ
  pub came : Moved Came at after bytes
  pub ends : OnOk r (Ended after)
  pub listed : ListedOn buffer bytes s r t

-- THE END: what was counted is said, and all that is said is sent; if the list ends within a path, nothing is, and standard error is told
pub record Finished (s : Sweep) (r : Result (Unit {0}) NotComplete) (t : Sweep) : Type 0 where
  pub within : s.name ≢ [] → IsErr r × Told × (sent_of t ≡ sent_of s)
  pub says : s.name ≡ [] → Says s.reader.printer (total_form s.counts.files s.counts.unread s.counts.bytes s.counts.hits) r t.reader.printer
  pub unsaid : s.name ≡ [] → OnOk r (t.reader.printer.page ≡ [])

-- ALL FILES of the list were read: the whole list came, and what was sent is all that is printed for them
pub record AllSwept (ws : List (List ℕ)) (list out : List ℕ) : Type 0 where
  pub plans : List Plan
  pub listed : list ≡ listing plans
  pub named : AllNamed plans
  pub right : AllRight 1 plans
  pub is : out ≡ sweep_form ws plans

-- the sweep of the list, or where it was stopped
pub record ListSwept (ws : List (List ℕ)) (at after to : ℕ) : Type 0 where
  pub bytes : List ℕ
  pub out : List ℕ
  pub came : Moved Came at after bytes
  pub ended : Ended after
  pub sent : Moved Sent 0 to out
  pub all : AllSwept ws bytes out

-- all files of the list were read right, but not all that is printed for them could be sent
pub record Unsent (ws : List (List ℕ)) (list : List ℕ) (to : ℕ) : Type 0 where
  pub plans : List Plan
  pub listed : list ≡ listing plans
  pub named : AllNamed plans
  pub right : AllRight 1 plans
  pub cut : Cut to (sweep_form ws plans)

-- where it was stopped: before the end, or where the whole list had come
pub record StoppedAt (ws : List (List ℕ)) (list : List ℕ) (after to : ℕ) : Type 0 where
  pub ended : Bool
  pub within : ended ≡ false → Stopped ws list to
  pub behind : ended ≡ true → Ended after × Unsent ws list to

pub record ListStopped (ws : List (List ℕ)) (at after to : ℕ) : Type 0 where
  pub some : SomeCame at after
  pub stopped : StoppedAt ws some.bytes after to

-- what `sweep_list` promises, where nothing was sent before
pub record Sweeps (buffer : List ℕ) (s : Sweep) (at : ℕ) (r : Result (Unit {0}) NotComplete) (t : Sweep) (after : ℕ) : Type 0 where
  pub sweeps :
      (ws : List (List ℕ)) → OnBoard ws buffer → IsNew s →
      DoneOrTold r (λ _. ListSwept ws at after (sent_of t)) (ListStopped ws at after (sent_of t))

-- A COMPLETE RUN that was refused, by the codes of its head
pub record RefusedHead (bytes : List ℕ) (refusal : ℕ) : Type 0 where
  pub codes : List (List ℕ)
  pub form : bytes ≡ head_form codes
  pub paired : AllPaired codes
  pub is : refusal ≡ head_refusal codes

-- and one that was not: the input is a head and a list, and the output all that is printed for the files of the list
pub record SweptAll (bytes out : List ℕ) : Type 0 where
  pub codes : List (List ℕ)
  pub list : List ℕ
  pub form : bytes ≡ head_form codes ++ list
  pub paired : AllPaired codes
  pub accepted : head_refusal codes ≡ 0
  pub all : AllSwept codes list out

-- A COMPLETE RUN: bytes came and bytes were sent. Those sent are a refusal, and no more than it: 8 where the input has no head, whatever follows what
-- came, or that of the codes; or the input came to its end, and they are all that is printed for its files
pub record Complete (after to : ℕ) : Type 0 where
  pub bytes : List ℕ
  pub out : List ℕ
  pub came : Moved Came 0 after bytes
  pub sent : Moved Sent 0 to out
  pub refusal : ℕ
  pub refused : refusal ≢ 0 → out ≡ refused_form refusal
  pub wrong : refusal ≡ 8 → (rest : List ℕ) → MayFollow after rest → NoHead (bytes ++ rest)
  pub codes : refusal ≢ 0 → refusal ≢ 8 → RefusedHead bytes refusal
  pub swept : refusal ≡ 0 → Ended after × SweptAll bytes out

-- A SWEEP THAT WAS STOPPED: the input began with a head and some of a list
pub record SweepStopped (bytes : List ℕ) (after to : ℕ) : Type 0 where
  pub codes : List (List ℕ)
  pub list : List ℕ
  pub form : bytes ≡ head_form codes ++ list
  pub paired : AllPaired codes
  pub accepted : head_refusal codes ≡ 0
  pub stopped : StoppedAt codes list after to

-- A RUN THAT WAS STOPPED: before it swept, and then nothing is known to be sent; or later
pub record RunStopped (after to : ℕ) : Type 0 where
  pub some : SomeCame 0 after
  pub began : Bool
  pub unsent : began ≡ false → Cut to []
  pub swept : began ≡ true → SweepStopped some.bytes after to

-- THE PROGRAM's promise: a complete run, or it was stopped, and standard error was told
abbrev pub Ran : Result (Unit {0}) NotComplete → (after to : ℕ) → Type 0
Ran r after to = DoneOrTold r (λ _. Complete after to) (RunStopped after to)
