-- WHAT IS SAID: bytes handed to standard output, and behind them those gathered for it. Assumes nothing: these are definitions.
use Rattle.std.specs.Prelude.{◌≡◌, List, ◌++◌, ℕ, ◌+◌, ◌≤◌, Result, length}
use Rattle.streams.specs.declared.NotComplete.{NotComplete}
use Rattle.streams.specs.Receipts.{Sent, Broken, Moved}
use Rattle.streams.specs.Streams.{DoneOrTold, PrefixOf}
use Rattle.sweep.specs.declared.says.Printer.{Printer}

-- SAID: all that was sent, and what is gathered behind it
pub record Said (p : Printer) (all : List ℕ) : Type 0 where
  pub front : List ℕ
  pub moved : Moved Sent 0 p.output front
  pub whole : front ++ p.page ≡ all

-- CUT SHORT: the bytes sent before a write failed, or all that were, are what `all` begins with
pub record Cut (sent : ℕ) (all : List ℕ) : Type 0 where
  pub via : ℕ
  pub front : List ℕ
  pub moved : Moved Sent 0 via front
  pub broken : Broken via sent
  pub starts : PrefixOf front all

-- WHAT A CALL SAYS behind all that was said before it; or a write failed
pub record Says {A : Type 0} (p : Printer) (bytes : List ℕ) (r : Result A NotComplete) (q : Printer) : Type 0 where
  pub says : (all : List ℕ) → Said p all → DoneOrTold r (λ _. Said q (all ++ bytes)) (Cut q.output (all ++ bytes))

-- ROOM was made for `most` more bytes
pub record Made (p : Printer) (most : ℕ) (r : Result (Unit {0}) NotComplete) (q : Printer) : Type 0 where
  pub fits : length q.page + most ≤ 200704
  pub says : (all : List ℕ) → Said p all → DoneOrTold r (λ _. Said q all) (Cut q.output all)
