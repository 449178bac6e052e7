-- The answers of preparing and feeding as plain numbers, for C. Assumes nothing: these are definitions.
use Rattle.std.specs.Prelude.{◌≡◌, List, ℕ, length}
use Rattle.runs.specs.Reading.{ending_refusal, ending_full}
use Rattle.runs.specs.Answers.{Answer as FeedAnswer}
use Rattle.codes.specs.Refusals.{Answer, answer_refusal, answer_value}
use Rattle.sheets.specs.Entry.{prepare_answer, prepare_buffer}
use Rattle.finder.specs.declared.Watch.{Watch}
use Rattle.finder.specs.Entry.{Lent, feed_call}
use Rattle.entries.specs.declared.PreparedNumbers.{PreparedNumbers}
use Rattle.entries.specs.declared.FedNumbers.{FedNumbers}

-- the answer of preparing: the sheet's length, 0 if refused, and document 01's number, 0 for none
abbrev pub prepared_numbers : Answer → PreparedNumbers
prepared_numbers a = record { length = answer_value a; refusal = answer_refusal a }

-- what `entries_prepare` promises of its answer and of the buffer after it
pub record PrepareTold (code : List ℕ) (answer : PreparedNumbers) (buffer buffer-after : List ℕ) : Type 0 where
  pub answers : answer ≡ prepared_numbers (prepare_answer code (length buffer))
  pub leaves : buffer-after ≡ prepare_buffer code buffer

-- a watch from its four numbers
abbrev pub watch_from : (state taken hits compares : ℕ) → Watch
watch_from p n h c = record { state = p; taken = n; hits = h; compares = c }

-- a watch's numbers, of a call that took and wrote nothing
abbrev pub watch_numbers : Watch → FedNumbers
watch_numbers x =
    record { state = x.state; taken = x.taken; hits = x.hits; read = 0; compares = x.compares; written = 0; refusal = 0; full = 0 }

-- the answer of feeding: the watch, the bytes taken and the places written in this call, and the ending
abbrev pub fed_numbers : FeedAnswer Watch → FedNumbers
fed_numbers f =
    record {
      state = f.watch.state;
      taken = f.watch.taken;
      hits = f.watch.hits;
      read = f.taken;
      compares = f.watch.compares;
      written = f.written;
      refusal = ending_refusal f.ending;
      full = ending_full f.ending;
    }

-- what `entries_feed` promises of its answer and of what it was lent: feeding's call, in numbers
pub record FeedTold (sheet : List ℕ) (x : Watch) (before : Lent) (answer : FedNumbers) (after : Lent) : Type 0 where
  pub answers : answer ≡ fed_numbers (feed_call sheet x before).answer
  pub leaves : after ≡ (feed_call sheet x before).left
