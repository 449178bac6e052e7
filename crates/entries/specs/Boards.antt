-- The answers of preparing, joining and feeding boards as plain numbers, for C. Assumes nothing: these are definitions.
use Rattle.std.specs.Prelude.{◌≡◌, List, ℕ, length}
use Rattle.runs.specs.Reading.{ending_refusal, ending_full}
use Rattle.runs.specs.Answers.{Answer}
use Rattle.boards.specs.declared.Watch.{Watch}
use Rattle.boards.specs.Entry.{prepare_answer, prepare_buffer, Lent, feed_call}
use Rattle.boards.specs.Join.{join_answer, join_buffer}
use Rattle.entries.specs.declared.PreparedNumbers.{PreparedNumbers}
use Rattle.entries.specs.declared.board.HitNumbers.{HitNumbers}
use Rattle.entries.specs.Numbers.{prepared_numbers}

-- what `entries_prepare_board` promises of its answer and of the buffer after it
pub record BoardTold (lengths bytes : List ℕ) (answer : PreparedNumbers) (buffer buffer-after : List ℕ) : Type 0 where
  pub answers : answer ≡ prepared_numbers (prepare_answer lengths bytes (length buffer))
  pub leaves : buffer-after ≡ prepare_buffer lengths bytes buffer

-- and `entries_join_boards` of its answer and of the third buffer
pub record JoinedTold (first second : List ℕ) (answer : PreparedNumbers) (buffer buffer-after : List ℕ) : Type 0 where
  pub answers : answer ≡ prepared_numbers (join_answer first second (length buffer))
  pub leaves : buffer-after ≡ join_buffer first second buffer

-- a board's watch from its three numbers
abbrev pub board_watch : (state taken hits : ℕ) → Watch
board_watch g n h = record { state = g; taken = n; hits = h }

-- a watch's numbers, of a call that took and wrote nothing
abbrev pub board_numbers : Watch → HitNumbers
board_numbers x = record { state = x.state; taken = x.taken; hits = x.hits; written = 0; read = 0; refusal = 0; full = 0 }

-- the answer of feeding: the watch, the bytes taken and the hits written in this call, and the ending
abbrev pub hit_numbers : Answer Watch → HitNumbers
hit_numbers f =
    record {
      state = f.watch.state;
      taken = f.watch.taken;
      hits = f.watch.hits;
      written = f.written;
      read = f.taken;
      refusal = ending_refusal f.ending;
      full = ending_full f.ending;
    }

-- what `entries_feed_board` promises of its answer and of what it was lent: feeding's call, in numbers
pub record HitsTold (board : List ℕ) (x : Watch) (before : Lent) (answer : HitNumbers) (after : Lent) : Type 0 where
  pub answers : answer ≡ hit_numbers (feed_call board x before).answer
  pub leaves : after ≡ (feed_call board x before).left
