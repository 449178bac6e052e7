-- What the entry points `prepare` and `feed` answer and leave behind, and runs of feeding. Assumes nothing: these are definitions.
use Rattle.std.specs.Prelude.{◌≡◌, not, cond, List, [], ◌∷◌, map, ℕ, zero, suc, ◌+◌, min, ltb, eqb, length, take}
use Rattle.runs.specs.Answers.{Answer as FeedAnswer}
use Rattle.words.specs.Words.{in_front}
use Rattle.runs.specs.Reading.{longest_text, Fed, ending, Refused}
use Rattle.runs.specs.Calls.{Outcome, run, Call}
use Rattle.codes.specs.Refusals.{refused_if, first_refusal, answered, Answer}
use Rattle.starts.specs.Hits.{Hit, hit}
use Rattle.boards.specs.declared.Watch.{Watch}
use Rattle.boards.specs.Board.{cut, codes_refusal, board_room, board, named, begins}
use Rattle.boards.specs.Feed.{opened, fit, feed}

-- PREPARING, from the lengths and the bytes of the codes and the length of the buffer: the refusals of the codes, then 3
unfoldable pub prepare_refusal : (lengths bytes : List ℕ) → (room : ℕ) → ℕ
prepare_refusal ls bs k = first_refusal (codes_refusal ls bs ∷ refused_if 3 (ltb k board_room) ∷ [])

-- the board's length, or the refusal
unfoldable pub prepare_answer : (lengths bytes : List ℕ) → (room : ℕ) → Answer
prepare_answer ls bs k = answered (prepare_refusal ls bs k) (length (board (cut ls bs)))

-- the buffer afterwards: the board in front and no byte behind it changed; as it was if refused
unfoldable pub prepare_buffer : (lengths bytes buffer : List ℕ) → List ℕ
prepare_buffer ls bs a = cond (eqb (prepare_refusal ls bs (length a)) 0) (in_front (board (cut ls bs)) a) a

-- what `prepare` promises, its contract
pub record PrepareSays (lengths bytes : List ℕ) (answer : Answer) (before after : List ℕ) : Type 0 where
  pub answers : answer ≡ prepare_answer lengths bytes (length before)
  pub leaves : after ≡ prepare_buffer lengths bytes before

-- WHAT A FEEDING CALL IS LENT: a piece of text, and lists for the places and the codes' numbers of its hits
pub record Lent : Type 0 where
  pub piece : List ℕ
  pub places : List ℕ
  pub numbers : List ℕ

abbrev pub lent : (piece places numbers : List ℕ) → Lent
lent cs a b = record { piece = cs; places = a; numbers = b }

-- as many hits have room as the shorter list has spots
unfoldable pub room : Lent → ℕ
room l = min (length l.places) (length l.numbers)

-- A CALL: what it answers, and what was lent to it as it leaves that
pub record FeedCall : Type 0 where
  pub answer : FeedAnswer Watch
  pub left : Lent

-- what refuses a call of a board of k codes after n bytes: 6, 7
unfoldable pub call_refusal : (k : ℕ) → Call → (n : ℕ) → ℕ
call_refusal k c n = first_refusal (refused_if 6 (ltb c.room k) ∷ refused_if 7 (ltb longest_text (n + length c.piece)) ∷ [])

-- what is lent, as a reader sees it
abbrev pub plain : Lent → Call
plain l = record { piece = l.piece; room = room l }

-- REFUSALS: 4, 5, then those two
unfoldable pub feed_refusal : (buffer : List ℕ) → Watch → Lent → ℕ
feed_refusal bs x l =
    first_refusal (
    refused_if 4 (not (begins bs))
    ∷ refused_if 5 (not (fit (named bs) x))
    ∷ call_refusal (length (named bs)) (plain l) x.taken
    ∷ [])

-- a call that is not refused: what was fed; place and number of each hit stand at the same spot in front of the two lists, and the rest of them is as it was
abbrev pub fed_call : (ws : List (List ℕ)) → Fed Watch Hit → Lent → FeedCall
fed_call ws f l =
    record {
      answer = record { watch = f.after; taken = f.taken; written = length f.told; ending = ending (length ws) l.piece (room l) f };
      left = lent l.piece (in_front (map (λ (h : Hit). h.place) f.told) l.places) (in_front (map (λ (h : Hit). h.number) f.told) l.numbers);
    }

-- one that is: the watch and all that was lent are as they were
abbrev pub refused_call : (number : ℕ) → Watch → Lent → FeedCall
refused_call n x l = record { answer = record { watch = x; taken = 0; written = 0; ending = Refused n }; left = l }

unfoldable pub call_by : (refusal : ℕ) → (ws : List (List ℕ)) → Watch → Lent → FeedCall
call_by zero ws x l = fed_call ws (feed ws l.piece (room l) x) l
call_by (suc n) ws x l = refused_call (suc n) x l

unfoldable pub feed_call : (buffer : List ℕ) → Watch → Lent → FeedCall
feed_call bs x l = call_by (feed_refusal bs x l) (named bs) x l

-- what `feed` promises, its contract: the call is that one
pub record FeedSays (buffer : List ℕ) (x : Watch) (before : Lent) (answer : FeedAnswer Watch) (after : Lent) : Type 0 where
  pub is : record { answer = answer; left = after } ≡ feed_call buffer x before

-- A RUN from an opening on: every call gets the buffer and the watch answered before. Told is what each call wrote: the spots of the two lists, pair by pair
unfoldable pub paired : (places numbers : List ℕ) → List Hit
paired [] ns = []
paired (p ∷ ps) [] = []
paired (p ∷ ps) (n ∷ ns) = hit p n ∷ paired ps ns

abbrev pub told_hits : FeedCall → List Hit
told_hits e = paired (take e.answer.written e.left.places) (take e.answer.written e.left.numbers)

abbrev pub feeding : (buffer : List ℕ) → Lent → Watch → Outcome Watch Hit
feeding bs l x = let e = feed_call bs x l in record { after = e.answer.watch; bytes = take e.answer.taken l.piece; told = told_hits e }

abbrev pub feed_run : (buffer : List ℕ) → List Lent → Outcome Watch Hit
feed_run bs ls = run (feeding bs) ls opened
