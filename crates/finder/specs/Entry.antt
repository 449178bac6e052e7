-- What the entry point `feed` answers and leaves behind, and runs of it. Assumes nothing: these are definitions.
use Rattle.std.specs.Prelude.{◌≡◌, not, List, [], ◌∷◌, ℕ, zero, suc, ◌+◌, ltb, eqb, length, take}
use Rattle.words.specs.Words.{in_front}
use Rattle.runs.specs.Reading.{longest_text, Fed, ending, ending_refusal, Refused}
use Rattle.runs.specs.Answers.{Answer}
use Rattle.runs.specs.Calls.{Outcome, run, Call}
use Rattle.codes.specs.Refusals.{refused_if, first_refusal}
use Rattle.sheets.specs.Sheet.{named, begins}
use Rattle.finder.specs.declared.Watch.{Watch}
use Rattle.finder.specs.Feed.{opened, fit, spots, feed}

-- WHAT A CALL IS LENT: a piece of text, and a list for its places
pub record Lent : Type 0 where
  pub piece : List ℕ
  pub list : List ℕ

abbrev pub lent : (piece list : List ℕ) → Lent
lent cs a = record { piece = cs; list = a }

-- A CALL: what it answers, and what was lent to it as it leaves that
pub record FeedCall : Type 0 where
  pub answer : Answer Watch
  pub left : Lent

-- REFUSALS, from the buffer, the watch, and the lengths of the piece and of the list: 4, 5, 6, 7
unfoldable pub feed_refusal : (buffer : List ℕ) → Watch → (piece room : ℕ) → ℕ
feed_refusal bs x l k =
    first_refusal (
    refused_if 4 (not (begins bs))
    ∷ refused_if 5 (not (fit (length (named bs)) x))
    ∷ refused_if 6 (eqb k 0)
    ∷ refused_if 7 (ltb longest_text (x.taken + l))
    ∷ [])

-- a call that is not refused: what was fed; the places are in front of the list, and the rest of it is as it was
abbrev pub fed_call : Fed Watch ℕ → Lent → FeedCall
fed_call f l =
    record {
      answer = record { watch = f.after; taken = f.taken; written = length f.told; ending = ending spots l.piece (length l.list) f };
      left = lent l.piece (in_front f.told l.list);
    }

-- one that is: the watch and all that was lent are as they were
abbrev pub refused_call : (number : ℕ) → Watch → Lent → FeedCall
refused_call n x l = record { answer = record { watch = x; taken = 0; written = 0; ending = Refused n }; left = l }

unfoldable pub call_by : (refusal : ℕ) → (w : List ℕ) → Watch → Lent → FeedCall
call_by zero w x l = fed_call (feed w l.piece (length l.list) x) l
call_by (suc n) w x l = refused_call (suc n) x l

unfoldable pub feed_call : (buffer : List ℕ) → Watch → Lent → FeedCall
feed_call bs x l = call_by (feed_refusal bs x (length l.piece) (length l.list)) (named bs) x l

-- what `feed` promises, its contract: the call is that one
pub record FeedSays (buffer : List ℕ) (x : Watch) (before : Lent) (answer : Answer Watch) (after : Lent) : Type 0 where
  pub is : record { answer = answer; left = after } ≡ feed_call buffer x before

-- A RUN from an opening on: every call gets the buffer and the watch answered before. Told is a part of each call: the places that it wrote, or its
-- refusal, 0 for none
abbrev pub feeding : (part : FeedCall → List ℕ) → (buffer : List ℕ) → Lent → Watch → Outcome Watch ℕ
feeding f bs l x = let e = feed_call bs x l in record { after = e.answer.watch; bytes = take e.answer.taken l.piece; told = f e }

abbrev pub feed_run : (part : FeedCall → List ℕ) → (buffer : List ℕ) → List Lent → Outcome Watch ℕ
feed_run f bs ls = run (feeding f bs) ls opened

abbrev pub told_places : FeedCall → List ℕ
told_places e = take e.answer.written e.left.list

abbrev pub told_refusal : FeedCall → List ℕ
told_refusal e = ending_refusal e.answer.ending ∷ []

-- what is lent, as the plain machine sees it
abbrev pub plain : Lent → Call
plain l = record { piece = l.piece; room = length l.list }
