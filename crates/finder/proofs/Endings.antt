-- What an answer's ending says, and that feeding goes on. Assumes nothing.
use mathlib.Core.Path.{◌≡◌, refl, sym, ap, ◌∙◌}
use mathlib.Core.Bool.{false, not}
use mathlib.Core.List.{List, [], ◌++◌}
use Prim.Native.Nat.{ℕ, zero, suc, ◌≤◌, ◌<◌}
use native.Mathlib.Omega.{arith}
use borrow.Author.Tests.{not-false}
use lib.ListN.{length, drop}
use Rattle.words.specs.Words.{in_front}
use Rattle.words.proofs.Tests.{by_test, never_both}
use Rattle.runs.specs.Reading.{Fed, fed, ending_refusal, ending_full, PieceDone}
use Rattle.runs.proofs.Feeds.{feed_end, takes_some, told_room, ending_none, ending_done, full_says, done_says}
use Rattle.codes.specs.Codes.{has_control}
use Rattle.sheets.specs.Sheet.{sheet, named, begins}
use Rattle.sheets.specs.Promise.{BeginsRight}
use Rattle.sheets.proofs.Sheets.{begins_accepted, begins_front, sheet_begins, begins_right}
use Rattle.finder.specs.declared.Watch.{Watch}
use Rattle.finder.specs.Feed.{feeder, feed}
use Rattle.finder.specs.Entry.{Lent, lent, feed_refusal, fed_call, call_by, feed_call}
use Rattle.finder.specs.Promise.{EndingsTold, SheetsTold, FeedingGoesOn}
use Rattle.finder.proofs.Places.{reported_one}
use Rattle.finder.proofs.Refusing.{refuses_4, never_4, none_room}

-- THE ENDING by the refusal
endings_by : (n : ℕ) (w : List ℕ) (x : Watch) (l : Lent) → let r = (call_by n w x l).answer in
    (ending_refusal r.ending ≡ n)
    × (ending_full r.ending ≡ 1 → (r.written ≡ length l.list) × (r.taken < length l.piece))
    × (ending_refusal r.ending ≡ 0 → ending_full r.ending ≡ 0 → r.taken ≡ length l.piece)
unfolding call_by
endings_by zero w x l =
    let cs : List ℕ = l.piece in
    let k : ℕ = length l.list in
    let f : Fed Watch ℕ = feed w cs k x in (
      ending_none 1 cs k f,
      λ e. let q = full_says 1 cs k f e in (omega (arith, q.0, told_room (feeder w) (reported_one w) cs k x), q.1),
      λ z. done_says (feeder w) cs k x,
    )
endings_by (suc n) w x l = (refl, λ e. absurd (omega arith), λ z e. absurd (omega (arith, z)))

pub endings_told : EndingsTold
unfolding EndingsTold feed_call
endings_told bs x l = endings_by (feed_refusal bs x (length l.piece) (length l.list)) (named bs) x l

-- NUMBER 4
module _ (x : Watch) (l : Lent) (bs : List ℕ) where
  abbrev number : ℕ
  number = ending_refusal (feed_call bs x l).answer.ending

  four_not_sheet : number ≡ 4 → begins bs ≡ false
  unfolding EndingsTold
  four_not_sheet e =
      by_test (begins bs)
      (λ b. absurd (never_4 bs x (length l.piece) (length l.list) b (sym (endings_told bs x l).0 ∙ e)))
      (λ b. b)

  not_sheet_four : begins bs ≡ false → number ≡ 4
  unfolding EndingsTold
  not_sheet_four b = (endings_told bs x l).0 ∙ refuses_4 bs x (length l.piece) (length l.list) b

pub sheets_told : SheetsTold
unfolding SheetsTold BeginsRight in_front
sheets_told x l = (
  λ bs. (
    λ e w rest good is. never_both (rw is (sheet_begins w rest good)) (four_not_sheet x l bs e),
    λ f.
        not_sheet_four x l bs
        (by_test (begins bs)
        (λ b. absurd (f (named bs) (drop (length (sheet (named bs))) bs) (begins_accepted bs b) (begins_front bs b)))
        (λ b. b)),
  ),
  λ w rest some few.
      let is : begins (sheet w ++ rest) ≡ not (has_control w) = (begins_right.0 w rest some few).1 in (
        λ e. not-false (has_control w) (sym is ∙ four_not_sheet x l (sheet w ++ rest) e),
        λ e. not_sheet_four x l (sheet w ++ rest) (is ∙ ap not e),
      ),
)

-- AN EMPTY PIECE
empty_changes : (w a : List ℕ) (x : Watch) →
    let e = fed_call (feed w [] (length a) x) (lent [] a) in
    (e.answer ≡ record { watch = x; taken = 0; written = 0; ending = PieceDone }) × (e.left ≡ lent [] a)
unfolding in_front
empty_changes w a x =
    rw (feed_end (feeder w) (length a) x, ending_done {A = ℕ} 1 [] (length a) (fed x 0 []) (omega arith)) (refl, refl)

pub feeding_goes_on : FeedingGoesOn
unfolding FeedingGoesOn feed_call call_by
feeding_goes_on bs x l none =
    let some : 1 ≤ length l.list = none_room bs x (length l.piece) (length l.list) none in
    rw none (
      λ h. takes_some (feeder (named bs)) l.piece (length l.list) x h some,
      λ e. rw e (empty_changes (named bs) l.list x),
    )
