-- What an answer's ending says, that feeding goes on, and where number 4 comes up. Assumes nothing.
use mathlib.Core.Path.{◌≡◌, refl, sym, ap, ◌∙◌}
use mathlib.Core.Bool.{false}
use mathlib.Core.List.{List, [], ◌++◌}
use Prim.Native.Nat.{ℕ, zero, suc, ◌+◌, ◌≤◌, ◌<◌, min}
use native.Mathlib.Omega.{arith}
use borrow.Author.Tests.{ltb-false}
use lib.Dec.{ltb}
use lib.ListN.{length, take, drop}
use Rattle.words.specs.Words.{in_front}
use Rattle.words.proofs.Tests.{fails, never_both}
use Rattle.runs.specs.Reading.{Fed, fed, ending_refusal, ending_full, PieceDone}
use Rattle.runs.proofs.Feeds.{feed_end, takes_some, spots_before, told_room, ending_none, ending_done, full_says, done_says}
use Rattle.codes.proofs.Refusals.{none_of, not_refused}
use Rattle.starts.specs.Hits.{Hit}
use Rattle.boards.specs.declared.Watch.{Watch}
use Rattle.boards.specs.Board.{board, named, begins}
use Rattle.boards.specs.Feed.{feeder, feed}
use Rattle.boards.specs.Entry.{Lent, room, call_refusal, feed_refusal, fed_call, call_by, feed_call}
use Rattle.boards.specs.Promise.{BoardsTold, FeedingRefused}
use Rattle.boards.specs.Runs.{EndingsTold, StopsInTime, BehindUnread, FeedingGoesOn}
use Rattle.boards.proofs.Boards.{board_named, board_begins, begins_accepted, begins_front}
use Rattle.boards.proofs.Accepting.{feeding_refused}
use Rattle.boards.proofs.Watching.{reported_few}

-- THE ENDING by the refusal
endings_by : (n : ℕ) (ws : List (List ℕ)) (x : Watch) (l : Lent) → let r = (call_by n ws x l).answer in
    (r.written ≤ room l)
    × (ending_refusal r.ending ≡ n)
    × (ending_full r.ending ≡ 1 → (room l < r.written + length ws) × (r.taken < length l.piece))
    × (ending_refusal r.ending ≡ 0 → ending_full r.ending ≡ 0 → r.taken ≡ length l.piece)
unfolding call_by
endings_by zero ws x l =
    let cs : List ℕ = l.piece in
    let k : ℕ = room l in
    let f : Fed Watch Hit = feed ws cs k x in
    let few : length f.told ≤ k = told_room (feeder ws) (reported_few ws) cs k x in (
      few,
      ending_none (length ws) cs k f,
      λ e. let q = full_says (length ws) cs k f e in (omega (arith, q.0, few), q.1),
      λ z. done_says (feeder ws) cs k x,
    )
endings_by (suc n) ws x l = (omega arith, refl, λ e. absurd (omega arith), λ z e. absurd (omega (arith, z)))

pub endings_told : EndingsTold
unfolding EndingsTold feed_call
endings_told bs x l = endings_by (feed_refusal bs x l) (named bs) x l

-- NUMBER 4
module _ (bs : List ℕ) (x : Watch) (l : Lent) where
  abbrev number : ℕ
  number = ending_refusal (feed_call bs x l).answer.ending

  four_not_board : number ≡ 4 → begins bs ≡ false
  unfolding EndingsTold FeedingRefused
  four_not_board e = (feeding_refused bs x l).0.0 (sym (endings_told bs x l).1 ∙ e)

  not_board_four : begins bs ≡ false → number ≡ 4
  unfolding EndingsTold FeedingRefused
  not_board_four b = (endings_told bs x l).1 ∙ (feeding_refused bs x l).0.1 b

pub boards_told : BoardsTold
unfolding BoardsTold in_front
boards_told x l = (
  λ bs. (
    λ e ws rest good is. never_both (rw is (board_begins ws rest ∙ good)) (four_not_board bs x l e),
    λ f.
        not_board_four bs x l
        (fails (begins bs) (λ b. f (named bs) (drop (length (board (named bs))) bs) (begins_accepted bs b) (begins_front bs b))),
  ),
  λ ws rest. (
    λ e. sym (board_begins ws rest) ∙ four_not_board (board ws ++ rest) x l e,
    λ e. not_board_four (board ws ++ rest) x l (board_begins ws rest ∙ e),
  ),
)

-- STOPPING IN TIME: a refused call takes no byte
stops_by : (n : ℕ) (ws : List (List ℕ)) (x : Watch) (l : Lent) (i : ℕ) → i < (call_by n ws x l).answer.taken →
    length (feed ws (take i l.piece) (room l) x).told + length ws ≤ room l
unfolding call_by
stops_by zero ws x l i h = omega (arith, spots_before (feeder ws) (reported_few ws) l.piece (room l) x i h)
stops_by (suc n) ws x l i h = absurd (omega arith)

pub stops_in_time : StopsInTime
unfolding StopsInTime feed_call room
stops_in_time bs x l i h =
    let ws : List (List ℕ) = named bs in
    let n : ℕ = length (feed ws (take i l.piece) (min (length l.places) (length l.numbers)) x).told in
    let free : n + length ws ≤ min (length l.places) (length l.numbers) = stops_by (feed_refusal bs x l) ws x l i h in
    (omega arith, omega arith)

-- BEHIND THE BOARD: neither the refusal nor the codes depend on it
pub behind_unread : BehindUnread
unfolding BehindUnread feed_call feed_refusal
behind_unread ws rest other x l =
    simp (board_begins ws rest, board_begins ws other, board_named ws rest, board_named ws other) refl

-- FEEDING GOES ON: where nothing is refused there is room, and an empty piece changes nothing
none_room : (bs : List ℕ) (x : Watch) (l : Lent) → feed_refusal bs x l ≡ 0 → length (named bs) ≤ room l
unfolding feed_refusal call_refusal
none_room bs x l e =
    ltb-false (room l) (length (named bs)) (not_refused 5 (ltb (room l) (length (named bs))) (none_of _ (none_of _ e).1.1.0).0)

empty_changes : (ws : List (List ℕ)) (x : Watch) (l : Lent) → l.piece ≡ [] →
    let c = fed_call ws (feed ws l.piece (room l) x) l in
    (c.answer ≡ record { watch = x; taken = 0; written = 0; ending = PieceDone }) × (c.left ≡ l)
unfolding in_front
empty_changes ws x l e =
    let none : feed ws l.piece (room l) x ≡ fed x 0 [] = ap (λ (cs : List ℕ). feed ws cs (room l) x) e ∙ feed_end (feeder ws) (room l) x in
    rw (none, ending_done {A = Hit} (length ws) l.piece (room l) (fed x 0 []) (omega (arith, ap length e))) (refl, refl)

pub feeding_goes_on : FeedingGoesOn
unfolding FeedingGoesOn feed_call call_by
feeding_goes_on bs x l none =
    let some : length (named bs) ≤ room l = none_room bs x l none in
    rw none (
      λ h. takes_some (feeder (named bs)) l.piece (room l) x h some,
      λ e. empty_changes (named bs) x l e,
    )
