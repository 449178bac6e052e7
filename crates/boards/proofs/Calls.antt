-- One feeding call: what it wrote is read back from the two lists, and a refused one changes nothing. Assumes nothing.
use mathlib.Core.Path.{◌≡◌, refl, ap, ◌∙◌}
use mathlib.Core.List.{List, map}
use mathlib.Core.Logic.{◌≢◌}
use Prim.Native.Nat.{ℕ, zero, suc, ◌≤◌}
use native.Mathlib.Omega.{arith}
use lib.ListN.{length, drop, length-append, length-drop, length-map}
use lib.Seq.{drop_at}
use Rattle.runs.specs.Reading.{Refused}
use Rattle.words.specs.Words.{in_front}
use Rattle.runs.proofs.Feeds.{told_room}
use Rattle.starts.specs.Hits.{Hit}
use Rattle.boards.specs.declared.Watch.{Watch}
use Rattle.boards.specs.Board.{named}
use Rattle.boards.specs.Feed.{feeder, feed}
use Rattle.boards.specs.Entry.{Lent, room, feed_refusal, call_by, feed_call, told_hits}
use Rattle.boards.specs.Runs.{HitsReadBack, RefusedUnchanged}
use Rattle.boards.proofs.Watching.{reported_few}
use Rattle.boards.proofs.Running.{paired_back, front_back}

-- A LIST WITH NUMBERS OF HITS IN FRONT: behind them it is as it was, and so is its length, if they fit
module _ (f : Hit → ℕ) (hs : List Hit) (a : List ℕ) where
  front_behind : drop (length hs) (in_front (map f hs) a) ≡ drop (length hs) a
  unfolding in_front
  front_behind =
      drop_at (map f hs) (drop (length (map f hs)) a) (length hs) (length-map hs f) ∙ ap (λ (k : ℕ). drop k a) (length-map hs f)

  front_length : length hs ≤ length a → length (in_front (map f hs) a) ≡ length a
  unfolding in_front
  front_length h =
      let n : ℕ = length (map f hs) in
      omega (arith, length-append (map f hs) (drop n a), length-drop n a, length-map hs f)

-- what has room fits into both lists
room_fits : (l : Lent) (n : ℕ) → n ≤ room l → (n ≤ length l.places) × (n ≤ length l.numbers)
unfolding room
room_fits l n h = (omega arith, omega arith)

-- THE CALL by its refusal
read_by : (n : ℕ) → n ≡ 0 → (ws : List (List ℕ)) (x : Watch) (l : Lent) →
    let e = call_by n ws x l in
    let told = (feed ws l.piece (room l) x).told in
    (e.answer.written ≡ length told)
    × (told_hits e ≡ told)
    × (drop e.answer.written e.left.places ≡ drop e.answer.written l.places)
    × (drop e.answer.written e.left.numbers ≡ drop e.answer.written l.numbers)
    × (length e.left.places ≡ length l.places)
    × (length e.left.numbers ≡ length l.numbers)
    × (e.left.piece ≡ l.piece)
unfolding call_by
read_by zero z ws x l =
    let told : List Hit = (feed ws l.piece (room l) x).told in
    let fits = room_fits l (length told) (told_room (feeder ws) (reported_few ws) l.piece (room l) x) in (
      refl,
      rw (front_back (λ (h : Hit). h.place) told l.places, front_back (λ (h : Hit). h.number) told l.numbers) (paired_back told),
      front_behind (λ (h : Hit). h.place) told l.places,
      front_behind (λ (h : Hit). h.number) told l.numbers,
      front_length (λ (h : Hit). h.place) told l.places fits.0,
      front_length (λ (h : Hit). h.number) told l.numbers fits.1,
      refl,
    )
read_by (suc n) z ws x l = absurd (omega (arith, z))

refused_by : (n : ℕ) → n ≢ 0 → (ws : List (List ℕ)) (x : Watch) (l : Lent) →
    let e = call_by n ws x l in (e.answer ≡ record { watch = x; taken = 0; written = 0; ending = Refused n }) × (e.left ≡ l)
unfolding call_by
refused_by zero h ws x l = absurd (h refl)
refused_by (suc n) h ws x l = (refl, refl)

pub hits_read_back : HitsReadBack
unfolding HitsReadBack feed_call
hits_read_back bs x l none = read_by (feed_refusal bs x l) none (named bs) x l

pub refused_unchanged : RefusedUnchanged
unfolding RefusedUnchanged feed_call
refused_unchanged bs x l some = refused_by (feed_refusal bs x l) some (named bs) x l
