-- Calls of feeding, one after another, and a part of a piece. Assumes nothing.
use mathlib.Core.Path.{◌≡◌, refl, sym, ap, ◌∙◌}
use mathlib.Core.Bool.{true≢false}
use mathlib.Core.List.{List, [], ◌∷◌, ◌++◌}
use mathlib.Core.Logic.{◌≢◌}
use Prim.Native.Nat.{ℕ, ◌*◌, ◌≤◌, zero-le}
use native.Mathlib.Omega.{arith}
use lib.ListN.{length, take}
use lib.Seq.{length-take-le}
use Rattle.std.specs.Prelude.{Option, Some, None, Result, Ok, Err, IsErr}
use Rattle.runs.specs.Reading.{Ended, PieceDone, ListFull, Refused, ending_refusal, ending_full}
use Rattle.runs.specs.declared.Ending.{Ending}
use Rattle.runs.specs.declared.Ending.TheVariants as variants
use Rattle.runs.specs.Answers.{Answer, ended}
use Rattle.runs.specs.Calls.{Outcome, run}
use Rattle.runs.proofs.Runs.{run_one, run_append}
use Rattle.starts.specs.Hits.{Hit}
use Rattle.boards.specs.declared.Watch.{Watch}
use Rattle.boards.specs.Board.{most_codes}
use Rattle.boards.specs.Entry.{Lent, room, paired, FeedCall, feed_refusal, feed_call, told_hits, feeding, FeedSays}
use Rattle.boards.specs.Runs.{EndingsTold, FeedingGoesOn, HitsReadBack, RefusedUnchanged}
use Rattle.boards.proofs.Endings.{endings_told, feeding_goes_on}
use Rattle.boards.proofs.Calls.{hits_read_back, refused_unchanged}
use Rattle.streams.specs.declared.NotComplete.{NotComplete}
use Rattle.sweep.specs.declared.says.Printer.{Printer}
use Rattle.sweep.specs.Forms.{hit_forms}
use Rattle.sweep.specs.Saying.{Says}
use Rattle.sweep.specs.Looking.{Goes, PartTaken}
use Rattle.sweep.proofs.Saying.{says_none, says_ok}

-- NO CALL, and CALLS AFTER OTHERS
pub goes_none : (buffer : List ℕ) (x : Watch) → Goes buffer x [] [] x
unfolding run
goes_none buffer x = record { calls = []; is = refl }

pub goes_join : {buffer : List ℕ} {x y z : Watch} {bs cs : List ℕ} {hs is : List Hit} →
    Goes buffer x bs hs y → Goes buffer y cs is z → Goes buffer x (bs ++ cs) (hs ++ is) z
goes_join {buffer} {x} {y} {z} {bs} {cs} {hs} {is} f g =
    record { calls = f.calls ++ g.calls; is = run_append (feeding buffer) f.calls g.calls x ∙ rw (f.is, g.is) refl }

-- an ending says that the list is full or not
by_full : {G : Type 0} (e : Ended) → (ending_full e ≡ 1 → G) → (ending_full e ≡ 0 → G) → G
by_full PieceDone f g = g refl
by_full ListFull f g = f refl
by_full (Refused n) f g = g refl

-- nor does one of a call that was not refused say so
pub ended_none : (e : Ending) → ending_refusal (ended e) ≡ 0
ended_none variants.PieceDone = refl
ended_none variants.ListFull = refl

-- ONE CALL
module _ {buffer : List ℕ} {x : Watch} {l : Lent} {r : Answer Watch} {a : Lent} (f : FeedSays buffer x l r a) where
  abbrev told_by : List Hit
  told_by = paired (take r.written a.places) (take r.written a.numbers)

  answer_is : r ≡ (feed_call buffer x l).answer
  answer_is = ap (λ (e : FeedCall). e.answer) f.is

  left_is : a ≡ (feed_call buffer x l).left
  left_is = ap (λ (e : FeedCall). e.left) f.is

  pub call_refused_by : ending_refusal r.ending ≡ feed_refusal buffer x l
  unfolding EndingsTold
  call_refused_by = ap (λ (q : Answer Watch). ending_refusal q.ending) answer_is ∙ (endings_told buffer x l).1

  goes_call : Goes buffer x (take r.taken l.piece) told_by r.watch
  goes_call =
      record {
        calls = l ∷ [];
        is =
            run_one (feeding buffer) l x
            ∙ ap
            {B = Outcome Watch Hit}
            (λ (e : FeedCall). record { after = e.answer.watch; bytes = take e.answer.taken l.piece; told = told_hits e })
            (sym f.is);
      }

  -- REFUSED: nothing is taken or told, and the watch is as it was
  pub part_refused : (file : ℕ) (p : Printer) → most_codes ≤ room l → ending_refusal r.ending ≢ 0 → PartTaken buffer file x l.piece p (Ok None) r.watch p
  unfolding RefusedUnchanged hit_forms
  part_refused file p spots n =
      let m : feed_refusal buffer x l ≢ 0 = rw call_refused_by at n in
      let same : r.watch ≡ x = ap (λ (q : Answer Watch). q.watch) (answer_is ∙ (refused_unchanged buffer x l m).0) in
      record {
        taken = 0;
        told = [];
        within = zero-le;
        goes = rw same (goes_none buffer x);
        says = says_none p;
        some = λ k e. absurd (cc);
        refused = λ _. record { call = l; piece = refl; spots = spots; refused = rw same m };
      }

  -- NOT REFUSED: so many hits as the lists have spots at most
  module _ (none : ending_refusal r.ending ≡ 0) where
    not_refused : feed_refusal buffer x l ≡ 0
    not_refused = sym call_refused_by ∙ none

    pub written_in_room : r.written ≤ room l
    unfolding EndingsTold
    written_in_room = rw answer_is (endings_told buffer x l).0

    pub places_long : length a.places ≡ length l.places
    unfolding HitsReadBack
    places_long = ap (λ (k : Lent). length k.places) left_is ∙ (hits_read_back buffer x l not_refused).4

    pub numbers_long : length a.numbers ≡ length l.numbers
    unfolding HitsReadBack
    numbers_long = ap (λ (k : Lent). length k.numbers) left_is ∙ (hits_read_back buffer x l not_refused).5

    pub written_both : (r.written ≤ length a.places) × (r.written ≤ length a.numbers)
    unfolding room
    written_both = let h = written_in_room in (omega (arith, h, places_long), omega (arith, h, numbers_long))

    -- the two fronts have as many hits, and room for their forms
    pub fronts_fit : (n : ℕ) → 49 * length l.places ≤ n →
        (length (take r.written a.places) ≤ length (take r.written a.numbers)) × (49 * length (take r.written a.places) ≤ n)
    fronts_fit n h =
        let p : length (take r.written a.places) ≡ r.written = length-take-le r.written a.places written_both.0 in
        let q : length (take r.written a.numbers) ≡ r.written = length-take-le r.written a.numbers written_both.1 in
        (omega arith, omega (arith, written_both.0, places_long))

    taken_within : r.taken ≤ length l.piece
    unfolding EndingsTold
    taken_within =
        let e = (feed_call buffer x l).answer in
        let t = endings_told buffer x l in
        rw answer_is
        (by_full e.ending (λ f. omega (arith, (t.2 f).1)) (λ f. omega (arith, t.3 (t.1 ∙ not_refused) f)))

    -- its hits are said, or a write failed
    pub part_fed : {p q : Printer} {file : ℕ} {u : Unit {0}} → Says p (hit_forms file told_by) (Ok u) q →
        PartTaken buffer file x l.piece p (Ok (Some r.taken)) r.watch q
    unfolding FeedingGoesOn
    part_fed s =
        record {
          taken = r.taken;
          told = told_by;
          within = taken_within;
          goes = goes_call;
          says = says_ok s;
          some = λ k e. (cc, λ n. rw answer_is ((feeding_goes_on buffer x l not_refused).0 n));
          refused = λ e. absurd (cc);
        }

    pub part_stopped : {p q : Printer} {file : ℕ} {e : NotComplete} (s : Result (Option ℕ) NotComplete) → IsErr s →
        Says {A = Unit {0}} p (hit_forms file told_by) (Err e) q → PartTaken buffer file x l.piece p s r.watch q
    part_stopped (Ok k) i f = absurd (true≢false (sym i))
    part_stopped (Err d) i f =
        record {
          taken = r.taken;
          told = told_by;
          within = taken_within;
          goes = goes_call;
          says = record { says = f.says };
          some = λ k e. absurd (cc);
          refused = λ e. absurd (cc);
        }
