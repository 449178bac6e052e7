-- The promises about runs: the watch and the machine after any run are those of the bytes taken. Assumes nothing.
use mathlib.Core.Path.{◌≡◌, refl, sym, ap, ◌∙◌}
use mathlib.Core.List.{List, [], ◌∷◌, ◌++◌, append-nil, append_assoc, map, map-id}
use Prim.Native.Nat.{ℕ, ◌*◌, ◌≤◌}
use lib.ListN.{length}
use borrow.Author.Tests.{le-leb}
use Rattle.words.proofs.Largest.{state_is, state_read}
use Rattle.runs.specs.Calls.{Outcome, run, Call}
use Rattle.runs.proofs.Texts.{run_right}
use Rattle.automaton.specs.Costs.{costs, sum}
use Rattle.automaton.specs.Promise.{CostsBelow}
use Rattle.automaton.proofs.Costs.{costs_below, costs_twice}
use Rattle.finder.specs.declared.Watch.{Watch}
use Rattle.finder.specs.Feed.{opened}
use Rattle.finder.specs.Machine.{Machine, found_after, machine_call, machine_after}
use Rattle.finder.specs.Texts.{places, watch_of}
use Rattle.finder.specs.Promise.{Counted, machine_run, RunsCount, TextTaken, AlikeCount, PlacesTold, PlacesRight, PlacesStand}
use Rattle.finder.proofs.Fitness.{fit_compares}
use Rattle.finder.proofs.Places.{few_places, places_stand_in}
use Rattle.finder.proofs.Texts.{machine_of, opened_of, machine_start_of, WatchReads, plain_call, call_read, machine_call_read}

-- THE WATCH AND THE MACHINE OF A TEXT have all that the third demand asks
pub counted_of : (w ts : List ℕ) → 1 ≤ length w → Counted w (watch_of w ts) (machine_of w ts)
unfolding CostsBelow
counted_of w ts some =
    let c = costs_below w ts some in
    record {
      bytes = refl;
      state = refl;
      hits = refl;
      compares = refl;
      adds = refl;
      each_below = c.0;
      total_below = c.1;
      fits =
          sym (fit_compares (length w) (watch_of w ts) (state_is w ts).bound (state_read w ts) (few_places w ts))
          ∙ le-leb (sum (costs w ts)) (2 * length ts) (costs_twice w some ts);
    }

-- A RUN from an opening on, of any entry point, and the plain machine beside it: both have come to the bytes taken
abbrev outcome_of : (w text : List ℕ) → Outcome Watch ℕ
outcome_of w ts = record { after = watch_of w ts; bytes = ts; told = places w ts }

pub record Opened (w : List ℕ) {C : Type 0} (entry : C → Watch → Outcome Watch ℕ) (plain : C → Call) (cs : List C) : Type 0 where
  pub ran : run entry cs opened ≡ outcome_of w (run entry cs opened).bytes
  pub machine : machine_run w (map plain cs) ≡ machine_of w (run entry cs opened).bytes

-- where each call does with the watch of a text what a plain one does
module _
    (w : List ℕ) {C : Type 0} (entry : C → Watch → Outcome Watch ℕ) (plain : C → Call)
    (reads : (ts : List ℕ) (c : C) → let e = entry c (watch_of w ts) in WatchReads w ts e.bytes e.after e.told)
    (goes : (ts : List ℕ) (c : C) → machine_call w (plain c) (machine_of w ts) ≡ machine_of w (ts ++ (entry c (watch_of w ts)).bytes)) where
  machine_runs : (cs : List C) (ts : List ℕ) →
      machine_after w (map plain cs) (machine_of w ts) ≡ machine_of w (ts ++ (run entry cs (watch_of w ts)).bytes)
  unfolding machine_after run
  machine_runs [] ts = rw append-nil refl
  machine_runs (c ∷ cs) ts =
      let bs : List ℕ = (entry c (watch_of w ts)).bytes in
      let all : (x : Watch) → List ℕ = λ x. (run entry cs x).bytes in
      ap (machine_after w (map plain cs)) (goes ts c) ∙ machine_runs cs (ts ++ bs)
      ∙ ap (machine_of w) (append_assoc ts bs (all (watch_of w (ts ++ bs))) ∙ ap (λ (x : Watch). ts ++ (bs ++ all x)) (sym (reads ts c).state))

  pub run_opened : (cs : List C) → Opened w entry plain cs
  run_opened cs =
      let u = run_right (watch_of w) (found_after w) entry reads cs [] in
      let bs : List ℕ = (run entry cs (watch_of w [])).bytes in
      record {
        ran = rw (opened_of w) (λ i. record { after = u.state i; bytes = bs; told = u.tells i });
        machine = rw (opened_of w) (ap (machine_after w (map plain cs)) (machine_start_of w) ∙ machine_runs cs []);
      }

-- what follows of the bytes taken: the third demand, the second, and that nothing else counts
module _ {w : List ℕ} {C : Type 0} {entry : C → Watch → Outcome Watch ℕ} {plain : C → Call} {cs : List C} (o : Opened w entry plain cs) where
  pub watch_is : (run entry cs opened).after ≡ watch_of w (run entry cs opened).bytes
  watch_is = ap (λ (r : Outcome Watch ℕ). r.after) o.ran

  pub counted : 1 ≤ length w → Counted w (run entry cs opened).after (machine_run w (map plain cs))
  counted some = rw (watch_is, o.machine) (counted_of w (run entry cs opened).bytes some)

  pub text_is : (run entry cs opened).bytes ≡ (machine_run w (map plain cs)).text
  text_is = sym (ap (λ (m : Machine). m.text) o.machine)

  pub told_is : (run entry cs opened).told ≡ places w (run entry cs opened).bytes
  told_is = ap (λ (r : Outcome Watch ℕ). r.told) o.ran

  pub found_is : (run entry cs opened).told ≡ (machine_run w (map plain cs)).found
  found_is = told_is ∙ sym (ap (λ (m : Machine). m.found) o.machine)

pub alike : {w : List ℕ} {C : Type 0} {p q : C → Watch → Outcome Watch ℕ} {plain : C → Call} {cs ds : List C} →
    Opened w p plain cs → Opened w q plain ds → (run p cs opened).bytes ≡ (run q ds opened).bytes → run p cs opened ≡ run q ds opened
alike {w} o u e = o.ran ∙ ap (outcome_of w) e ∙ sym u.ran

-- THE PROMISES about plain calls
calls : (w : List ℕ) (cs : List Call) → Opened w (plain_call w) (λ c. c) cs
calls w cs = run_opened w (plain_call w) (λ c. c) (call_read w) (machine_call_read w) cs

pub runs_count : RunsCount
unfolding RunsCount
runs_count w cs some = rw (map-id cs) at (counted (calls w cs) some)

pub text_taken : TextTaken
unfolding TextTaken
text_taken w cs = rw (map-id cs) at (sym (text_is (calls w cs)))

pub alike_count : AlikeCount
unfolding AlikeCount
alike_count w cs ds e = alike (calls w cs) (calls w ds) e

pub places_told : PlacesTold
unfolding PlacesTold
places_told w cs = rw (map-id cs) at (found_is (calls w cs))

pub places_right : PlacesRight
unfolding PlacesRight PlacesTold TextTaken
places_right w cs = sym (places_told w cs) ∙ told_is (calls w cs) ∙ ap (places w) (sym (text_taken w cs))

pub places_stand : PlacesStand
unfolding PlacesStand PlacesRight
places_stand w cs some = rw (places_right w cs) (places_stand_in w (machine_run w cs).text some)
