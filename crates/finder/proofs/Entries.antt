-- A run of the entry point is a run of plain calls: on the sheet of an accepted code, with the watch of a text, only 6 and 7 refuse. Assumes nothing.
use mathlib.Core.Path.{◌≡◌, refl, sym, ap, ◌∙◌}
use mathlib.Core.Bool.{true}
use mathlib.Core.List.{List, [], ◌∷◌, ◌++◌, map}
use Prim.Native.Nat.{ℕ, zero, suc, ◌≤◌, zero-le}
use native.Mathlib.Omega.{arith}
use lib.Dec.{eqb-suc-zero}
use lib.ListN.{length, take, drop, length-append}
use lib.Seq.{take-append_seam}
use Rattle.words.specs.Words.{in_front}
use Rattle.runs.specs.Reading.{Fed, ending_refusal}
use Rattle.runs.specs.Answers.{Answer}
use Rattle.runs.specs.Calls.{Outcome, run, Call, unless_refused, called}
use Rattle.runs.proofs.Feeds.{ending_none}
use Rattle.runs.proofs.Runs.{run_snoc}
use Rattle.codes.specs.Refusals.{refused_if, first_refusal}
use Rattle.codes.specs.Codes.{accepted}
use Rattle.codes.proofs.Refusals.{accepted_bounds}
use Rattle.sheets.specs.Sheet.{sheet, named}
use Rattle.sheets.specs.Promise.{PrepareMakes}
use Rattle.sheets.proofs.Sheets.{sheet_named, sheet_begins}
use Rattle.sheets.proofs.Entries.{prepare_makes}
use Rattle.finder.specs.declared.Watch.{Watch}
use Rattle.finder.specs.Feed.{opened, feed}
use Rattle.finder.specs.Machine.{call_refusal, machine_call, machine_refusals}
use Rattle.finder.specs.Texts.{watch_of}
use Rattle.finder.specs.Entry.{Lent, FeedCall, feed_refusal, call_by, feed_call, FeedSays, feeding, feed_run, told_places, told_refusal, plain}
use Rattle.finder.specs.Promise.{BehindUnread, RunsGrow, EntriesCount, PreparedCount, EntriesAlike}
use Rattle.finder.proofs.Places.{places_stand_in}
use Rattle.finder.proofs.Texts.{machine_of, opened_of, machine_start_of, WatchReads, call_read, machine_call_read}
use Rattle.finder.proofs.Promises.{counted_of, Opened, run_opened, counted, watch_is, text_is, told_is, found_is, alike}

-- ONE CALL of the entry point, by its refusal: it has answered and left what was fed
pub record AsFed (n : ℕ) (f : Fed Watch ℕ) (e : FeedCall) : Type 0 where
  pub watch : e.answer.watch ≡ f.after
  pub taken : e.answer.taken ≡ f.taken
  pub told : take e.answer.written e.left.list ≡ f.told
  pub fits : e.answer.written ≤ length e.left.list
  pub refusal : ending_refusal e.answer.ending ≡ n

as_fed : (n : ℕ) (w : List ℕ) (x : Watch) (l : Lent) → AsFed n (unless_refused n (feed w l.piece (length l.list) x) x) (call_by n w x l)
unfolding unless_refused call_by in_front
as_fed zero w x l =
    let f : Fed Watch ℕ = feed w l.piece (length l.list) x in
    let rest : List ℕ = drop (length f.told) l.list in
    record {
      watch = refl;
      taken = refl;
      told = take-append_seam f.told rest;
      fits = omega (arith, length-append f.told rest);
      refusal = ending_none 1 l.piece (length l.list) f;
    }
as_fed (suc n) w x l = simp eqb-suc-zero (record { watch = refl; taken = refl; told = refl; fits = zero-le; refusal = refl })

pub says_fed : {bs : List ℕ} {x : Watch} {l : Lent} {r : Answer Watch} {a : Lent} → FeedSays bs x l r a →
    let n = feed_refusal bs x (length l.piece) (length l.list) in
    AsFed n (unless_refused n (feed (named bs) l.piece (length l.list) x) x) (record { answer = r; left = a })
unfolding feed_call
says_fed {bs} {x} {l} s = rw s.is (as_fed (feed_refusal bs x (length l.piece) (length l.list)) (named bs) x l)

-- A CALLER'S OWN CALLS
pub runs_grow : RunsGrow
unfolding RunsGrow
runs_grow f bs = (
  unfold run in refl,
  λ ls l r a s.
      let q = feed_run f bs ls in
      run_snoc (feeding f bs) ls l opened
      ∙ ap
      {B = Outcome Watch ℕ}
      (λ (e : FeedCall).
      record { after = e.answer.watch; bytes = q.bytes ++ take e.answer.taken l.piece; told = q.told ++ f e })
      (sym s.is),
)

module _ (w rest : List ℕ) (good : accepted w ≡ true) where
  code_named : named (sheet w ++ rest) ≡ w
  code_named = sheet_named w rest (accepted_bounds w good).0

  -- 4 and 5 never come up
  pub same_refusal : (c : Call) (ts : List ℕ) →
      feed_refusal (sheet w ++ rest) (watch_of w ts) (length c.piece) c.room ≡ call_refusal c (length ts)
  unfolding feed_refusal call_refusal first_refusal refused_if
  same_refusal c ts = rw (sheet_begins w rest good, code_named, (counted_of w ts (accepted_bounds w good).0).fits)

  abbrev answer : (text : List ℕ) → Lent → FeedCall
  answer ts l = feed_call (sheet w ++ rest) (watch_of w ts) l

  abbrev bytes : (text : List ℕ) → Lent → List ℕ
  bytes ts l = take (answer ts l).answer.taken l.piece

  call_is : (ts : List ℕ) (l : Lent) →
      let n = call_refusal (plain l) (length ts) in
      AsFed n (unless_refused n (feed w l.piece (length l.list) (watch_of w ts)) (watch_of w ts)) (answer ts l)
  unfolding feed_call
  call_is ts l = rw (same_refusal (plain l) ts, code_named) (as_fed (call_refusal (plain l) (length ts)) w (watch_of w ts) l)

  reads : (ts : List ℕ) (l : Lent) → WatchReads w ts (bytes ts l) (answer ts l).answer.watch (told_places (answer ts l))
  unfolding called
  reads ts l = let q = call_is ts l in rw (q.watch, q.taken, q.told) (call_read w ts (plain l))

  goes : (ts : List ℕ) (l : Lent) → machine_call w (plain l) (machine_of w ts) ≡ machine_of w (ts ++ bytes ts l)
  unfolding called
  goes ts l = rw (call_is ts l).taken (machine_call_read w ts (plain l))

  pub entries : (ls : List Lent) → Opened w (feeding told_places (sheet w ++ rest)) plain ls
  entries = run_opened w (feeding told_places (sheet w ++ rest)) plain reads goes

  -- the refusals are the machine's
  refuses_from : (ls : List Lent) (ts : List ℕ) →
      (run (feeding told_refusal (sheet w ++ rest)) ls (watch_of w ts)).told ≡ machine_refusals w (map plain ls) (machine_of w ts)
  unfolding run machine_refusals
  refuses_from [] ts = refl
  refuses_from (l ∷ ls) ts =
      rw (goes ts l, (reads ts l).state, (call_is ts l).refusal)
      (ap (λ (ns : List ℕ). call_refusal (plain l) (length ts) ∷ ns) (refuses_from ls (ts ++ bytes ts l)))

pub entries_count : EntriesCount
unfolding EntriesCount
entries_count w rest ls good =
    let o = entries w rest good ls in
    let some : 1 ≤ length w = (accepted_bounds w good).0 in
    let stand = places_stand_in w (feed_run told_places (sheet w ++ rest) ls).bytes some in
    record {
      refused = rw (opened_of w, machine_start_of w) (refuses_from w rest good ls []);
      counted = counted o some;
      watch = watch_is o;
      text = text_is o;
      places = found_is o;
      rise = rw (told_is o) stand.0;
      stand = rw (told_is o) stand.1;
    }

pub prepared_count : PreparedCount
unfolding PreparedCount EntriesCount PrepareMakes
prepared_count w a ls none =
    let made = prepare_makes w a none in
    rw made.1 (entries_count w (drop (length (sheet w)) a) ls made.0)

pub entries_alike : EntriesAlike
unfolding EntriesAlike
entries_alike w rest other ls ks good e = alike (entries w rest good ls) (entries w other good ks) e

-- BEHIND THE SHEET: neither the refusal nor the code depends on it
pub behind_unread : BehindUnread
unfolding BehindUnread feed_call feed_refusal
behind_unread w rest other x l good =
    simp (sheet_begins w rest good, sheet_begins w other good, code_named w rest good, code_named w other good) refl
