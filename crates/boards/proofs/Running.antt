-- THE RUN of a board's feeding calls: on the board of accepted codes, with the watch of a text, only 6 and 7 refuse, and each call reads on; so what was told
-- is what separate searches find in the bytes taken. Assumes nothing.
use mathlib.Core.Path.{◌≡◌, refl, sym, ap, ◌∙◌}
use mathlib.Core.Bool.{true}
use mathlib.Core.List.{List, [], ◌∷◌, ◌++◌, map}
use Prim.Native.Nat.{ℕ, zero, suc, ◌<◌}
use native.Mathlib.Omega.{arith}
use lib.Dec.{eqb-suc-zero}
use lib.ListN.{length, take, drop, length-map}
use lib.Seq.{take_at}
use Rattle.words.specs.Words.{in_front}
use Rattle.words.proofs.Tests.{never_both}
use Rattle.runs.specs.Reading.{over, Fed}
use Rattle.runs.specs.Calls.{Outcome, run, unless_refused, called}
use Rattle.runs.proofs.Runs.{run_snoc}
use Rattle.runs.proofs.Texts.{Reads, called_right, run_right}
use Rattle.codes.specs.Refusals.{refused_if, first_refusal}
use Rattle.codes.specs.Codes as codes
use Rattle.codes.specs.Promise.{CodesAccepted}
use Rattle.codes.proofs.Refusals.{codes_accepted}
use Rattle.starts.specs.Starts.{code}
use Rattle.starts.specs.Hits.{Hit, hits_after, hits, places_of}
use Rattle.starts.proofs.States.{state_nil}
use Rattle.starts.proofs.Codes.{none_empty}
use Rattle.starts.proofs.Ends.{reached_nil}
use Rattle.starts.proofs.Hits.{every_hit_map, hits_coded, hits_ordered}
use Rattle.starts.proofs.Separate.{separate}
use Rattle.finder.specs.Machine.{found_after}
use Rattle.finder.specs.Texts.{places}
use Rattle.finder.specs.Entry as finder
use Rattle.finder.specs.Promise.{EntriesCount, PlacesRight}
use Rattle.finder.proofs.Promises.{places_right}
use Rattle.finder.proofs.Entries.{entries_count}
use Rattle.boards.specs.declared.Watch.{Watch}
use Rattle.boards.specs.Board.{cut, accepted, board, named, begins}
use Rattle.boards.specs.Feed.{opened, fit, feeder, feed, watch_of}
use Rattle.boards.specs.Entry.{Lent, room, plain, FeedCall, call_refusal, feed_refusal, call_by, feed_call, paired, told_hits, feeding, feed_run}
use Rattle.boards.specs.Promise.{BoardsAccepted, PrepareMakes, WatchesFit, FeedingRefused}
use Rattle.boards.specs.Runs.{EntriesFind, PreparedFind, SameAsSeparate, RefusesOnly, EntriesAlike, RunsGrow}
use Rattle.boards.proofs.Boards.{accepted_good, board_named, board_begins, prepare_makes}
use Rattle.boards.proofs.Accepting.{boards_accepted, accepted_once, watches_fit, feeding_refused}
use Rattle.boards.proofs.Watching.{reports_text, follows_text, fit_text}

-- TWO LISTS, pair by pair, are the hits whose places and numbers they are
pub paired_back : (hs : List Hit) → paired (map (λ (h : Hit). h.place) hs) (map (λ (h : Hit). h.number) hs) ≡ hs
unfolding paired
paired_back [] = refl
paired_back (h ∷ hs) = ap (λ (l : List Hit). h ∷ l) (paired_back hs)

pub front_back : (f : Hit → ℕ) (hs : List Hit) (a : List ℕ) → take (length hs) (in_front (map f hs) a) ≡ map f hs
unfolding in_front
front_back f hs a = take_at (map f hs) (drop (length (map f hs)) a) (length hs) (length-map hs f)

-- ONE CALL of the entry point, by its refusal: it has answered and told what was fed
record AsFed (f : Fed Watch Hit) (e : FeedCall) : Type 0 where
  watch : e.answer.watch ≡ f.after
  taken : e.answer.taken ≡ f.taken
  told : told_hits e ≡ f.told

as_fed : (n : ℕ) (ws : List (List ℕ)) (x : Watch) (l : Lent) → AsFed (unless_refused n (feed ws l.piece (room l) x) x) (call_by n ws x l)
unfolding unless_refused call_by
as_fed zero ws x l =
    let f : Fed Watch Hit = feed ws l.piece (room l) x in
    record {
      watch = refl;
      taken = refl;
      told = rw (front_back (λ (h : Hit). h.place) f.told l.places, front_back (λ (h : Hit). h.number) f.told l.numbers) (paired_back f.told);
    }
as_fed (suc n) ws x l = simp eqb-suc-zero (record { watch = refl; taken = refl; told = unfold paired in refl })

-- A CALLER'S OWN CALLS
pub runs_grow : RunsGrow
unfolding RunsGrow
runs_grow bs = (
  unfold run in refl,
  λ ls l r a s.
      let q = feed_run bs ls in
      run_snoc (feeding bs) ls l opened
      ∙ ap
      {B = Outcome Watch Hit}
      (λ (e : FeedCall).
      record { after = e.answer.watch; bytes = q.bytes ++ take e.answer.taken l.piece; told = q.told ++ told_hits e })
      (sym s.is),
)

-- THE EMPTY TEXT
opened_of : (ws : List (List ℕ)) → opened ≡ watch_of ws []
unfolding over
opened_of ws = rw (reached_nil ws, state_nil ws) refl

abbrev outcome_of : (ws : List (List ℕ)) → (text : List ℕ) → Outcome Watch Hit
outcome_of ws ts = record { after = watch_of ws ts; bytes = ts; told = hits ws ts }

-- only a call's own refusals are left where the buffer begins with a board and the watch is fit
pub own_refusal : (bs : List ℕ) (x : Watch) (l : Lent) → begins bs ≡ true → fit (named bs) x ≡ true →
    feed_refusal bs x l ≡ call_refusal (length (named bs)) (plain l) x.taken
unfolding feed_refusal refused_if
own_refusal bs x l b f = rw (b, f) (alone (call_refusal (length (named bs)) (plain l) x.taken))
  where
    alone : (n : ℕ) → first_refusal (0 ∷ 0 ∷ n ∷ []) ≡ n
    alone zero = unfold first_refusal in refl
    alone (suc n) = unfold first_refusal in refl

-- the watch of a text is fit for the board of accepted codes
text_fits : (ws : List (List ℕ)) → accepted ws ≡ true → (ts : List ℕ) → fit ws (watch_of ws ts) ≡ true
text_fits ws good = fit_text ws (omega (arith, (accepted_good ws good).codes, length-map ws (λ (w : List ℕ). length w)))

module _ (ws : List (List ℕ)) (rest : List ℕ) (good : accepted ws ≡ true) where
  -- 4 and 5 never come up
  same_refusal : (ts : List ℕ) (l : Lent) → feed_refusal (board ws ++ rest) (watch_of ws ts) l ≡ call_refusal (length ws) (plain l) (length ts)
  same_refusal ts l =
      let is : named (board ws ++ rest) ≡ ws = board_named ws rest in
      own_refusal (board ws ++ rest) (watch_of ws ts) l (board_begins ws rest ∙ good) (rw is (text_fits ws good ts))
      ∙ ap (λ (vs : List (List ℕ)). call_refusal (length vs) (plain l) (length ts)) is

  abbrev answer : (text : List ℕ) → Lent → FeedCall
  answer ts l = feed_call (board ws ++ rest) (watch_of ws ts) l

  call_is : (ts : List ℕ) (l : Lent) →
      let n = call_refusal (length ws) (plain l) (length ts) in
      AsFed (unless_refused n (feed ws l.piece (room l) (watch_of ws ts)) (watch_of ws ts)) (answer ts l)
  unfolding feed_call
  call_is ts l = rw (same_refusal ts l, board_named ws rest) (as_fed (call_refusal (length ws) (plain l) (length ts)) ws (watch_of ws ts) l)

  -- a call reads on from the text so far, and so does a run
  reads : (ts : List ℕ) (l : Lent) →
      Reads (watch_of ws) (hits_after ws) ts (take (answer ts l).answer.taken l.piece) (answer ts l).answer.watch (told_hits (answer ts l))
  unfolding called
  reads ts l =
      let q = call_is ts l in
      rw (q.watch, q.taken, q.told)
      (called_right (watch_of ws) (hits_after ws) (feeder ws) (follows_text ws) (reports_text ws) (λ c x. call_refusal (length ws) c x.taken) (plain l) ts)

  ran : (ls : List Lent) → feed_run (board ws ++ rest) ls ≡ outcome_of ws (feed_run (board ws ++ rest) ls).bytes
  ran ls =
      let entry = feeding (board ws ++ rest) in
      let u = run_right (watch_of ws) (hits_after ws) entry reads ls [] in
      let bs : List ℕ = (run entry ls (watch_of ws [])).bytes in
      rw (opened_of ws) (λ i. record { after = u.state i; bytes = bs; told = u.tells i })

-- A SEPARATE SEARCH for one of accepted codes
module _ (ws : List (List ℕ)) (good : accepted ws ≡ true) where
  pub apart : (j : ℕ) → j < length ws → (ts : List ℕ) → places_of (suc j) (hits ws ts) ≡ places (code ws j) ts
  unfolding BoardsAccepted found_after
  apart j h ts = separate ws (accepted_once ws good) (none_empty ws (λ i l. (((boards_accepted ws).0 good).3 i l).0)) j h ts

  -- a code of an accepted list is accepted alone
  code_accepted : (j : ℕ) → j < length ws → codes.accepted (code ws j) ≡ true
  unfolding BoardsAccepted CodesAccepted
  code_accepted j h = (codes_accepted (code ws j)).1 (((boards_accepted ws).0 good).3 j h)

-- 4 and 5 never come up, and 6 and 7 only under their conditions
only_own : (ws : List (List ℕ)) (rest : List ℕ) (ls : List Lent) → accepted ws ≡ true → RefusesOnly ws (board ws ++ rest) (feed_run (board ws ++ rest) ls)
unfolding FeedingRefused WatchesFit
only_own ws rest ls good l =
    let bs : List ℕ = board ws ++ rest in
    let r : Outcome Watch Hit = feed_run bs ls in
    let after = ap (λ (q : Outcome Watch Hit). q.after) (ran ws rest good ls) in
    let taken : r.after.taken ≡ length r.bytes = ap (λ (x : Watch). x.taken) after in
    let is : named bs ≡ ws = board_named ws rest in
    let on : begins bs ≡ true = board_begins ws rest ∙ good in
    let fits = rw taken at ((watches_fit ws r.after).0 (rw after (text_fits ws good r.bytes))) in
    let told = rw (is, taken) at (feeding_refused bs r.after l) in (
      λ e. never_both on (told.0.0 e),
      λ e. (told.1.0 e).1 fits,
      (λ e. (told.2.0 e).1.1, λ s. told.2.1 (on, (fits, s))),
      (λ e. (told.3.0 e).1.1, λ s. told.3.1 (on, (fits, s))),
      (λ e. (told.4.0 e).1.1, λ s. told.4.1 (on, (fits, s))),
    )

-- THE RUN
pub entries_find : EntriesFind
unfolding EntriesFind
entries_find ws rest ls good =
    let r : Outcome Watch Hit = feed_run (board ws ++ rest) ls in
    let bs : List ℕ = r.bytes in
    let told : r.told ≡ hits ws bs = ap (λ (q : Outcome Watch Hit). q.told) (ran ws rest good ls) in
    let after = ap (λ (q : Outcome Watch Hit). q.after) (ran ws rest good ls) in
    record {
      bytes_are = ap (λ (x : Watch). x.taken) after;
      state_is = ap (λ (x : Watch). x.state) after;
      hits_are = ap (λ (x : Watch). x.hits) after ∙ sym (ap length told);
      told_are = told;
      separate = λ j h. ap (places_of (suc j)) told ∙ apart ws good j h bs;
      ordered = rw told (hits_ordered ws bs);
      coded = rw told (every_hit_map (hits ws bs) (λ h s. (s.some, s.listed)) (hits_coded ws bs));
      fits = rw after (text_fits ws good bs);
      refused = only_own ws rest ls good;
    }

pub prepared_find : PreparedFind
unfolding PreparedFind EntriesFind PrepareMakes
prepared_find lengths bytes a ls none =
    let made = prepare_makes lengths bytes a none in
    rw made.1 (entries_find (cut lengths bytes) (drop (length (board (cut lengths bytes))) a) ls made.0)

pub entries_alike : EntriesAlike
unfolding EntriesAlike
entries_alike ws rest other ls ks good e = ran ws rest good ls ∙ ap (outcome_of ws) e ∙ sym (ran ws other good ks)

-- SEPARATE WATCHES
pub same_as_separate : SameAsSeparate
unfolding SameAsSeparate EntriesFind EntriesCount PlacesRight
same_as_separate ws rest more ls ks j good h e =
    let w : List ℕ = code ws j in
    let u = entries_count w more ks (code_accepted ws good j h) in
    u.places ∙ places_right w (map finder.plain ks) ∙ ap (places w) (sym u.text ∙ e)
    ∙ sym ((entries_find ws rest ls good).separate j h)
