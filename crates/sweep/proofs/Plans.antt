-- THE FILE of a path, from a look at it: what was searched of it, and that it was read right. Assumes nothing.
use mathlib.Core.Path.{◌≡◌, refl, sym, ap, ◌∙◌}
use mathlib.Core.Bool.{Bool, true, false, cond, true≢false}
use mathlib.Core.List.{List, [], ◌++◌}
use Prim.Native.Nat.{ℕ, suc, ◌≤◌, ◌<◌, min}
use native.Mathlib.Omega.{arith}
use lib.ListN.{length, take, length-append, length-take}
use lib.Seq.{take_all}
use Rattle.words.proofs.Tests.{by_le}
use Rattle.runs.specs.Reading.{longest_text}
use Rattle.starts.specs.Hits.{Hit, hits}
use Rattle.boards.specs.declared.Watch.{Watch}
use Rattle.boards.specs.Feed.{opened}
use Rattle.boards.specs.Entry.{room}
use Rattle.boards.specs.Promise.{BoardsAccepted}
use Rattle.boards.specs.Runs.{RunFound, EntriesFind}
use Rattle.boards.proofs.Accepting.{boards_accepted}
use Rattle.boards.proofs.Running.{entries_find}
use Rattle.std.specs.Prelude.{Result, Ok}
use Rattle.streams.specs.declared.NotComplete.{NotComplete}
use Rattle.sweep.specs.declared.look.End.{End}
use Rattle.sweep.specs.declared.look.End.TheVariants.{Whole, Unread}
use Rattle.sweep.specs.declared.look.Reader.{Reader}
use Rattle.sweep.specs.Forms.{hit_forms, unread_form}
use Rattle.sweep.specs.Files.{Missed, longest_path}
use Rattle.sweep.specs.Disk.{openings, came_of}
use Rattle.sweep.specs.Looking.{OnBoard, Goes, RefusedPart, piece_most, PathLooked}
use Rattle.sweep.specs.Swept.{Plan, CameOf, AskedFor, Right, file_form, is_whole}

-- CALLS from an opening on are a run of the board, so they have found what is to be found in the bytes that they took
module _ {ws : List (List ℕ)} {buffer : List ℕ} (on : OnBoard ws buffer) {bytes : List ℕ} {told : List Hit} {y : Watch}
    (g : Goes buffer opened bytes told y) where
  pub goes_found : RunFound ws buffer (record { after = y; bytes = bytes; told = told })
  unfolding EntriesFind
  goes_found = rw g.is at (rw (← on.is) at (entries_find ws on.rest g.calls on.good))

  pub goes_told : told ≡ hits ws bytes
  goes_told = goes_found.told_are

  pub goes_taken : y.taken ≡ length bytes
  goes_taken = goes_found.bytes_are

  pub goes_hits : y.hits ≡ length (hits ws bytes)
  goes_hits = goes_found.hits_are ∙ ap length goes_told

  -- and a part that is refused is one with which they would take too many
  refused_long : {left : List ℕ} → RefusedPart buffer y left → longest_text < length (bytes ++ left)
  unfolding BoardsAccepted room
  refused_long {left} r =
      let few : length ws ≤ 64 = ((boards_accepted ws).0 on.good).1 in
      let piece : length r.call.piece ≡ length left = ap length r.piece in
      let spots : 64 ≤ min (length r.call.places) (length r.call.numbers) = r.spots in
      by_le (length (bytes ++ left)) longest_text
      (λ (h : length (bytes ++ left) ≤ longest_text).
      absurd (r.refused ((goes_found.refused r.call).4.1 ((omega arith, omega arith), omega (arith, length-append bytes left)))))
      (λ h. h)

  unread_reason : (k : ℕ) (left : List ℕ) (missed : Bool) →
      cond missed (Missed k × (left ≡ [])) (RefusedPart buffer y left × (length left ≤ piece_most)) →
      cond missed (Missed k × (left ≡ [])) ((longest_text < length (bytes ++ left)) × (length left ≤ piece_most))
  unread_reason k left true m = m
  unread_reason k left false r = (refused_long r.0, r.1)

-- A NAME that is kept and can be opened is kept whole
kept_whole : {name kept : List ℕ} → kept ≡ take (suc longest_path) name → length kept ≤ longest_path → kept ≡ name
kept_whole {name} {kept} k h =
    let size : length kept ≡ min (suc longest_path) (length name) = ap (λ (l : List ℕ). length l) k ∙ length-take (suc longest_path) name in
    k ∙ take_all (suc longest_path) name (omega arith)

-- THE FILE of a name after a look at it
abbrev pub plan_of : {buffer : List ℕ} {file : ℕ} {x : Watch} {path : List ℕ} {s : Reader} {r : Result End NotComplete} {y : Watch} {t : Reader} →
    (name : List ℕ) (whole : Bool) → PathLooked buffer file x path s r y t → Plan
plan_of name whole p = record { path = name; text = p.bytes; whole = whole }

module _ {ws : List (List ℕ)} {buffer : List ℕ} (on : OnBoard ws buffer) (name : List ℕ) {path : List ℕ} (kept : path ≡ take (suc longest_path) name)
    {file : ℕ} {s : Reader} {y : Watch} {t : Reader} where
  module _ {r : Result End NotComplete} (whole : Bool) (p : PathLooked buffer file opened path s r y t) where
    abbrev pub plan_came : CameOf (openings t.disk) (plan_of name whole p)
    plan_came = record { left = p.left; after = came_of t.disk; came = p.came }

    pub plan_asked : AskedFor (openings t.disk) (plan_of name whole p)
    plan_asked = rw kept at p.asked

    -- what is printed for it is what the look says, and then whether it is unread
    pub plan_form : file_form ws file (plan_of name whole p) ≡ hit_forms file p.told ++ cond whole [] (unread_form file)
    unfolding file_form
    plan_form = ap (λ (hs : List Hit). hit_forms file hs ++ cond whole [] (unread_form file)) (sym (goes_told on p.goes))

  pub plan_right : (end : End) (p : PathLooked buffer file opened path s (Ok end) y t) → Right (openings t.disk) (plan_of name (is_whole end) p)
  plan_right Whole p =
      record {
        asked = plan_asked true p;
        held = plan_came true p;
        whole = λ _. let f = p.whole refl in (rw (kept_whole kept f.1) at f.0, f.2, f.3);
        unread = λ e. absurd (true≢false e);
      }
  plan_right Unread p =
      record {
        asked = plan_asked false p;
        held = plan_came false p;
        whole = λ e. absurd (true≢false (sym e));
        unread = λ _. let u = p.unread refl in record { missed = u.missed; why = unread_reason on p.goes _ _ u.missed u.why };
      }
