-- The list, block by block, and the end of the sweep. Assumes nothing.
use mathlib.Core.Path.{◌≡◌, refl, sym, ap, ◌∙◌}
use mathlib.Core.Bool.{true, false, true≢false}
use mathlib.Core.List.{List, [], ◌∷◌, ◌++◌, append-nil}
use mathlib.Core.Logic.{◌≢◌}
use Prim.Native.Nat.{ℕ, suc, ◌-◌, ◌^◌, ◌≤◌, ◌<◌, min}
use native.Mathlib.Omega.{arith}
use lib.ListN.{length, take, length-take}
use lib.Seq.{length-take-le, take_all}
use Rattle.std.specs.Prelude.{Result, Ok, Err, IsErr, OnOk}
use Rattle.streams.specs.declared.NotComplete.{NotComplete}
use Rattle.streams.specs.Receipts.{Came, Ended, Sent, Told, Moved}
use Rattle.streams.specs.Streams.{DoneOrTold, Brought}
use Rattle.streams.proofs.Moving.{moved_none, moved_join}
use Rattle.sweep.specs.declared.says.Printer.{Printer}
use Rattle.sweep.specs.declared.list.Sweep.{Sweep}
use Rattle.sweep.specs.Forms.{total_form}
use Rattle.sweep.specs.Files.{longest_path}
use Rattle.sweep.specs.Saying.{Said, Cut, Says}
use Rattle.sweep.specs.Swept.{listing, AllNamed, AllRight, files_form, unread_in, bytes_in, hits_in, sweep_form}
use Rattle.sweep.specs.Swept.{sent_of, IsNew, Swept, Stopped, ListedOn}
use Rattle.sweep.specs.Program.{Listed, Finished, ListSwept, ListStopped, Sweeps}
use Rattle.sweep.proofs.Saying.{says_join}
use Rattle.sweep.proofs.Stopping.{swept_stopped}
use Rattle.sweep.proofs.Sweeping.{none_listed, listed_join, stopped_listed}

-- SO FAR: bytes of the list came, and the sweep has come further by these
pub record ListedTo (buffer : List ℕ) (s : Sweep) (at : ℕ) (t : Sweep) (after : ℕ) : Type 0 where
  pub bytes : List ℕ
  pub came : Moved Came at after bytes
  pub listed : ListedOn buffer bytes s (Ok (tt {0})) t

pub list_started : (buffer : List ℕ) (s : Sweep) (at : ℕ) → ListedTo buffer s at s at
list_started buffer s at = record { bytes = []; came = moved_none Came at; listed = none_listed buffer s }

-- A BLOCK is read: the read failed, the list has ended, or some bytes of it came
module _ {buffer : List ℕ} {s : Sweep} {at : ℕ} {q : Sweep} {mid : ℕ} (f : ListedTo buffer s at q mid) where
  pub list_failed : {after : ℕ} (r : Result (Unit {0}) NotComplete) → IsErr r → Told × (after ≡ mid) → Listed buffer s at r q after
  list_failed (Ok x) i t = absurd (true≢false (sym i))
  list_failed (Err x) i t =
      record {
        bytes = f.bytes;
        came = rw t.1 f.came;
        ends = tt;
        listed = rw (append-nil f.bytes) at (listed_join f.listed (stopped_listed buffer [] q (Err x) refl t.0));
      }

  module _ {full n after : ℕ} {block : List ℕ} (b : Brought full mid n after block) where
    came_more : Moved Came at after (f.bytes ++ take n block)
    came_more = moved_join f.came b.came

    pub list_ended : n ≡ 0 → 1 ≤ full → Listed buffer s at (Ok (tt {0})) q after
    list_ended z h =
        record { bytes = f.bytes; came = rw (z, append-nil) at came_more; ends = b.ends (omega arith); listed = f.listed }

    pub list_turned : {t : Sweep} → ListedOn buffer (take n block) q (Ok (tt {0})) t → ListedTo buffer s at t after
    list_turned g = record { bytes = f.bytes ++ take n block; came = came_more; listed = listed_join f.listed g }

    pub fewer_to_list : n ≢ 0 → 2 ^ 64 - after < 2 ^ 64 - mid
    fewer_to_list z =
        let long : length (take n block) ≡ n = length-take-le n block b.within in
        let fits : after < 2 ^ 64 = b.came.counted.fits (omega arith) in
        omega (arith, b.came.counted.exact)

    pub list_stopped : {t : Sweep} {e : NotComplete} (r : Result (Unit {0}) NotComplete) → IsErr r → ListedOn buffer (take n block) q (Err e) t →
        Listed buffer s at r t after
    list_stopped (Ok x) i g = absurd (true≢false (sym i))
    list_stopped (Err x) i g =
        record { bytes = f.bytes ++ take n block; came = came_more; ends = tt; listed = listed_join f.listed (record { lists = g.lists }) }

-- THE END: the list ended within a path, the end could not be said, or it was said and is to be sent
abbrev total : Sweep → List ℕ
total s = total_form s.counts.files s.counts.unread s.counts.bytes s.counts.hits

pub finished_within : (s : Sweep) (r : Result (Unit {0}) NotComplete) → IsErr r → Told → s.name ≢ [] → Finished s r s
finished_within s r i t n = record { within = λ _. (i, t, refl); says = λ z. absurd (n z); unsaid = λ z. absurd (n z) }

pub finished_unsaid : {s t : Sweep} {e : NotComplete} (r : Result (Unit {0}) NotComplete) → IsErr r → s.name ≡ [] →
    Says {A = Unit {0}} s.reader.printer (total s) (Err e) t.reader.printer → Finished s r t
finished_unsaid (Ok x) i z f = absurd (true≢false (sym i))
finished_unsaid (Err x) i z f = record { within = λ n. absurd (n z); says = λ _. record { says = f.says }; unsaid = λ _. tt }

pub finished_sent : {s : Sweep} {p : Printer} {u : Unit {0}} {r : Result (Unit {0}) NotComplete} {t : Sweep} → s.name ≡ [] →
    Says s.reader.printer (total s) (Ok u) p → Says p [] r t.reader.printer × (t.reader.printer.page ≡ []) → Finished s r t
finished_sent {s} {r = r} z f g =
    record { within = λ n. absurd (n z); says = λ _. rw (append-nil (total s)) at (says_join f g.0); unsaid = λ _. on_ok r g.1 }
  where
    on_ok : {P : Type 0} (v : Result (Unit {0}) NotComplete) → P → OnOk v P
    on_ok (Ok x) p = p
    on_ok (Err x) p = tt

-- THE SWEEP OF THE LIST, from where nothing has come and nothing was sent
first_swept : (ws : List (List ℕ)) (s : Sweep) → IsNew s → Swept ws [] s
unfolding listing AllNamed AllRight files_form unread_in bytes_in hits_in
first_swept ws s n =
    record {
      plans = [];
      name = [];
      listed = refl;
      named = tt;
      clean = tt;
      kept = n.unnamed;
      right = tt;
      files_are = n.no_files;
      unread_are = n.no_unread;
      bytes_are = n.no_bytes;
      hits_are = n.no_hits;
      said = record { front = []; moved = rw n.unsent (moved_none Sent 0); whole = n.ungathered };
    }

-- stopped within the list, and stopped or complete at its end
module _ {ws : List (List ℕ)} where
  stopped_in_list : {at after to : ℕ} {bytes : List ℕ} → Moved Came at after bytes → Stopped ws bytes to → ListStopped ws at after to
  stopped_in_list {bytes = bytes} came t =
      record {
        some = record { bytes = bytes; came = came };
        stopped = record { ended = false; within = λ _. t; behind = λ e. absurd (true≢false (sym e)) };
      }

  module _ {bytes : List ℕ} {s : Sweep} (v : Swept ws bytes s) where
    total_is : files_form ws 0 v.plans ++ total s ≡ sweep_form ws v.plans
    unfolding sweep_form
    total_is = rw (v.files_are, v.unread_are, v.bytes_are, v.hits_are)

    -- the list ended between two paths: all of it is paths, each with its zero
    end_listed : s.name ≡ [] → bytes ≡ listing v.plans
    end_listed z =
        let size : length s.name ≡ min (suc longest_path) (length v.name) = ap (λ (l : List ℕ). length l) v.kept ∙ length-take (suc longest_path) v.name in
        let empty : length s.name ≡ 0 = ap (λ (l : List ℕ). length l) z in
        let none : length v.name ≤ 0 = omega arith in
        sym v.listed ∙ rw (← take_all 0 v.name none) (append-nil (listing v.plans))

    end_says : {r : Result (Unit {0}) NotComplete} {t : Sweep} → Finished s r t → s.name ≡ [] →
        DoneOrTold r (λ _. Said t.reader.printer (sweep_form ws v.plans)) (Cut (sent_of t) (sweep_form ws v.plans))
    end_says f z = rw total_is at ((f.says z).says (files_form ws 0 v.plans) v.said)

    module _ {at after : ℕ} (came : Moved Came at after bytes) (ended : Ended after) {t : Sweep} where
      end_swept : {u : Unit {0}} → Finished s (Ok u) t → ListSwept ws at after (sent_of t)
      end_swept f =
          by_name s.name refl
        where
          by_name : (n : List ℕ) → s.name ≡ n → ListSwept ws at after (sent_of t)
          by_name [] z =
              let said = end_says f z in
              let out : said.front ≡ sweep_form ws v.plans =
              sym (append-nil said.front) ∙ ap (λ (l : List ℕ). said.front ++ l) (sym (f.unsaid z)) ∙ said.whole in
              record {
                bytes = bytes;
                out = sweep_form ws v.plans;
                came = came;
                ended = ended;
                sent = rw out at said.moved;
                all = record { plans = v.plans; listed = end_listed z; named = v.named; right = v.right; is = refl };
              }
          by_name (x ∷ n) z = absurd (true≢false (sym (f.within (λ e. cc)).0))

      end_stopped : {e : NotComplete} → Finished s (Err e) t → Told × ListStopped ws at after (sent_of t)
      end_stopped f =
          by_name s.name refl
        where
          by_name : (n : List ℕ) → s.name ≡ n → Told × ListStopped ws at after (sent_of t)
          by_name [] z =
              let w = end_says f z in (
                w.0,
                record {
                  some = record { bytes = bytes; came = came };
                  stopped =
                      record {
                        ended = true;
                        within = λ e. absurd (true≢false e);
                        behind = λ _. (ended, record { plans = v.plans; listed = end_listed z; named = v.named; right = v.right; cut = w.1 });
                      };
                },
              )
          by_name (x ∷ n) z =
              let w = f.within (λ e. cc) in
              (w.1, stopped_in_list came (rw (append-nil bytes, ← w.2) at (swept_stopped [] v)))

module _ {buffer : List ℕ} {s : Sweep} {at : ℕ} {q : Sweep} {after : ℕ} where
  pub sweeps_stopped : {e : NotComplete} (r : Result (Unit {0}) NotComplete) → IsErr r → Listed buffer s at (Err e) q after → Sweeps buffer s at r q after
  sweeps_stopped (Ok x) i g = absurd (true≢false (sym i))
  sweeps_stopped (Err x) i g =
      record { sweeps = λ ws on n. let t = g.listed.lists ws [] on (first_swept ws s n) in (t.0, stopped_in_list g.came t.1) }

  pub sweeps_finished : {u : Unit {0}} {t : Sweep} (r : Result (Unit {0}) NotComplete) → Listed buffer s at (Ok u) q after → Finished q r t → Sweeps buffer s at r t after
  sweeps_finished (Ok x) g f = record { sweeps = λ ws on n. end_swept (g.listed.lists ws [] on (first_swept ws s n)) g.came g.ends f }
  sweeps_finished (Err x) g f = record { sweeps = λ ws on n. end_stopped (g.listed.lists ws [] on (first_swept ws s n)) g.came g.ends f }
