-- The file that is kept, and its descriptor. Assumes nothing.
use mathlib.Core.Path.{◌≡◌, refl, sym, ◌∙◌}
use mathlib.Core.Bool.{false, true≢false}
use mathlib.Core.List.{List}
use Prim.Native.Nat.{ℕ, suc, ◌+◌, ◌^◌, ◌≤◌, ◌<◌}
use native.Mathlib.Omega.{arith}
use lib.ListN.{length}
use Rattle.std.specs.Prelude.{Option, Some, None, Result, Ok, Err, IfOk, is_some}
use Rattle.std.specs.Result.{result_ok}
use Rattle.std.specs.declared.fs.File.{File}
use Rattle.streams.proofs.Answering.{GotBytes, got_bytes}
use Rattle.sweep.specs.declared.files.Disk.{Disk}
use Rattle.sweep.specs.Files.{Asked, Held, Over, Missed, PathOpened, DescriptorRead, longest_path}
use Rattle.sweep.specs.Disk.{kept_of, openings, came_of, no_descriptor, IsOpen, FileOpened, FileRead}

-- WHAT IS READ by a call of the system: the receipts are made where it is called
pub descriptor_read : {E : Type 0} {k at : ℕ} {file : File} (r : Result ℕ E) {b : List ℕ} → IfOk r (λ n. n ≤ length b) →
    ((i c : ℕ) → Held k i c) → ((n : ℕ) → Over k n) → Missed k → DescriptorRead k at file (result_ok r) b
descriptor_read (Ok n) within held over missed =
    record { answered = λ _. record { within = within; bytes = λ i h. held _ _; ends = λ z h. over _ } }
descriptor_read (Err e) within held over missed = record { answered = λ _. missed }

-- ONE MORE OPENING, which failed or not
module _ (path : List ℕ) (d e : Disk) (next : openings e ≡ suc (openings d)) (none : came_of e ≡ 0) where
  pub open_failed : kept_of e ≡ no_descriptor → Asked (openings e) path × Missed (openings e) → FileOpened path d false e
  open_failed shut m =
      record {
        next = next;
        none = none;
        asked = m.0;
        opens = λ t. absurd (true≢false (sym t));
        is_open = λ t. absurd (true≢false (sym t));
        fails = λ _. m.1;
        shut = λ _. shut;
      }

  pub open_answered : (got : Option File) → kept_of e ≡ got → length path ≤ longest_path → PathOpened (openings e) path got → FileOpened path d (is_some got) e
  open_answered (Some f) is short o =
      record {
        next = next;
        none = none;
        asked = o.asked;
        opens = λ _. ((o.opens f refl).0, short);
        is_open = λ _. record { file = f; kept = is };
        fails = λ t. absurd (true≢false t);
        shut = λ t. absurd (true≢false t);
      }
  open_answered None is short o = open_failed is (o.asked, o.fails refl)

-- A READ of the file that is open brought so many bytes
pub file_read : {d e : Disk} {n : ℕ} {b : List ℕ} (file : File) → openings e ≡ openings d → kept_of e ≡ kept_of d → kept_of d ≡ Some file →
    DescriptorRead (openings d) (came_of d) file (Some n) b → (came_of d + n < 2 ^ 64) × (came_of e ≡ came_of d + n) → FileRead d (Some n) e b × IsOpen e
file_read {d} {e} {n} {b} file same still kept r c =
    let g : GotBytes (Held (openings d)) (Over (openings d)) (came_of d) n (came_of e) b =
    got_bytes (r.answered (d.holds file kept)) (record { exact = c.1; fits = λ _. omega (arith, c.0, c.1) }) in
    ((same, record { within = g.within; came = g.moved; ends = g.ends }), record { file = file; kept = still ∙ kept })
