-- A look at a file: what each read leads to, and one after another. Assumes nothing.
use mathlib.Core.Path.{◌≡◌, refl, sym, ap, subst, ◌∙◌}
use mathlib.Core.Bool.{Bool, true, false, true≢false}
use mathlib.Core.List.{List, [], ◌++◌, append-nil, append_assoc}
use mathlib.Core.Logic.{◌≢◌}
use Prim.Native.Nat.{ℕ, ◌-◌, ◌^◌, ◌≤◌, ◌<◌}
use native.Mathlib.Omega.{arith}
use lib.ListN.{length, take, length-append}
use lib.Seq.{length-take-le}
use Rattle.std.specs.Prelude.{Some, None, Result, Ok, Err, IsErr, is_err}
use Rattle.starts.specs.Hits.{Hit}
use Rattle.boards.specs.declared.Watch.{Watch}
use Rattle.streams.specs.declared.NotComplete.{NotComplete}
use Rattle.streams.specs.Receipts.{Moved}
use Rattle.streams.proofs.Moving.{moved_none, moved_join}
use Rattle.sweep.specs.declared.files.Disk.{Disk}
use Rattle.sweep.specs.declared.look.End.{End}
use Rattle.sweep.specs.declared.look.End.TheVariants.{Whole, Unread}
use Rattle.sweep.specs.declared.look.Spots.{Spots}
use Rattle.sweep.specs.declared.look.Reader.{Reader}
use Rattle.sweep.specs.declared.says.Printer.{Printer}
use Rattle.sweep.specs.Forms.{hit_forms}
use Rattle.sweep.specs.Files.{Held, Over}
use Rattle.sweep.specs.Disk.{openings, came_of, FileOpened, FileRead}
use Rattle.sweep.specs.Saying.{Says}
use Rattle.sweep.specs.Looking.{Goes, piece_most, PieceTaken, Looked, PathLooked}
use Rattle.sweep.proofs.Saying.{says_none, says_ok, says_err, says_join}
use Rattle.sweep.proofs.Wording.{hits_append}
use Rattle.sweep.proofs.Parts.{goes_none, goes_join}

-- SO FAR: bytes came, were taken, and their hits said
pub record LookedTo (buffer : List ℕ) (file : ℕ) (x : Watch) (s : Reader) (y : Watch) (t : Reader) : Type 0 where
  pub bytes : List ℕ
  pub told : List Hit
  pub same : openings t.disk ≡ openings s.disk
  pub goes : Goes buffer x bytes told y
  pub came : Moved (Held (openings s.disk)) (came_of s.disk) (came_of t.disk) bytes
  pub says : Says s.printer (hit_forms file told) (Ok (tt {0})) t.printer

pub look_none : (buffer : List ℕ) (file : ℕ) (x : Watch) (s : Reader) → LookedTo buffer file x s x s
unfolding hit_forms
look_none buffer file x s =
    record {
      bytes = [];
      told = [];
      same = refl;
      goes = goes_none buffer x;
      came = moved_none (Held (openings s.disk)) (came_of s.disk);
      says = says_none s.printer;
    }

abbrev reader : Disk → List ℕ → Spots → Printer → Reader
reader d b c p = record { disk = d; piece = b; spots = c; printer = p }

-- ONE READ: the read failed, the file has ended, or a piece came
module _ {buffer : List ℕ} {file : ℕ} {x : Watch} {s : Reader} {y : Watch} {t : Reader} (f : LookedTo buffer file x s y t) {e : Disk} {b : List ℕ} where
  pub look_failed : {c : Spots} → FileRead t.disk None e b → Looked buffer file x s (Ok Unread) y (reader e b c t.printer)
  look_failed r =
      record {
        bytes = f.bytes;
        left = [];
        told = f.told;
        same = r.0 ∙ f.same;
        goes = f.goes;
        came = rw (append-nil f.bytes, r.1) f.came;
        says = says_ok f.says;
        whole = λ w. absurd (cc);
        unread = λ _. record { missed = true; why = (rw f.same at r.2, refl) };
      }

  module _ {k : ℕ} (r : FileRead t.disk (Some k) e b) where
    came_more : Moved (Held (openings s.disk)) (came_of s.disk) (came_of e) (f.bytes ++ take k b)
    came_more = moved_join f.came (subst (λ (n : ℕ). Moved (Held n) (came_of t.disk) (came_of e) (take k b)) f.same r.1.came)

    pub look_ended : {c : Spots} → k ≡ 0 → 1 ≤ length b → Looked buffer file x s (Ok Whole) y (reader e b c t.printer)
    look_ended z h =
        record {
          bytes = f.bytes;
          left = [];
          told = f.told;
          same = r.0 ∙ f.same;
          goes = f.goes;
          came = rw z at came_more;
          says = says_ok f.says;
          whole = λ _. (refl, rw f.same at (r.1.ends z h));
          unread = λ u. absurd (cc);
        }

    -- a turn counts bytes that came
    pub fewer_to_read : k ≢ 0 → 2 ^ 64 - came_of e < 2 ^ 64 - came_of t.disk
    fewer_to_read n =
        let long : length (take k b) ≡ k = length-take-le k b r.1.within in
        let fits : came_of e < 2 ^ 64 = r.1.came.counted.fits (omega (arith, n)) in
        omega (arith, n, r.1.came.counted.exact)

    module _ {z : Watch} {q : Printer} {u : Result Bool NotComplete} (p : PieceTaken buffer file y (take k b) t.printer u z q) where
      abbrev told : List Hit
      told = f.told ++ p.told

      came_parts : Moved (Held (openings s.disk)) (came_of s.disk) (came_of e) (f.bytes ++ p.bytes ++ p.left)
      came_parts = rw (append_assoc f.bytes p.bytes p.left, p.whole) came_more

      says_more : Says s.printer (hit_forms file told) u q
      says_more = rw (hits_append file f.told p.told) (says_join f.says p.says)

      -- what is left of a piece is not more than the piece
      short : length b ≡ piece_most → length p.left ≤ piece_most
      short most =
          let all : length (p.bytes ++ p.left) ≡ length (take k b) = ap (λ (l : List ℕ). length l) p.whole in
          omega (arith, most, r.1.within, length-append p.bytes p.left, length-take-le k b r.1.within)

      left_behind : {c : Spots} (v : Result End NotComplete) → Says s.printer (hit_forms file told) v q → (v ≡ Ok Whole → ⊥) → (v ≡ Ok Unread → u ≡ Ok false) →
          length b ≡ piece_most → Looked buffer file x s v z (reader e b c q)
      left_behind v w n d most =
          record {
            bytes = f.bytes ++ p.bytes;
            left = p.left;
            told = told;
            same = r.0 ∙ f.same;
            goes = goes_join f.goes p.goes;
            came = came_parts;
            says = w;
            whole = λ h. absurd (n h);
            unread = λ h. record { missed = false; why = (p.refused (d h), short most) };
          }

    pub look_on : {c : Spots} {z : Watch} {q : Printer} → PieceTaken buffer file y (take k b) t.printer (Ok true) z q →
        LookedTo buffer file x s z (reader e b c q)
    look_on p =
        record {
          bytes = f.bytes ++ p.bytes;
          told = told p;
          same = r.0 ∙ f.same;
          goes = goes_join f.goes p.goes;
          came = rw (p.all refl, append-nil) at (came_parts p);
          says = says_ok (says_more p);
        }

    pub look_refused : {c : Spots} {z : Watch} {q : Printer} → PieceTaken buffer file y (take k b) t.printer (Ok false) z q → length b ≡ piece_most →
        Looked buffer file x s (Ok Unread) z (reader e b c q)
    look_refused p most = left_behind p (Ok Unread) (says_ok (says_more p)) (λ h. cc) (λ _. refl) most

    pub look_stopped : {c : Spots} {z : Watch} {q : Printer} {d : NotComplete} (v : Result End NotComplete) → IsErr v →
        PieceTaken buffer file y (take k b) t.printer (Err d) z q → length b ≡ piece_most → Looked buffer file x s v z (reader e b c q)
    look_stopped v i p most = left_behind p v (says_err v i (says_more p)) (λ h. not_ok h) (λ h. absurd (not_ok h)) most
      where
        not_ok : {o : End} → v ≡ Ok o → ⊥
        not_ok h = true≢false (sym i ∙ ap (λ (w : Result End NotComplete). is_err w) h)

-- THE FILE OF A PATH: it was not opened, or it was looked at
module _ {buffer : List ℕ} {file : ℕ} {x : Watch} {path : List ℕ} {s : Reader} {e : Disk} {b : List ℕ} {c : Spots} {opened : Bool}
    (f : FileOpened path s.disk opened e) where
  pub path_missed : opened ≡ false → PathLooked buffer file x path s (Ok Unread) x (reader e b c s.printer)
  unfolding hit_forms
  path_missed t =
      record {
        bytes = [];
        left = [];
        told = [];
        next = f.next;
        asked = f.asked;
        goes = goes_none buffer x;
        came = rw f.none (moved_none (Held (openings e)) 0);
        says = says_none s.printer;
        whole = λ w. absurd (cc);
        unread = λ _. record { missed = true; why = (f.fails t, refl) };
      }

  pub path_looked : opened ≡ true → {r : Result End NotComplete} {y : Watch} {t : Reader} → Looked buffer file x (reader e b c s.printer) r y t →
      PathLooked buffer file x path s r y t
  path_looked o {y = y} {t} g =
      let opened-as = f.opens o in
      record {
        bytes = g.bytes;
        left = g.left;
        told = g.told;
        next = g.same ∙ f.next;
        asked = rw g.same f.asked;
        goes = g.goes;
        came =
            subst (λ (n : ℕ). Moved (Held n) 0 (came_of t.disk) (g.bytes ++ g.left)) (sym g.same)
            (subst (λ (n : ℕ). Moved (Held (openings e)) n (came_of t.disk) (g.bytes ++ g.left)) f.none g.came);
        says = g.says;
        whole = λ w. (rw g.same opened-as.0, opened-as.1, (g.whole w).0, subst (λ (n : ℕ). Over n (came_of t.disk)) (sym g.same) (g.whole w).1);
        unread = λ w. rw g.same (g.unread w);
      }
