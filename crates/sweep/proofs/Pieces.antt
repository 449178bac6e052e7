-- A piece, part by part. Assumes nothing.
use mathlib.Core.Path.{◌≡◌, refl, sym, ap, ◌∙◌}
use mathlib.Core.Bool.{Bool, true, false, true≢false}
use mathlib.Core.List.{List, [], ◌∷◌, ◌++◌, append_assoc}
use mathlib.Core.Logic.{◌≢◌}
use Prim.Native.Nat.{ℕ, ◌-◌, ◌≤◌, ◌<◌}
use native.Mathlib.Omega.{arith}
use lib.ListN.{length, take, drop, length-drop, take-append-drop}
use lib.Seq.{take_all}
use Rattle.std.specs.Prelude.{Option, Some, None, Result, Ok, Err, IsErr, is_err}
use Rattle.starts.specs.Hits.{Hit}
use Rattle.boards.specs.declared.Watch.{Watch}
use Rattle.streams.specs.declared.NotComplete.{NotComplete}
use Rattle.sweep.specs.declared.says.Printer.{Printer}
use Rattle.sweep.specs.Forms.{hit_forms}
use Rattle.sweep.specs.Saying.{Says}
use Rattle.sweep.specs.Looking.{Goes, PartTaken, PieceTaken}
use Rattle.sweep.proofs.Saying.{says_none, says_ok, says_err, says_join}
use Rattle.sweep.proofs.Wording.{hits_append}
use Rattle.sweep.proofs.Parts.{goes_none, goes_join}

-- SO FAR: the first bytes of the piece were taken, and their hits said; the rest is left
pub record TakenTo (buffer : List ℕ) (file : ℕ) (x : Watch) (piece : List ℕ) (p : Printer) (rest : List ℕ) (y : Watch) (q : Printer) : Type 0 where
  pub bytes : List ℕ
  pub told : List Hit
  pub whole : bytes ++ rest ≡ piece
  pub goes : Goes buffer x bytes told y
  pub says : Says p (hit_forms file told) (Ok (tt {0})) q

pub taken_none : (buffer : List ℕ) (file : ℕ) (x : Watch) (piece : List ℕ) (p : Printer) → TakenTo buffer file x piece p piece x p
unfolding hit_forms
taken_none buffer file x piece p = record { bytes = []; told = []; whole = refl; goes = goes_none buffer x; says = says_none p }

-- what is behind a place, as the code cuts it; and a list that is not empty
pub rest_is : (i : ℕ) (xs : List ℕ) → take (length xs - i) (drop i xs) ≡ drop i xs
rest_is i xs = take_all (length xs - i) (drop i xs) (omega (arith, length-drop i xs))

pub no_bytes : (xs : List ℕ) → length xs ≡ 0 → xs ≡ []
no_bytes [] e = refl
no_bytes (x ∷ xs) e = absurd (omega arith)

some_in : (xs : List ℕ) → xs ≢ [] → 1 ≤ length xs
some_in [] h = absurd (h refl)
some_in (x ∷ xs) h = omega arith

-- one part more
module _ {buffer : List ℕ} {file : ℕ} {x y z : Watch} {piece rest : List ℕ} {p q s : Printer} (f : TakenTo buffer file x piece p rest y q) where
  module _ {r : Result (Option ℕ) NotComplete} (g : PartTaken buffer file y rest q r z s) where
    abbrev bytes : List ℕ
    bytes = f.bytes ++ take g.taken rest

    abbrev told : List Hit
    told = f.told ++ g.told

    whole : bytes ++ drop g.taken rest ≡ piece
    whole = rw (append_assoc, take-append-drop g.taken rest) f.whole

    says_more : Says p (hit_forms file told) r s
    says_more = rw (hits_append file f.told g.told) (says_join f.says g.says)

    -- no more may be taken: what is left
    behind : (t : Result Bool NotComplete) → Says p (hit_forms file told) t s → (t ≡ Ok true → ⊥) → (t ≡ Ok false → r ≡ Ok None) →
        PieceTaken buffer file x piece p t z s
    behind t v n e =
        record {
          bytes = bytes;
          left = drop g.taken rest;
          told = told;
          whole = whole;
          goes = goes_join f.goes g.goes;
          says = v;
          all = λ h. absurd (n h);
          refused = λ h. g.refused (e h);
        }

  module _ {k : ℕ} (g : PartTaken buffer file y rest q (Ok (Some k)) z s) where
    pub taken_on : {left : List ℕ} → left ≡ drop k rest → TakenTo buffer file x piece p left z s
    taken_on e =
        rw (e, (g.some _ refl).0) (record { bytes = bytes g; told = told g; whole = whole g; goes = goes_join f.goes g.goes; says = says_ok (says_more g) })

    pub fewer_left : {left : List ℕ} → left ≡ drop k rest → rest ≢ [] → length left < length rest
    fewer_left e h =
        let t = g.some k refl in
        let some : 1 ≤ g.taken = t.1 (some_in rest h) in
        rw e (omega (arith, t.0, g.within, length-drop k rest))

  -- a part was refused, or a write failed
  pub piece_refused : PartTaken buffer file y rest q (Ok None) z s → PieceTaken buffer file x piece p (Ok false) z s
  piece_refused g = behind g (Ok false) (says_ok (says_more g)) (λ h. cc) (λ _. refl)

  pub piece_stopped : {e : NotComplete} (t : Result Bool NotComplete) → IsErr t → PartTaken buffer file y rest q (Err e) z s →
      PieceTaken buffer file x piece p t z s
  piece_stopped t i g = behind g t (says_err t i (says_more g)) (λ h. not_ok h) (λ h. absurd (not_ok h))
    where
      not_ok : {b : Bool} → t ≡ Ok b → ⊥
      not_ok h = true≢false (sym i ∙ ap (λ (v : Result Bool NotComplete). is_err v) h)

-- all of it was taken
pub piece_done : {buffer : List ℕ} {file : ℕ} {x y : Watch} {piece rest : List ℕ} {p q : Printer} → TakenTo buffer file x piece p rest y q → length rest ≡ 0 →
    PieceTaken buffer file x piece p (Ok true) y q
piece_done {piece = piece} {rest} f e =
    record {
      bytes = f.bytes;
      left = [];
      told = f.told;
      whole = rw (no_bytes rest e) at f.whole;
      goes = f.goes;
      says = says_ok f.says;
      all = λ _. refl;
      refused = λ e. absurd (cc);
    }
