-- The head, line by line: what the loop over its lines keeps, and what it comes to. Assumes nothing.
use mathlib.Core.Path.{◌≡◌, refl, sym, ◌∙◌}
use mathlib.Core.Bool.{true≢false}
use mathlib.Core.List.{List, [], ◌∷◌, ◌++◌, map, append_assoc}
use Prim.Native.Nat.{ℕ, ◌-◌, ◌^◌, ◌≤◌, ◌<◌}
use native.Mathlib.Omega.{arith}
use lib.ListN.{length, take}
use lib.Seq.{length-take-le}
use Rattle.std.specs.Prelude.{Result, Ok, Err, IsErr}
use Rattle.runs.specs.declared.Refusal.{Refusal}
use Rattle.streams.specs.declared.NotComplete.{NotComplete}
use Rattle.forms.specs.Line.{line_feed}
use Rattle.boards.specs.Board.{bytes_of, board_room}
use Rattle.streams.specs.Receipts.{Came, Told, Moved}
use Rattle.streams.proofs.Moving.{moved_none, moved_join}
use Rattle.streams.specs.Streams.{SomeCame}
use Rattle.sweep.specs.declared.head.Codes.{Codes}
use Rattle.sweep.specs.Head.{code_line, code_lines, head_form, AllPaired, Headed, HeadRead}
use Rattle.sweep.specs.Lines.{CodeCame, OtherCame, CodesKept, Adds, Prepares}
use Rattle.sweep.proofs.Lines.{no_head_after, lines_more, paired_more}
use Rattle.sweep.proofs.Keeping.{never_8}

-- LINES of codes came, and the codes are kept
pub record CodesCame (at : ℕ) (c : Codes) (after : ℕ) : Type 0 where
  pub codes : List (List ℕ)
  pub came : Moved Came at after (code_lines codes)
  pub paired : AllPaired codes
  pub kept : CodesKept codes c

pub codes_none : (at : ℕ) {c : Codes} → CodesKept [] c → CodesCame at c at
unfolding code_lines AllPaired
codes_none at k = record { codes = []; came = moved_none Came at; paired = tt; kept = k }

module _ {at mid after : ℕ} {c : Codes} (s : CodesCame at c mid) where
  -- one code more
  pub codes_more : {n : ℕ} {b : List ℕ} {d : Codes} → CodeCame mid n b after → Adds (take n b) c d → CodesCame at d after
  codes_more {n} {b} w f =
      let i = w.kept in
      let long : length (take n b) ≡ n = length-take-le n b (omega (arith, i.room, i.size)) in
      record {
        codes = s.codes ++ (w.code ∷ []);
        came = rw (lines_more s.codes w.code) (moved_join s.came w.came);
        paired = paired_more s.codes w.code s.paired w.paired;
        kept = f s.codes w.code (record { size = long ∙ i.size; whole = i.whole }) s.kept;
      }

  -- the empty line, another, and a read that failed
  pub head_came : {n : ℕ} {b : List ℕ} → Moved Came mid after (line_feed ∷ []) → Prepares c n b → Headed at n b after
  unfolding head_form
  head_came m f =
      let p = f s.codes s.kept in
      record {
        bytes = head_form s.codes;
        came = moved_join s.came m;
        wrong = λ e. absurd (never_8 (map length s.codes) (bytes_of s.codes) board_room (sym p.refused ∙ e));
        right = λ h. record { codes = s.codes; form = refl; paired = s.paired; refused = p.refused; prepared = p.prepared };
      }

  pub head_other : {b : List ℕ} → OtherCame mid after → Headed at 8 b after
  head_other w =
      record {
        bytes = code_lines s.codes ++ w.bytes;
        came = moved_join s.came w.came;
        wrong = λ e rest f. rw append_assoc (no_head_after s.codes (w.bytes ++ rest) s.paired (w.wrong rest f));
        right = λ h. absurd (h refl);
      }

  pub head_stopped : SomeCame mid after → SomeCame at after
  head_stopped w = record { bytes = code_lines s.codes ++ w.bytes; came = moved_join s.came w.came }

  pub head_failed : (b : List ℕ) (r : Result (Result ℕ Refusal) NotComplete) → IsErr r → Told × SomeCame mid after → HeadRead at r b after
  head_failed b (Ok x) i t = absurd (true≢false (sym i))
  head_failed b (Err e) i t = (t.0, head_stopped t.1)

-- each line counts bytes that came
pub fewer_to_come : {at n after : ℕ} {b : List ℕ} → CodeCame at n b after → 2 ^ 64 - after < 2 ^ 64 - at
unfolding code_line
fewer_to_come {at} {n} {after} w =
    let some : 1 ≤ length (code_line w.code) = omega arith in
    let fits : after < 2 ^ 64 = w.came.counted.fits some in
    omega (arith, w.came.counted.exact)
