-- The whole run: the first line came, and its refusal was sent or the text behind it searched. Assumes nothing.
use mathlib.Core.Path.{◌≡◌, refl, sym, ◌∙◌}
use mathlib.Core.Bool.{false}
use mathlib.Core.List.{List, ◌++◌, append_assoc, append-nil}
use mathlib.Core.Logic.{◌≢◌}
use Prim.Native.Nat.{ℕ}
use native.Mathlib.Omega.{arith}
use borrow.Author.Tests.{eq-eqb, ne_eqb}
use lib.ListN.{length}
use Rattle.finder.specs.Feed.{opened}
use Rattle.forms.specs.declared.Line.{Line}
use Rattle.forms.specs.declared.Line.TheVariants.{Opening, Wrong}
use Rattle.forms.specs.Line.{goes_on}
use Rattle.forms.specs.Text.{refused_form}
use Rattle.forms.proofs.Lines.{read_over}
use Rattle.std.specs.Prelude.{None, Result, Ok, Err}
use Rattle.streams.specs.declared.NotComplete.{NotComplete}
use Rattle.find.specs.Printed.{line_refusal, line_sheet}
use Rattle.find.specs.Output.{in_pieces, text_output, output_after, output, blank_code, blank_sheet}
use Rattle.streams.specs.Receipts.{Sent, Broken, Moved, MayFollow}
use Rattle.streams.specs.Streams.{SentOrTold, LineOn, SomeCame}
use Rattle.find.specs.Program.{SearchOn, SearchStopped, TextSearched, Complete, Stopped, Ran}
use Rattle.streams.proofs.Moving.{moved_none, moved_join}
use Rattle.find.proofs.Stopping.{stopped_here, stopped_behind}

-- a wrong line is refused
refusal_wrong : (l : Line) (a : List ℕ) (k : ℕ) → line_refusal l a k ≡ 0 → l ≢ Wrong
refusal_wrong l a k e w = let z : ◌≡◌ {A = ℕ} 8 0 = rw w at e in omega arith

module _
    {line : Line} {kept : List ℕ} {mid : ℕ} (f : LineOn (Opening 0) blank_code 0 line kept mid) (over : goes_on line ≡ false) where
  abbrev line_refused_by : ℕ
  line_refused_by = line_refusal line kept (length blank_sheet)

  line_then : (rest : List ℕ) → (line ≡ Wrong → MayFollow mid rest) →
      output (f.bytes ++ rest) ≡ output_after (record { line = line; kept_bytes = kept; rest = rest }) blank_sheet
  unfolding output
  line_then rest p = rw (f.reads rest p, read_over line kept rest over)

  run_refused : {sent : ℕ} → line_refused_by ≢ 0 → Moved Sent 0 sent (refused_form line_refused_by) → Complete mid sent
  unfolding output_after
  run_refused h m =
      record {
        bytes = f.bytes;
        out = refused_form line_refused_by;
        came = f.came;
        sent = m;
        right = λ rest p. sym (line_then rest (λ _. p) ∙ rw (ne_eqb line_refused_by 0 h));
      }

  -- behind a line that is not refused, whatever follows it
  search_then : line_refused_by ≡ 0 → (rest : List ℕ) → output (f.bytes ++ rest) ≡ text_output (line_sheet line kept blank_sheet) (in_pieces rest) opened
  unfolding output_after
  search_then none rest = line_then rest (λ w. absurd (refusal_wrong line kept (length blank_sheet) none w)) ∙ rw (eq-eqb line_refused_by 0 none)

  run_searched : {came sent : ℕ} → line_refused_by ≡ 0 →
      SearchOn (line_sheet line kept blank_sheet) opened mid 0 None came sent → Complete came sent
  run_searched none g =
      record {
        bytes = f.bytes ++ g.bytes;
        out = g.out;
        came = moved_join f.came g.came;
        sent = g.sent;
        right = λ rest p. rw append_assoc (sym (search_then none (g.bytes ++ rest) ∙ g.prints rest (λ _. p) ∙ append-nil g.out));
      }

  run_stopped : {came sent : ℕ} → line_refused_by ≡ 0 →
      SearchStopped (line_sheet line kept blank_sheet) opened mid 0 came sent → Stopped came sent
  run_stopped none g = stopped_behind f.came (moved_none Sent 0) (search_then none) g

-- stopped where nothing was sent
pub ran_not : {at came from sent : ℕ} → SomeCame at came → at ≡ 0 → from ≡ 0 → Broken from sent → Stopped came sent
ran_not c a z e = rw (a, z) at (stopped_here output c e)

-- from where the functions leave it: the first line read, with counts that began at 0
module _
    {line : Line} {kept : List ℕ} {at mid : ℕ} (from : ℕ) (f : LineOn (Opening 0) blank_code at line kept mid) (over : goes_on line ≡ false)
    (zero-came : at ≡ 0) (zero-sent : from ≡ 0) where
  line_is : LineOn (Opening 0) blank_code 0 line kept mid
  line_is = rw zero-came at f

  pub ran_refused : {n : ℕ} (sent : ℕ) (r : Result (Unit {0}) NotComplete) → n ≡ line_refusal line kept (length blank_sheet) → n ≢ 0 →
      SentOrTold from (refused_form n) r sent → Ran r mid sent
  ran_refused sent (Ok v) e h p = run_refused line_is over (rw e at h) (rw (zero-sent, e) at p)
  ran_refused sent (Err v) e h p = (p.0, ran_not (record { bytes = line_is.bytes; came = line_is.came }) refl zero-sent p.1)

  pub ran_searched : {s : List ℕ} (came sent : ℕ) (r : Result (Unit {0}) NotComplete) → 0 ≡ line_refusal line kept (length blank_sheet) →
      s ≡ line_sheet line kept blank_sheet → TextSearched s mid from r came sent → Ran r came sent
  ran_searched came sent (Ok v) e i g = run_searched line_is over (sym e) (rw (zero-sent, i) at g)
  ran_searched came sent (Err v) e i g = (g.0, run_stopped line_is over (sym e) (rw (zero-sent, i) at g.1))
