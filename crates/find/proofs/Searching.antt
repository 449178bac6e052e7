-- The search: what each piece that comes leads to, and what the loop over them keeps. Assumes nothing.
use mathlib.Core.Path.{◌≡◌, refl, sym, ap, ◌∙◌}
use mathlib.Core.Bool.{Bool, true, false, not, ◌&&◌, cond, true≢false}
use mathlib.Core.List.{List, [], ◌++◌, append_assoc, append-nil}
use Prim.Native.Nat.{ℕ, zero, suc, ◌≤◌, ◌<◌}
use native.Mathlib.Omega.{arith}
use borrow.Author.Tests.{ltb-false}
use lib.Dec.{eqb, eqb-suc-zero}
use lib.ListN.{length, take}
use lib.Seq.{length-take-le}
use Rattle.std.specs.Prelude.{Option, Some, None, is_some, Result, Ok, Err}
use Rattle.words.proofs.Tests.{by_le}
use Rattle.runs.specs.Reading.{Fed}
use Rattle.runs.specs.Calls.{unless_refused}
use Rattle.finder.specs.declared.Watch.{Watch}
use Rattle.find.specs.Printed.{piece_size, is_last, piece_refusal, piece_fed, piece_form, further}
use Rattle.find.specs.Output.{in_pieces, text_output}
use Rattle.streams.specs.declared.NotComplete.{NotComplete}
use Rattle.streams.specs.Receipts.{Came, Ended, Sent, Moved, MayFollow}
use Rattle.streams.specs.Streams.{Brought}
use Rattle.find.specs.Program.{PieceSent, PiecePrinted, rest_output, SearchOn, SearchStopped, PieceSearched}
use Rattle.find.proofs.Pieces.{last_short}
use Rattle.find.proofs.Texts.{in_pieces_last, in_pieces_more}
use Rattle.streams.proofs.Moving.{moved_none, moved_join}
use Rattle.find.proofs.Stopping.{stopped_here, stopped_behind}

and_not : (a b : Bool) → b ≡ true → a && not b ≡ false
and_not true b e = rw e
and_not false b e = refl

-- the watch with which more is to be read: none behind the last piece
further_last : (n : ℕ) (t : Bool) (f : Fed Watch ℕ) → t ≡ true → further n t f ≡ None
unfolding further
further_last zero t f e = rw e refl
further_last (suc n) t f e = simp eqb-suc-zero refl

further_some : (n : ℕ) (t : Bool) (f : Fed Watch ℕ) → is_some (further n t f) ≡ true → t ≡ false
further_some n true f e = absurd (true≢false (sym e ∙ ap is_some (further_last n true f refl)))
further_some n false f e = refl

-- A PIECE c: what is printed for it, and behind it for what follows
module _ (s : List ℕ) (x : Watch) (c : List ℕ) where
  abbrev refused_by : ℕ
  refused_by = piece_refusal s x c piece_size

  abbrev comes_to : Fed Watch ℕ
  comes_to = piece_fed s x c piece_size

  rest_then : (n : ℕ) (t : Bool) (f : Fed Watch ℕ) (rest : List ℕ) →
      cond (eqb n 0 && not t) (text_output s (in_pieces rest) (unless_refused n f x).after) [] ≡ rest_output s (further n t f) rest
  unfolding further unless_refused
  rest_then zero true f rest = refl
  rest_then zero false f rest = refl
  rest_then (suc n) t f rest = simp eqb-suc-zero refl

  piece_then : (rest : List ℕ) → length c ≤ piece_size → (length c < piece_size → rest ≡ []) →
      text_output s (in_pieces (c ++ rest)) x
      ≡ piece_form refused_by (is_last c) comes_to ++ rest_output s (further refused_by (is_last c) comes_to) rest
  unfolding text_output
  piece_then rest h e =
      by_le piece_size (length c)
      (λ (l : piece_size ≤ length c).
      let full : length c ≡ piece_size = omega arith in
      rw (in_pieces_more c rest full) (ap (λ (ts : List ℕ). piece_form refused_by (is_last c) comes_to ++ ts) (rest_then refused_by (is_last c) comes_to rest)))
      (λ (l : length c < piece_size).
      let last : is_last c ≡ true = last_short c l in
      rw (e l, append-nil c, in_pieces_last c l, and_not (eqb refused_by 0) (is_last c) last, further_last refused_by (is_last c) comes_to last))

  -- it came, fewer bytes than a full one only where the input ended, and what is to be printed for it was sent
  module _
      {at after : ℕ} (came : Moved Came at after c) (h : length c ≤ piece_size) (ends : length c < piece_size → Ended after)
      (from to : ℕ) where
    piece_on : (next : Option Watch) → PieceSent c refused_by comes_to from next to → SearchOn s x at from next after to
    unfolding MayFollow
    piece_on next p =
        record {
          bytes = c;
          out = piece_form refused_by (is_last c) comes_to;
          came = came;
          sent = p.sent;
          prints = λ rest follows.
              rw p.next_is
              (piece_then rest h (λ l. follows (p.next_is ∙ further_last refused_by (is_last c) comes_to (last_short c l)) (ends l)));
        }

    -- a piece that is followed by another is full
    more_full : (next : Option Watch) → PieceSent c refused_by comes_to from next to → is_some next ≡ true → piece_size ≤ length c
    unfolding is_last
    more_full next p e = ltb-false (length c) piece_size (further_some refused_by (is_last c) comes_to (sym (ap is_some p.next_is) ∙ e))

    pub piece_searched : (r : Result (Option Watch) NotComplete) → PiecePrinted s x c piece_size from r to → PieceSearched s x at from r after to
    piece_searched (Ok next) p = (
      piece_on next p,
      λ e. let full : piece_size ≤ length c = more_full next p e in (omega (arith, came.counted.exact), came.counted.fits (omega arith)),
    )
    piece_searched (Err e) p = (p.0, stopped_here _ (record { bytes = c; came = came }) p.1)

-- the piece that was read into a buffer
pub piece_read : (s : List ℕ) (x : Watch) (b : List ℕ) (m n from to : ℕ) {at after : ℕ} (r : Result (Option Watch) NotComplete) →
    Brought m at n after b → m ≡ piece_size → length b ≡ piece_size → PiecePrinted s x (take n b) piece_size from r to →
    PieceSearched s x at from r after to
piece_read s x b m n from to r g full size p =
    let long : length (take n b) ≡ n = length-take-le n b g.within in
    piece_searched s x (take n b) g.came (omega (arith, g.within)) (λ h. g.ends (omega arith)) from to r p

-- WHERE THE SEARCH HAS COME TO
pub search_started : (s : List ℕ) (x : Watch) (at from : ℕ) → SearchOn s x at from (Some x) at from
search_started s x at from =
    record { bytes = []; out = []; came = moved_none Came at; sent = moved_none Sent from; prints = λ rest f. refl }

-- TURN AFTER TURN
pub search_join : {s : List ℕ} {x y : Watch} {next : Option Watch} {at mid after from via to : ℕ} →
    SearchOn s x at from (Some y) mid via → SearchOn s y mid via next after to → SearchOn s x at from next after to
search_join f g =
    record {
      bytes = f.bytes ++ g.bytes;
      out = f.out ++ g.out;
      came = moved_join f.came g.came;
      sent = moved_join f.sent g.sent;
      prints = λ rest p.
          rw (append_assoc f.bytes g.bytes rest, append_assoc f.out g.out, ← g.prints rest p)
          (f.prints (g.bytes ++ rest) (λ e. absurd (some_none e)));
    }
  where
    some_none : {y : Watch} → ◌≡◌ {A = Option Watch} (Some y) None → ⊥
    some_none e = cc

pub stopped_join : {s : List ℕ} {x y : Watch} {at mid after from via to : ℕ} →
    SearchOn s x at from (Some y) mid via → SearchStopped s y mid via after to → SearchStopped s x at from after to
stopped_join f g = stopped_behind f.came f.sent (λ rest. f.prints rest (λ e. cc)) g
