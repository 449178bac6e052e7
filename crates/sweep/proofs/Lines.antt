-- The lines of the head as they come, and inputs that have no head. Assumes nothing.
use mathlib.Core.Path.{◌≡◌, refl, sym, ap, ◌∙◌}
use mathlib.Core.Bool.{true, false, true≢false}
use mathlib.Core.List.{List, [], ◌∷◌, ◌++◌, append-nil, append_assoc}
use mathlib.Core.Logic.{◌≢◌}
use Prim.Native.Nat.{ℕ, suc, ◌+◌, min}
use native.Mathlib.Omega.{arith}
use lib.ListN.{length, get_or, drop}
use lib.Seq.{sets, sets-eq, length-sets, take-append_seam}
use Rattle.codes.specs.Codes.{longest_code}
use Rattle.forms.specs.declared.Line.{Line}
use Rattle.forms.specs.declared.Line.TheVariants.{Opening, Code, Closed, Done, Wrong}
use Rattle.forms.specs.Line.{opening, closing_bracket, line_feed, pairs, line_after, kept_after, goes_on, Read, read}
use Rattle.forms.specs.Promise.{OfForm, LinesRead}
use Rattle.forms.proofs.Lines.{read_on, read_over, lines_read, by_form}
use Rattle.std.specs.Prelude.{Result, Ok, Err, IsErr}
use Rattle.streams.specs.declared.NotComplete.{NotComplete}
use Rattle.streams.specs.Receipts.{Came, Told, Moved, MayFollow}
use Rattle.streams.specs.Streams.{Brought, LineOn, LineStopped, SomeCame}
use Rattle.streams.proofs.Moving.{moved_none, moved_join}
use Rattle.streams.proofs.FirstLine.{one_byte}
use Rattle.sweep.specs.declared.head.Next.{Next}
use Rattle.sweep.specs.Head.{code_line, code_lines, head_form, AllPaired, NoHead}
use Rattle.sweep.specs.Lines.{next_of, InBuffer, CodeCame, OtherCame, LineCame, NextRead}

-- A CODE'S LINE before others is of its form
pub of_line : (w rest : List ℕ) → pairs 0 w ≡ true → OfForm (code_line w ++ rest) w rest
unfolding code_line
of_line w rest t = record { whole = regroup opening w (closing_bracket ∷ line_feed ∷ []) rest; paired = t }
  where
    regroup : (a b c d : List ℕ) → a ++ (b ++ c) ++ d ≡ a ++ (b ++ (c ++ d))
    regroup a b c d = simp append_assoc

-- behind two codes' lines that one input begins with the same follows
pub same_behind : (v w xs ys : List ℕ) → pairs 0 v ≡ true → pairs 0 w ≡ true → code_line v ++ xs ≡ code_line w ++ ys → xs ≡ ys
unfolding LinesRead
same_behind v w xs ys t s e =
    let f : OfForm (code_line v ++ xs) w ys = rw e (of_line w ys s) in
    ap (λ (r : Read). r.rest) (sym (lines_read _ v xs [] (of_line v xs t)) ∙ lines_read _ w ys [] f)

pub head_split : (w : List ℕ) (ws : List (List ℕ)) (list : List ℕ) → head_form (w ∷ ws) ++ list ≡ code_line w ++ (head_form ws ++ list)
unfolding head_form code_lines
head_split w ws list = simp append_assoc

-- NO HEAD: the first line is neither empty nor of its form; also not behind the lines of codes
no_line : (input kept : List ℕ) → ((rest : List ℕ) → input ≢ line_feed ∷ rest) → (read (Opening 0) kept input).line ≡ Wrong → NoHead input
unfolding NoHead AllPaired LinesRead
no_line input kept h e [] list p g = unfold head_form code_lines in h list g
no_line input kept h e (w ∷ ws) list p g =
    let f : OfForm input w (head_form ws ++ list) = rw (g, head_split w ws list) (of_line w (head_form ws ++ list) p.0) in
    let done : (read (Opening 0) kept input).line ≡ Done (min (length w) (length kept)) = ap (λ (r : Read). r.line) (lines_read input w _ kept f) in
    let z : ◌≡◌ {A = ℕ} 0 1 = cc in
    omega arith

no_head_behind : (w input : List ℕ) → pairs 0 w ≡ true → NoHead input → NoHead (code_line w ++ input)
unfolding NoHead AllPaired
no_head_behind w input t h [] list p g =
    let first : ◌≡◌ {A = ℕ} 40 10 = unfold head_form code_lines code_line in cc g in
    omega arith
no_head_behind w input t h (v ∷ ws) list p g =
    h ws list p.1 (same_behind w v input (head_form ws ++ list) t p.0 (g ∙ head_split v ws list))

pub no_head_after : (ws : List (List ℕ)) (input : List ℕ) → AllPaired ws → NoHead input → NoHead (code_lines ws ++ input)
unfolding AllPaired code_lines
no_head_after [] input p h = h
no_head_after (w ∷ ws) input p h = rw append_assoc (no_head_behind w (code_lines ws ++ input) p.0 (no_head_after ws input p.1 h))

-- ONE CODE MORE
pub lines_more : (ws : List (List ℕ)) (w : List ℕ) → code_lines (ws ++ (w ∷ [])) ≡ code_lines ws ++ code_line w
unfolding code_lines
lines_more [] w = append-nil (code_line w)
lines_more (v ∷ ws) w = rw (lines_more ws w, append_assoc (code_line v) (code_lines ws) (code_line w)) refl

pub paired_more : (ws : List (List ℕ)) (w : List ℕ) → AllPaired ws → pairs 0 w ≡ true → AllPaired (ws ++ (w ∷ []))
unfolding AllPaired
paired_more [] w p t = (t, tt)
paired_more (v ∷ ws) w p t = (p.0, paired_more ws w p.1 t)

-- THE FIRST BYTE of a line: the input ended before it, or it came
module _ {at k after : ℕ} {b : List ℕ} (r : Brought 1 at k after b) where
  pub next_ended : k ≡ 0 → OtherCame at after
  unfolding MayFollow read
  next_ended z =
      record {
        bytes = [];
        came = rw z at r.came;
        wrong = λ rest f. rw (f (r.ends (omega arith))) (no_line [] [] (λ list e. let one : ◌≡◌ {A = ℕ} 0 1 = cc in omega arith) refl);
      }

  pub first_came : length b ≡ 1 → k ≢ 0 → Moved Came at after (get_or b 0 0 ∷ [])
  first_came one n = rw (one_byte k b one r.within n) at r.came

pub came_none : (at after : ℕ) → after ≡ at → SomeCame at after
came_none at after e = record { bytes = []; came = rw e (moved_none Came at) }

-- A CODE IN A BUFFER that was written from its start on
in_buffer : (code a : List ℕ) {n : ℕ} {b : List ℕ} →
    length a ≡ suc longest_code → Done n ≡ Done (min (length code) (length a)) → b ≡ sets a 0 code → InBuffer code n b
in_buffer code a {n} room e f =
    let size : n ≡ min (length code) (length a) = cc in
    record {
      room = ap length f ∙ length-sets a 0 code ∙ room;
      size = omega arith;
      whole = λ h.
          let all : n ≡ length code = omega arith in
          rw (all, f, sets-eq code a 0 (omega arith)) (take-append_seam code (drop (0 + length code) a));
    }

-- A LINE from its first byte on: a read failed, or it was read to its end
module _
    (c : ℕ) (a : List ℕ) {before at after : ℕ} {line : Line} {kept b : List ℕ} (is : line ≡ line_after (length a) (Opening 0) c)
    (same : kept ≡ kept_after (Opening 0) c a) (m : Moved Came before at (c ∷ [])) where
  pub code_stopped : LineStopped line kept at b after → SomeCame before after
  code_stopped s = record { bytes = c ∷ s.on.bytes; came = moved_join m s.on.came }

  module _ {end : Line} (on : LineOn line kept at end b after) (ended : goes_on end ≡ false) where
    reads : (rest : List ℕ) → (end ≡ Wrong → MayFollow after rest) →
        read (Opening 0) a (c ∷ (on.bytes ++ rest)) ≡ record { line = end; kept_bytes = b; rest = rest }
    reads rest f =
        read_on c (on.bytes ++ rest) a (Opening 0) line kept refl (is, same) ∙ on.reads rest f ∙ read_over end b rest ended

    code_broken : c ≢ line_feed → end ≡ Wrong → OtherCame before after
    code_broken h e =
        record {
          bytes = c ∷ on.bytes;
          came = moved_join m on.came;
          wrong = λ rest f. no_line (c ∷ (on.bytes ++ rest)) a (λ list g. h (cc)) (ap (λ (q : Read). q.line) (reads rest (λ _. f)) ∙ e);
        }

    -- its code was kept, as far as there was room
    read_whole : (n : ℕ) → end ≡ Done n → read (Opening 0) a (c ∷ on.bytes) ≡ record { line = Done n; kept_bytes = b; rest = [] }
    read_whole n e =
        rw (append-nil, e) at (reads [] (λ w. let z : ◌≡◌ {A = ℕ} 0 1 = cc in absurd (omega arith)))

    code_whole : length a ≡ suc longest_code → (n : ℕ) → end ≡ Done n → CodeCame before n b after
    unfolding LinesRead code_line
    code_whole room n e =
        by_form (c ∷ on.bytes) a
        (λ code text f.
        let two = sym (read_whole n e) ∙ lines_read (c ∷ on.bytes) code text a f in
        let none : [] ≡ text = ap (λ (q : Read). q.rest) two in
        record {
          code = code;
          came = rw (f.whole, ← none) at (moved_join m on.came);
          paired = f.paired;
          kept = in_buffer code a room (ap (λ (q : Read). q.line) two) (ap (λ (q : Read). q.kept_bytes) two);
        })
        (λ w. let two = sym (ap (λ (q : Read). q.line) (read_whole n e)) ∙ w in let z : ◌≡◌ {A = ℕ} 0 1 = cc in absurd (omega arith))

    pub code_came : c ≢ line_feed → length a ≡ suc longest_code → LineCame before (next_of end) b after
    code_came h room = by_line end refl ended
      where
        by_line : (l : Line) → end ≡ l → goes_on l ≡ false → LineCame before (next_of l) b after
        by_line (Opening n) e g = absurd (true≢false g)
        by_line (Code i) e g = absurd (true≢false g)
        by_line (Closed n) e g = absurd (true≢false g)
        by_line (Done n) e g = code_whole room n e
        by_line Wrong e g = code_broken h e

-- or a read failed
pub next_failed : {at after : ℕ} (b : List ℕ) (r : Result Next NotComplete) → IsErr r → Told × SomeCame at after → NextRead at r b after
next_failed b (Ok x) i t = absurd (true≢false (sym i))
next_failed b (Err e) i t = t
