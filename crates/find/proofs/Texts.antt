-- What is printed for a whole text: piece by piece, each with the watch of what came before it. Assumes nothing.
use mathlib.Core.Path.{◌≡◌, refl, sym, ap, ◌∙◌}
use mathlib.Core.Bool.{Bool, true, false, not, cond}
use mathlib.Core.List.{List, [], ◌∷◌, ◌++◌, append-nil, append_assoc}
use Prim.Native.Nat.{ℕ, zero, suc, ◌+◌, ◌*◌, ◌-◌, ◌/◌, ◌≤◌, ◌<◌}
use native.Mathlib.Omega.{arith}
use borrow.Author.Tests.{lt-ltb, le-ltb}
use lib.ListN.{length, take, drop, length-append, length-drop, take-append-drop}
use lib.Seq.{length-take-le, take-append_seam, drop-append_seam}
use Rattle.words.proofs.Tests.{by_le}
use Rattle.runs.specs.Reading.{longest_text, over}
use Rattle.runs.specs.Calls.{Call, unless_refused}
use Rattle.runs.proofs.Over.{over_nil, over_append}
use Rattle.codes.specs.Refusals.{refused_if, first_refusal}
use Rattle.codes.specs.Codes.{accepted}
use Rattle.sheets.specs.Sheet.{sheet}
use Rattle.codes.proofs.Refusals.{accepted_bounds}
use Rattle.sheets.proofs.Sheets.{sheet_named}
use Rattle.finder.specs.Feed.{opened, feed}
use Rattle.finder.specs.Machine.{found_after, call_refusal}
use Rattle.finder.specs.Texts.{places, watch_of}
use Rattle.finder.proofs.Texts.{opened_of, whole_read}
use Rattle.finder.proofs.Entries.{same_refusal}
use Rattle.forms.specs.Text.{place_forms, refused_form}
use Rattle.forms.proofs.Writing.{forms_append}
use Rattle.find.specs.Printed.{piece_size, is_last, piece_refusal, end_of, piece_form}
use Rattle.find.specs.Output.{pieces, in_pieces, text_output}
use Rattle.find.specs.Promise.{search_form}
use Rattle.find.proofs.Pieces.{last_short, last_full}

-- it is refused, with 7, only where the text would be too long
abbrev piece_call : (piece : List ℕ) → Call
piece_call c = record { piece = c; room = piece_size }

call_taken : (c : List ℕ) (n : ℕ) → n + length c ≤ longest_text → call_refusal (piece_call c) n ≡ 0
unfolding call_refusal first_refusal refused_if
call_taken c n h = rw (le-ltb longest_text (n + length c) h)

call_over : (c : List ℕ) (n : ℕ) → longest_text < n + length c → call_refusal (piece_call c) n ≡ 7
unfolding call_refusal first_refusal refused_if
call_over c n h = rw (lt-ltb longest_text (n + length c) h)

-- THE PIECES of a text, enough of them: the last one, or a full one and the others
pieces_last : (k : ℕ) (ts : List ℕ) → length ts < piece_size → pieces (suc k) ts ≡ ts ∷ []
unfolding pieces
pieces_last k ts h = rw (last_short ts h)

pieces_more : (k : ℕ) (ts : List ℕ) → piece_size ≤ length ts → pieces (suc k) ts ≡ take piece_size ts ∷ pieces k (drop piece_size ts)
unfolding pieces
pieces_more k ts h = rw (last_full ts h)

pieces_enough : (k j : ℕ) (ts : List ℕ) → length ts < k → length ts < j → pieces k ts ≡ pieces j ts
pieces_enough zero j ts h l = absurd (omega arith)
pieces_enough (suc k) zero ts h l = absurd (omega arith)
pieces_enough (suc k) (suc j) ts h l =
    by_le piece_size (length ts)
    (λ (m : piece_size ≤ length ts).
    let left : length (drop piece_size ts) ≡ length ts - piece_size = length-drop piece_size ts in
    rw (pieces_more k ts m, pieces_more j ts m, pieces_enough k j (drop piece_size ts) (omega arith) (omega arith)))
    (λ (m : length ts < piece_size). rw (pieces_last k ts m, pieces_last j ts m))

pub in_pieces_last : (ts : List ℕ) → length ts < piece_size → in_pieces ts ≡ ts ∷ []
unfolding in_pieces
in_pieces_last ts h = pieces_last (length ts) ts h

pub in_pieces_more : (c ts : List ℕ) → length c ≡ piece_size → in_pieces (c ++ ts) ≡ c ∷ in_pieces ts
unfolding in_pieces
in_pieces_more c ts e =
    let size : length (c ++ ts) ≡ length c + length ts = length-append c ts in
    let front : take piece_size (c ++ ts) ≡ c = rw (← e) (take-append_seam c ts) in
    let back : drop piece_size (c ++ ts) ≡ ts = rw (← e) (drop-append_seam c ts) in
    rw (pieces_more (length (c ++ ts)) (c ++ ts) (omega arith), front, back, pieces_enough (length (c ++ ts)) (suc (length ts)) ts (omega arith) (omega arith))

-- printed for a piece, and behind it
end_or_more : (t : Bool) (a b c : List ℕ) → (a ++ cond t b []) ++ cond (not t) c [] ≡ a ++ cond t b c
end_or_more true a b c = append-nil (a ++ b)
end_or_more false a b c = rw append-nil

module _ (w rest : List ℕ) (good : accepted w ≡ true) where
  abbrev buffer : List ℕ
  buffer = sheet w ++ rest

  -- the places of a text, after what stands before it
  abbrev places_after : (before text : List ℕ) → List ℕ
  places_after bs ts = over (found_after w) bs ts

  -- ONE PIECE c after the bytes bs
  module _ (c bs : List ℕ) where
    refusal_is : piece_refusal buffer (watch_of w bs) c piece_size ≡ call_refusal (piece_call c) (length bs)
    refusal_is = same_refusal w rest good (piece_call c) bs

    piece_over : (cs : List (List ℕ)) → longest_text < length bs + length c → text_output buffer (c ∷ cs) (watch_of w bs) ≡ refused_form 7
    unfolding text_output piece_form
    piece_over cs h = rw (refusal_is, call_over c (length bs) h) (append-nil (refused_form 7))

    piece_whole : length c ≤ piece_size →
        let f = feed w c piece_size (watch_of w bs) in (f.after ≡ watch_of w (bs ++ c)) × (f.told ≡ places_after bs c)
    piece_whole h = let r = whole_read w c piece_size bs h in (r.state, r.tells)

    piece_printed : length c ≤ piece_size → length bs + length c ≤ longest_text → (cs : List (List ℕ)) →
        text_output buffer (c ∷ cs) (watch_of w bs)
        ≡ place_forms (places_after bs c) ++ cond (is_last c) (end_of (watch_of w (bs ++ c))) (text_output buffer cs (watch_of w (bs ++ c)))
    unfolding text_output piece_form unless_refused
    piece_printed h fits cs =
        let r = piece_whole h in
        rw (refusal_is, call_taken c (length bs) fits, sheet_named w rest (accepted_bounds w good).0, r.0, r.1)
        (end_or_more (is_last c) (place_forms (places_after bs c)) (end_of (watch_of w (bs ++ c))) (text_output buffer cs (watch_of w (bs ++ c))))

  -- places printed for one text and then for another
  forms_after : (bs ts us more : List ℕ) →
      place_forms (places_after bs ts) ++ (place_forms (places_after (bs ++ ts) us) ++ more) ≡ place_forms (places_after bs (ts ++ us)) ++ more
  forms_after bs ts us more =
      rw (over_append (found_after w) bs ts us, forms_append)
      (sym (append_assoc (place_forms (places_after bs ts)) (place_forms (places_after (bs ++ ts) us)) more))

  -- FULL PIECES ts, then the text us
  full_pieces : (j : ℕ) (ts us bs : List ℕ) → length ts ≡ piece_size * j → length bs + length ts ≤ longest_text →
      text_output buffer (in_pieces (ts ++ us)) (watch_of w bs)
      ≡ place_forms (places_after bs ts) ++ text_output buffer (in_pieces us) (watch_of w (bs ++ ts))
  unfolding place_forms
  full_pieces zero [] us bs full fits = rw (over_nil (found_after w) bs, append-nil bs) refl
  full_pieces zero (t ∷ ts) us bs full fits = absurd (omega arith)
  full_pieces (suc j) ts us bs full fits =
      let c : List ℕ = take piece_size ts in
      let d : List ℕ = drop piece_size ts in
      let size : length c ≡ piece_size = length-take-le piece_size ts (omega arith) in
      let left : length d ≡ length ts - piece_size = length-drop piece_size ts in
      let whole : c ++ d ≡ ts = take-append-drop piece_size ts in
      let split : ts ++ us ≡ c ++ (d ++ us) = ap (λ (l : List ℕ). l ++ us) (sym whole) ∙ append_assoc c d us in
      let first : in_pieces (ts ++ us) ≡ c ∷ in_pieces (d ++ us) = ap in_pieces split ∙ in_pieces_more c (d ++ us) size in
      let more = full_pieces j d us (bs ++ c) (omega arith) (omega (arith, length-append bs c)) in
      rw (first, piece_printed c bs (omega arith) (omega arith) (in_pieces (d ++ us)), last_full c (omega arith))
      (ap (λ (l : List ℕ). place_forms (places_after bs c) ++ l) more
      ∙ forms_after bs c d (text_output buffer (in_pieces us) (watch_of w (bs ++ c ++ d)))
      ∙ rw (append_assoc bs c d, whole) refl)

  -- THE LAST PIECE
  last_piece : (us bs : List ℕ) → length us < piece_size → length bs + length us ≤ longest_text →
      text_output buffer (in_pieces us) (watch_of w bs) ≡ place_forms (places_after bs us) ++ end_of (watch_of w (bs ++ us))
  last_piece us bs h fits = rw (in_pieces_last us h, piece_printed us bs (omega arith) fits [], last_short us h) refl

  -- A WHOLE TEXT: its first j pieces are full
  from_opened : (j : ℕ) (ts : List ℕ) → piece_size * j ≤ length ts → piece_size * j ≤ longest_text →
      let n = piece_size * j in
      text_output buffer (in_pieces ts) opened
      ≡ place_forms (places w (take n ts)) ++ text_output buffer (in_pieces (drop n ts)) (watch_of w (take n ts))
  from_opened j ts h fits =
      let n : ℕ = piece_size * j in
      let size : length (take n ts) ≡ n = length-take-le n ts h in
      rw (← opened_of w, take-append-drop n ts) at
      (full_pieces j (take n ts) (drop n ts) [] size (omega arith))

  -- a text that a watch takes, and one of which it takes j pieces and not another
  pub text_right : (ts : List ℕ) → length ts ≤ longest_text → text_output buffer (in_pieces ts) opened ≡ search_form w ts
  text_right ts h =
      let j : ℕ = length ts / piece_size in
      let n : ℕ = piece_size * j in
      let size : length (take n ts) ≡ n = length-take-le n ts (omega arith) in
      let left : length (drop n ts) ≡ length ts - n = length-drop n ts in
      let whole : take n ts ++ drop n ts ≡ ts = take-append-drop n ts in
      from_opened j ts (omega arith) (omega arith)
      ∙ ap (λ (l : List ℕ). place_forms (places w (take n ts)) ++ l) (last_piece (drop n ts) (take n ts) (omega arith) (omega arith))
      ∙ forms_after [] (take n ts) (drop n ts) (end_of (watch_of w (take n ts ++ drop n ts)))
      ∙ rw whole refl

  pub text_long : (j : ℕ) (ts : List ℕ) → piece_size * j ≤ longest_text → longest_text < piece_size * suc j → piece_size * suc j ≤ length ts →
      text_output buffer (in_pieces ts) opened ≡ place_forms (places w (take (piece_size * j) ts)) ++ refused_form 7
  text_long j ts fits over-long h =
      let n : ℕ = piece_size * j in
      let us : List ℕ = drop n ts in
      let c : List ℕ = take piece_size us in
      let d : List ℕ = drop piece_size us in
      let size : length (take n ts) ≡ n = length-take-le n ts (omega arith) in
      let left : length us ≡ length ts - n = length-drop n ts in
      let full : length c ≡ piece_size = length-take-le piece_size us (omega arith) in
      let first : in_pieces us ≡ c ∷ in_pieces d = ap in_pieces (sym (take-append-drop piece_size us)) ∙ in_pieces_more c d full in
      from_opened j ts (omega arith) fits ∙ rw (first, piece_over c (take n ts) (in_pieces d) (omega arith)) refl
