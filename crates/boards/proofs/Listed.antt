-- Codes listed one behind the other, and looked for in such a list: their lengths in one list, their bytes in another. Assumes nothing.
use mathlib.Core.Path.{◌≡◌, refl, sym, ◌∙◌}
use mathlib.Core.Bool.{Bool, true, false, ◌||◌}
use mathlib.Core.List.{List, [], ◌∷◌, ◌++◌, map-append, append-nil, append_assoc}
use Prim.Native.Nat.{ℕ, suc, ◌+◌, ◌-◌, ◌≤◌, ◌<◌}
use native.Mathlib.Numerals.{add-one}
use native.Mathlib.Omega.{arith}
use lib.ListN.{length, get_or, take, drop, set, length-append, drop_of_length-le}
use lib.Seq.{take_all, take-suc-set, drop-cons, drop-drop, length-take-le}
use lib.Dec.{eqb}
use Rattle.std.specs.Cmp.Lexicographic.{pointwise}
use Rattle.std.proofs.lemmas.Bool.Decides.{Decides-eqb}
use Rattle.std.proofs.lemmas.Slice.Eq.{slice_eq-Decides}
use Rattle.codes.specs.Refusals.{Answer}
use Rattle.words.specs.Words.{same}
use Rattle.words.proofs.Tests.{same_test}
use Rattle.words.proofs.Lists.{eq_same, same_eq}
use Rattle.automaton.specs.Costs.{sum}
use Rattle.starts.specs.Starts.{code, total, offset, is_code}
use Rattle.starts.proofs.States.{total_append, total_more, take_more, offset_zero, offset_more, offset_fits}
use Rattle.boards.specs.declared.joining.List.{List as CodeList}
use Rattle.boards.specs.Board.{cut, bytes_of}
use Rattle.boards.specs.Tables.{Good, part}
use Rattle.boards.specs.Written.{Spliced}
use Rattle.boards.specs.Entry.{PrepareSays}
use Rattle.boards.specs.Join.{lacking}
use Rattle.boards.specs.Joined.{Listed, RoomFor, Lists, Prepares}
use Rattle.boards.proofs.Cuts.{cut_length, cut_total, cut_lengths, cut_bytes, cut_code, cut_code_length}
use Rattle.boards.proofs.Lacking.{lacking_all, lacking_append}

-- slices are compared as words are
pub slices_same : (xs ys : List ℕ) {r : Bool} → r ≡ pointwise eqb xs ys → r ≡ same xs ys
slices_same xs ys {r} e =
    let d = slice_eq-Decides Decides-eqb xs ys r e in
    same_test r (same xs ys) (λ t. eq_same (d.0 t)) (λ t. d.1 (same_eq xs ys t))

-- A WORD LOOKED FOR among codes: it is one of them exactly if it is one of those from number i on, whose bytes begin at `at`
pub record Looking (ls bs w : List ℕ) (at i : ℕ) : Type 0 where
  pub fits : at + sum (drop i ls) ≤ length bs
  pub left : is_code (cut (drop i ls) (drop at bs)) w ≡ is_code (cut ls bs) w

pub look_start : (ls bs w : List ℕ) → sum ls ≤ length bs → Looking ls bs w 0 0
look_start ls bs w h = record { fits = omega arith; left = refl }

module _ {ls bs w : List ℕ} {at i : ℕ} (k : Looking ls bs w at i) where
  module _ (h : i < length ls) {l : ℕ} (e : l ≡ get_or ls i 0) where
    pub look_fits : at + l ≤ length bs
    unfolding sum
    look_fits =
        let more : sum (drop i ls) ≡ get_or ls i 0 + sum (drop (suc i) ls) = rw (drop-cons ls i 0 h) refl in
        omega (arith, k.fits, more, e)

    -- the first of them, and those behind it
    first : is_code (cut ls bs) w ≡ same (take (at + l - at) (drop at bs)) w || is_code (cut (drop (i + 1) ls) (drop (at + l) bs)) w
    unfolding cut is_code
    first =
        let size : at + l - at ≡ l = omega arith in
        sym k.left ∙ rw (drop-cons ls i 0 h, ← e, size, add-one i, drop-drop l at bs) refl

    pub look_found : same (take (at + l - at) (drop at bs)) w ≡ true → is_code (cut ls bs) w ≡ true
    look_found t = first ∙ rw t refl

    pub look_next : same (take (at + l - at) (drop at bs)) w ≡ false → Looking ls bs w (at + l) (i + 1)
    unfolding sum
    look_next t =
        let more : sum (drop i ls) ≡ get_or ls i 0 + sum (drop (i + 1) ls) = rw (drop-cons ls i 0 h, add-one i) refl in
        record { fits = omega (arith, k.fits, more, e); left = sym (first ∙ rw t refl) }

  pub look_end : length ls ≤ i → is_code (cut ls bs) w ≡ false
  unfolding cut is_code
  look_end h = sym k.left ∙ rw (drop_of_length-le ls h) refl

-- ONE CODE: it is listed behind the others
pub bytes_more : (us : List (List ℕ)) (w : List ℕ) → bytes_of (us ++ (w ∷ [])) ≡ bytes_of us ++ w
unfolding bytes_of
bytes_more [] w = append-nil w
bytes_more (u ∷ us) w = rw (bytes_more us w, append_assoc u (bytes_of us) w) refl

pub list_pushed : {w d : List ℕ} {l : CodeList} → l.count < length l.lengths → Spliced l.end w l.bytes d →
    Lists [] (w ∷ []) l (record { lengths = set l.lengths l.count (length w); bytes = d; count = l.count + 1; end = l.end + length w })
unfolding total
list_pushed {w} {d} {l} h s =
    record {
      lists = λ us x.
          rw (lacking_all (w ∷ []))
          (record {
            count_is = omega (arith, x.count_is, length-append us (w ∷ []));
            end_is = omega (arith, x.end_is, total_more us w);
            lengths_are =
                rw (add-one l.count)
                (take-suc-set l.lengths l.count (length w) h
                ∙ rw x.lengths_are (sym (map-append (λ (v : List ℕ). length v) us (w ∷ []))));
            bytes_are = s.front ∙ rw x.bytes_are (sym (bytes_more us w));
          });
      count_few = omega arith;
      end_few = omega arith;
    }

-- so a code that others lack; one that they have is not listed
module _ {ws : List (List ℕ)} {w : List ℕ} {l : CodeList} where
  pub list_known : is_code ws w ≡ true → Lists ws (w ∷ []) l l
  unfolding lacking
  list_known t = record { lists = λ us s. rw (t, append-nil us) s; count_few = omega arith; end_few = omega arith }

  pub list_new : is_code ws w ≡ false → {m : CodeList} → Lists [] (w ∷ []) l m → Lists ws (w ∷ []) l m
  unfolding lacking
  list_new t p = record { lists = λ us s. rw t (rw (lacking_all (w ∷ [])) at (p.lists us s)); count_few = p.count_few; end_few = p.end_few }

-- some codes, then others
pub lists_then : {ws xs ys : List (List ℕ)} {l m n : CodeList} → Lists ws xs l m → Lists ws ys m n → Lists ws (xs ++ ys) l n
lists_then {ws} {xs} {ys} f g =
    record {
      lists = λ us s. rw (lacking_append ws xs ys, ← append_assoc us (lacking ws xs) (lacking ws ys)) (g.lists (us ++ lacking ws xs) (f.lists us s));
      count_few = omega (arith, f.count_few, g.count_few, length-append xs ys);
      end_few = omega (arith, f.end_few, g.end_few, total_append xs ys);
    }

-- ALL CODES: those before number i are done, and the bytes of that one begin at `at`
pub record Going (ws : List (List ℕ)) (ls bs : List ℕ) (l m : CodeList) (at i : ℕ) : Type 0 where
  pub within : i ≤ length ls
  pub offset_is : at ≡ offset (cut ls bs) i
  pub done : Lists ws (take i (cut ls bs)) l m

pub going_start : {ws : List (List ℕ)} {ls bs : List ℕ} {l : CodeList} → Going ws ls bs l l 0 0
unfolding lacking
going_start {ls = ls} {bs} =
    record {
      within = omega arith;
      offset_is = sym (offset_zero (cut ls bs));
      done = record { lists = λ us s. rw (append-nil us) s; count_few = omega arith; end_few = omega arith };
    }

module _ {ws : List (List ℕ)} {ls bs : List ℕ} {l m : CodeList} {at i : ℕ} (x : Good ls bs) (g : Going ws ls bs l m at i) where
  pub going_end : length ls ≤ i → Lists ws (cut ls bs) l m
  going_end h =
      let all : take i (cut ls bs) ≡ cut ls bs = take_all i (cut ls bs) (omega (arith, cut_length ls bs)) in
      rw all at g.done

  module _ (h : i < length ls) where
    abbrev vs : List (List ℕ)
    vs = cut ls bs

    -- the code, lent as a slice
    abbrev size : ℕ
    size = get_or ls i 0

    abbrev word : List ℕ
    word = take (at + size - at) (drop at bs)

    inside : i < length vs
    inside = omega (arith, cut_length ls bs)

    size_is : length (code vs i) ≡ size
    size_is = cut_code_length ls bs i (omega (arith, x.sums)) h

    is_code_here : code vs i ≡ word
    unfolding part
    is_code_here =
        let whole : at + size - at ≡ size = omega arith in
        cut_code ls bs i (omega (arith, x.sums)) h ∙ rw (← g.offset_is, whole) refl

    pub going_fits : at + size ≤ length bs
    going_fits = omega (arith, g.offset_is, size_is, offset_fits vs i inside, cut_total ls bs (omega (arith, x.sums)), x.sums)

    pub going_room : RoomFor (length ls) (length bs) l → RoomFor 1 (length word) m
    unfolding offset
    going_room r =
        let before : length (take i vs) ≡ i = length-take-le i vs (omega (arith, inside)) in
        rw (← is_code_here)
        (record {
          lengths_room = omega (arith, r.lengths_room, g.done.count_few, before);
          bytes_room = omega (arith, r.bytes_room, g.done.end_few, going_fits, size_is, g.offset_is);
        })

    pub going_turn : {n : CodeList} → Lists ws (word ∷ []) m n → Going ws ls bs l n (at + size) (i + 1)
    going_turn p =
        record {
          within = omega arith;
          offset_is = rw (add-one i) (omega (arith, g.offset_is, size_is, offset_more vs i inside));
          done = rw (add-one i, take_more vs i inside, is_code_here) (lists_then g.done p);
        }

-- A LIST OF A BOARD'S CODES has their lengths and bytes in front
pub list_of : {ls bs p q a b : List ℕ} → Good ls bs → Spliced 0 ls a p → Spliced 0 bs b q →
    Listed (cut ls bs) (record { lengths = p; bytes = q; count = length ls; end = length bs })
list_of {ls} {bs} x s t =
    let j : 0 + length ls ≡ length ls = omega arith in
    let n : 0 + length bs ≡ length bs = omega arith in
    record {
      count_is = sym (cut_length ls bs);
      end_is = sym (cut_total ls bs (omega (arith, x.sums)) ∙ x.sums);
      lengths_are = rw j at s.front ∙ sym (cut_lengths ls bs (omega (arith, x.sums)));
      bytes_are = rw n at t.front ∙ sym (cut_bytes ls bs x.sums);
    }

-- they are lent from both lists' starts
module _ {us : List (List ℕ)} {l : CodeList} (x : Listed us l) where
  pub listed_prepares : {r : Answer} {before after : List ℕ} → PrepareSays (take l.count l.lengths) (take l.end l.bytes) r before after →
      Prepares us r before after
  listed_prepares s = rw (x.lengths_are, x.bytes_are) at s
