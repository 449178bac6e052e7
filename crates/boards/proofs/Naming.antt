-- The codes that a buffer names: the lengths, one after the other, the bytes, and whether it begins with the board of the codes. Assumes nothing.
use mathlib.Core.Path.{◌≡◌, refl, sym, ap, ◌∙◌}
use mathlib.Core.Bool.{Bool, true, false, ◌&&◌}
use mathlib.Core.List.{List, [], ◌∷◌, ◌++◌}
use mathlib.Core.Logic.{◌≢◌}
use Prim.Native.Nat.{ℕ, zero, suc, ◌+◌, ◌*◌, ◌-◌, ◌≤◌, ◌<◌}
use native.Mathlib.Numerals.{add-one}
use native.Mathlib.Omega.{arith}
use lib.Dec.{leb, eqb}
use lib.ListN.{length, get_or, take, drop, set, length-take, length-drop}
use lib.Seq.{take-suc-set, get_or-drop, take-append_seam}
use borrow.Author.Tests.{eqb-true, le-leb, le-ltb}
use Rattle.words.specs.Words.{Every, same, in_front}
use Rattle.words.proofs.Tests.{never_both, fails, and_left}
use Rattle.words.proofs.Lists.{in_front_long}
use Rattle.automaton.specs.Costs.{sum}
use Rattle.codes.specs.Refusals.{refused_if, first_refusal, answer_refusal, answer_value, Answer}
use Rattle.codes.specs.Promise.{AnswersTold}
use Rattle.codes.proofs.Refusals.{none_of, answers_told}
use Rattle.starts.specs.Starts.{twice}
use Rattle.boards.specs.declared.given.Codes.{Codes}
use Rattle.boards.specs.Board.{cut, list_refusal, codes_refusal, board_room, board, pairs_of, named_lengths, named_bytes, named, begins}
use Rattle.boards.specs.Entry.{prepare_refusal, prepare_answer, prepare_buffer, PrepareSays}
use Rattle.boards.specs.Naming.{LengthsRead, Names, OnNamed}
use Rattle.boards.proofs.Listing.{good_of, codes_none, none_listed}

-- THE LENGTHS, one after the other: one more
pairs_snoc : (k : ℕ) (bs : List ℕ) → pairs_of (suc k) bs ≡ pairs_of k bs ++ ((256 * get_or bs (2 * k) 0 + get_or bs (2 * k + 1) 0) ∷ [])
unfolding pairs_of
pairs_snoc zero bs = refl
pairs_snoc (suc k) bs =
    let a : 2 + 2 * k ≡ 2 * suc k = omega arith in
    let b : 2 + (2 * k + 1) ≡ 2 * suc k + 1 = omega arith in
    ap (λ (l : List ℕ). (256 * get_or bs 0 0 + get_or bs 1 0) ∷ l)
    (pairs_snoc k (drop 2 bs)
    ∙ rw (get_or-drop 2 bs (2 * k) 0, get_or-drop 2 bs (2 * k + 1) 0, a, b) refl)

-- THE LOOP: the first i are read
pub lengths_start : (board a : List ℕ) → LengthsRead board 0 a
unfolding pairs_of
lengths_start board a = record { front = refl }

pub lengths_turn : {board b : List ℕ} {i v : ℕ} → i < length b → v ≡ 256 * get_or board (1 + 2 * i) 0 + get_or board (2 + 2 * i) 0 →
    LengthsRead board i b → LengthsRead board (i + 1) (set b i v)
lengths_turn {board} {b} {i} {v} h e s =
    let at : 1 + (2 * i + 1) ≡ 2 + 2 * i = omega arith in
    let more : v ≡ 256 * get_or (drop 1 board) (2 * i) 0 + get_or (drop 1 board) (2 * i + 1) 0 =
    rw (get_or-drop 1 board (2 * i) 0, get_or-drop 1 board (2 * i + 1) 0, at) e in
    record { front = rw (add-one i) (take-suc-set b i v h ∙ rw (s.front, more) (sym (pairs_snoc i (drop 1 board)))) }

-- A BUFFER THAT BEGINS WITH A BOARD names codes that a board can have, none of them twice
begins_listed : (buffer : List ℕ) → begins buffer ≡ true →
    (list_refusal (named_lengths buffer) (named_bytes buffer) ≡ 0) × (twice (named buffer) ≡ false)
unfolding begins named
begins_listed a e =
    none_listed (named_lengths a) (named_bytes a)
    (eqb-true (codes_refusal (named_lengths a) (named_bytes a)) 0
    (and_left (eqb (codes_refusal (named_lengths a) (named_bytes a)) 0) (same (take (length (board (named a))) a) (board (named a))) e))

-- it names as many lengths as its first byte tells, and filled codes have as many bytes at least
pairs_length : (k : ℕ) (bs : List ℕ) → length (pairs_of k bs) ≡ k
unfolding pairs_of
pairs_length zero bs = refl
pairs_length (suc k) bs = ap suc (pairs_length k (drop 2 bs))

names_length : (buffer : List ℕ) → length (named_lengths buffer) ≡ get_or buffer 0 0
unfolding named_lengths
names_length a = pairs_length (get_or a 0 0) (drop 1 a)

sum_filled : (ls : List ℕ) → Every (λ l. 1 ≤ l) ls → length ls ≤ sum ls
unfolding sum
sum_filled [] all = omega arith
sum_filled (l ∷ ls) all = omega (arith, all.0, sum_filled ls all.1)

-- so at most 64, and it has these lengths and the bytes of the codes
pub begins_within : (buffer : List ℕ) → begins buffer ≡ true →
    (get_or buffer 0 0 ≤ 64) × (1 + 2 * get_or buffer 0 0 + sum (named_lengths buffer) ≤ length buffer)
unfolding named_bytes
begins_within a e =
    let k : ℕ = get_or a 0 0 in
    let n : ℕ = sum (named_lengths a) in
    let g = good_of (named_lengths a) (named_bytes a) (begins_listed a e).0 in
    let some : 1 ≤ n = omega (arith, g.some, sum_filled (named_lengths a) g.filled) in (
      omega (arith, g.codes, names_length a),
      omega (arith, g.sums, length-take n (drop (1 + 2 * k) a), length-drop (1 + 2 * k) a),
    )

-- THE LENGTHS that a buffer names, read into a list
pub lengths_of : {buffer b : List ℕ} {k : ℕ} → k ≡ get_or buffer 0 0 → LengthsRead buffer k b → take k b ≡ named_lengths buffer
unfolding named_lengths
lengths_of {buffer} e s = s.front ∙ ap (λ (j : ℕ). pairs_of j (drop 1 buffer)) e

-- what lengths of 32 bits add up to, at most
pub sum_below : (ls : List ℕ) → ((i : ℕ) → get_or ls i 0 < 4294967296) → sum ls ≤ 4294967296 * length ls
unfolding sum
sum_below [] f = omega arith
sum_below (l ∷ ls) f = omega (arith, f 0, sum_below ls (λ i. f (suc i)))

-- THE BYTES that it names, n behind k lengths. It begins with no board where they are not there, or refused
module _ (buffer b : List ℕ) (k n : ℕ) (few : k ≤ 64) (count : k ≡ get_or buffer 0 0) (read : take k b ≡ named_lengths buffer) (e : n ≡ sum (take k b)) where
  abbrev bytes : List ℕ
  bytes = take (1 + 2 * k + n - (1 + 2 * k)) (drop (1 + 2 * k) buffer)

  pub bytes_behind : bytes ≡ named_bytes buffer
  unfolding named_bytes
  bytes_behind =
      let at : 1 + 2 * k + n - (1 + 2 * k) ≡ sum (named_lengths buffer) = omega (arith, e, ap sum read) in
      rw (at, count) refl

  pub bytes_missing : length buffer < 1 + 2 * k + n → begins buffer ≡ true → ⊥
  bytes_missing h t = omega (arith, (begins_within buffer t).1, count, e, ap sum read)

  pub bytes_refused : {m : ℕ} → m ≡ list_refusal (take k b) bytes → m ≢ 0 → begins buffer ≡ true → ⊥
  bytes_refused is h t = h (is ∙ rw (bytes_behind, read) (begins_listed buffer t).0)

  pub names_there : 1 + 2 * k + n ≤ length buffer → 0 ≡ list_refusal (take k b) bytes → Names buffer b k (1 + 2 * k + n)
  names_there h is =
      record {
        few = few;
        count_is = count;
        end_is = omega (arith, e, ap sum read);
        within = h;
        lengths_are = read;
        listed = rw (bytes_behind, read) at (sym is);
      }

-- THE CODES are lent from it
pub lent_bytes : {buffer b : List ℕ} {k end : ℕ} → Names buffer b k end → take (end - (1 + 2 * k)) (drop (1 + 2 * k) buffer) ≡ named_bytes buffer
unfolding named_bytes
lent_bytes {buffer} {b} {k} {end} n =
    let size : end - (1 + 2 * k) ≡ sum (named_lengths buffer) = omega (arith, n.end_is) in
    rw (size, n.count_is) refl

-- lengths and bytes that a buffer names, and that a board can have
pub record NamedBy (buffer ls bs : List ℕ) : Type 0 where
  pub lengths_are : ls ≡ named_lengths buffer
  pub bytes_are : bs ≡ named_bytes buffer
  pub listed : list_refusal ls bs ≡ 0

pub named_by : {buffer : List ℕ} {k : Codes} → OnNamed buffer k → NamedBy buffer k.lengths.now k.bytes.now
named_by {buffer} {k} o = record { lengths_are = o.lengths_are; bytes_are = o.bytes_are; listed = k.listed }

-- THE CODES that it names
module _ {buffer ls bs : List ℕ} (o : NamedBy buffer ls bs) where
  pub codes_named : cut ls bs ≡ named buffer
  unfolding named
  codes_named = rw (o.lengths_are, o.bytes_are) refl

  pub codes_twice : twice (cut ls bs) ≡ true → begins buffer ≡ true → ⊥
  codes_twice t b = never_both t (ap twice codes_named ∙ (begins_listed buffer b).1)

  -- it begins with their board where it is the same as the one that is written in front of an area
  pub begins_as : {size : ℕ} (a : List ℕ) {area : List ℕ} {r : Bool} → twice (cut ls bs) ≡ false → size ≡ length (board (cut ls bs)) →
      area ≡ in_front (board (cut ls bs)) a → r ≡ leb size (length area) && same (take size buffer) (take size area) → r ≡ begins buffer
  unfolding begins in_front
  begins_as {size} a {area} once size_is front e =
      let none : codes_refusal (named_lengths buffer) (named_bytes buffer) ≡ 0 =
      rw (← o.lengths_are, ← o.bytes_are) (codes_none ls bs o.listed once) in
      let w : List ℕ = board (named buffer) in
      let room : size ≤ length area = omega (arith, size_is, ap length front, in_front_long (board (cut ls bs)) a) in
      e ∙ rw (le-leb size (length area) room, none, front, size_is, codes_named, take-append_seam w (drop (length w) a)) refl

  -- so also where preparing wrote that; and it begins with none where preparing, with room enough, refused them
  module _ {r : Answer} {a area : List ℕ} (room : board_room ≤ length a) (p : PrepareSays ls bs r a area) where
    told : answer_refusal r ≡ prepare_refusal ls bs (length a)
    unfolding AnswersTold prepare_answer
    told = ap answer_refusal p.answers ∙ (answers_told (prepare_refusal ls bs (length a)) (length (board (cut ls bs)))).0

    pub prepared_none : answer_refusal r ≢ 0 → begins buffer ≡ false
    unfolding prepare_refusal first_refusal refused_if
    prepared_none h =
        fails (begins buffer)
        (λ b.
        let once : twice (cut ls bs) ≡ false = ap twice codes_named ∙ (begins_listed buffer b).1 in
        h (told ∙ rw (codes_none ls bs o.listed once, le-ltb (length a) board_room room)))

    pub prepared_same : answer_refusal r ≡ 0 → {size : ℕ} → size ≡ answer_value r → {t : Bool} →
        t ≡ leb size (length area) && same (take size buffer) (take size area) → t ≡ begins buffer
    unfolding AnswersTold prepare_refusal prepare_answer prepare_buffer
    prepared_same z e =
        let v : ℕ = length (board (cut ls bs)) in
        let n : prepare_refusal ls bs (length a) ≡ 0 = sym told ∙ z in
        let once : twice (cut ls bs) ≡ false = (none_listed ls bs (none_of _ n).0).1 in
        let value : answer_value r ≡ v = ap answer_value p.answers ∙ (answers_told (prepare_refusal ls bs (length a)) v).1 ∙ rw n refl in
        begins_as a once (e ∙ value) (p.leaves ∙ rw n refl)
