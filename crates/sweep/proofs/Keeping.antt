-- The codes that are kept, and preparing their board. Assumes nothing.
use mathlib.Core.Path.{◌≡◌, refl, sym, ap, ◌∙◌}
use mathlib.Core.Bool.{Bool, true, false, ◌||◌, or-true, or-false}
use mathlib.Core.List.{List, [], ◌∷◌, ◌++◌, map, map-append}
use mathlib.Core.Logic.{◌≢◌}
use Prim.Native.Nat.{ℕ, suc, ◌+◌, ◌-◌, ◌≤◌, ◌<◌, min}
use native.Mathlib.Omega.{arith}
use lib.Dec.{ltb, eqb}
use lib.ListN.{length, take, drop, set, length-append, length-set, length-take}
use lib.Seq.{take_all, take-append-le, take-suc-set}
use borrow.Author.Tests.{ne_eqb, lt-ltb, ltb-false}
use Rattle.words.specs.Words.{member}
use Rattle.words.proofs.Tests.{by_le, or_none}
use Rattle.words.proofs.Lists.{length_snoc}
use Rattle.std.specs.Prelude.{Result, Ok, Err}
use Rattle.runs.specs.declared.Refusal.{Refusal}
use Rattle.runs.specs.Refusals.{refusal_of}
use Rattle.codes.specs.Refusals.{refused_if, first_refusal, Answer, answer_refusal, told}
use Rattle.codes.specs.Codes.{longest_code, has_control}
use Rattle.codes.proofs.Refusals.{first_here}
use Rattle.starts.specs.Starts.{twice}
use Rattle.forms.specs.Text.{Put}
use Rattle.forms.proofs.Paging.{put_on}
use Rattle.boards.specs.Board.{cut, bytes_of, most_codes, most_bytes, some_above, no_board, list_refusal, codes_refusal, board_room, board}
use Rattle.boards.specs.Entry.{prepare_refusal, PrepareSays}
use Rattle.boards.specs.Promise.{PrepareMakes, PreparingAnswers}
use Rattle.boards.proofs.Listing.{Some, empty_some, long_some, many_codes, refuses_1, refuses_2, refuses_10, refuses_first}
use Rattle.boards.proofs.Boards.{bytes_cut, prepare_makes, preparing_answers}
use Rattle.boards.proofs.Listed.{bytes_more}
use Rattle.sweep.specs.declared.head.Codes.{Codes}
use Rattle.sweep.specs.Lines.{InList, CodesKept, Adds, Boarded}

-- KEPT of a list that grows, as much of it as has room
pub kept_on : (room : ℕ) (xs : List ℕ) {a b bs : List ℕ} → a ≡ take room xs → Put bs room a b → b ≡ take room (xs ++ bs)
kept_on room xs {a} e f =
    let all : room - 0 ≡ room = omega arith in
    let first : Put xs room [] a = record { has = rw all e } in
    rw all at (put_on first f).has

-- A LIST with so much room: nothing in it, one more, and none more
listed_none : {room : ℕ} (a : List ℕ) → length a ≡ room → InList room [] 0 a
listed_none {room} a e = record { long = e; size = omega arith; front = sym (take_all room [] (omega arith)) }

module _ {room n : ℕ} {xs a : List ℕ} (l : InList room xs n a) where
  listed_more : (x : ℕ) → n < room → InList room (xs ++ (x ∷ [])) (n + 1) (set a n x)
  listed_more x h =
      let one : n + 1 ≡ suc n = omega arith in
      let front : take n a ≡ xs = l.front ∙ take_all room xs (omega (arith, l.size)) in
      let in_list : n < length a = omega (arith, l.long) in
      record {
        long = length-set a n x ∙ l.long;
        size = omega (arith, l.size, length_snoc xs x);
        front = rw (one, take-suc-set a n x in_list, front) (sym (take_all room (xs ++ (x ∷ [])) (omega (arith, l.size, length_snoc xs x))));
      }

  listed_full : (ys : List ℕ) → room ≤ n → InList room (xs ++ ys) n a
  listed_full ys h =
      record {
        long = l.long;
        size = omega (arith, l.size, length-append xs ys);
        front = l.front ∙ sym (take-append-le room xs ys (omega (arith, l.size)));
      }

-- all that was to be kept, or more than that
listed_all : {k n : ℕ} {xs a : List ℕ} → InList (suc k) xs n a → n ≤ k → take n a ≡ xs
listed_all {k} {xs = xs} l h = l.front ∙ take_all (suc k) xs (omega (arith, l.size))

listed_over : {k n : ℕ} {xs a : List ℕ} → InList (suc k) xs n a → k < n → k < length xs
listed_over l h = omega (arith, l.size)

front_long : (k : ℕ) (xs : List ℕ) {b : List ℕ} → b ≡ take (suc k) xs → length b ≡ min (suc k) (length xs)
front_long k xs e = ap (λ (l : List ℕ). length l) e ∙ length-take (suc k) xs

front_all : (k : ℕ) (xs : List ℕ) {b : List ℕ} → b ≡ take (suc k) xs → length b ≤ k → b ≡ xs
front_all k xs e h = e ∙ take_all (suc k) xs (omega (arith, front_long k xs e))

-- no code yet
pub kept_none : (c : Codes) → c.empty ≡ false → c.long ≡ false → c.count ≡ 0 → length c.lengths ≡ suc most_codes → c.bytes ≡ [] → CodesKept [] c
unfolding member some_above bytes_of
kept_none c e l z long none =
    record { empties = e; longs = l; lengths_are = λ _. rw z (listed_none c.lengths long); bytes_are = λ _. none }

-- whether one of some lengths passes a test, and one more
or_group : (a b c : Bool) → a || (b || c) ≡ a || b || c
or_group true b c = refl
or_group false b c = refl

some_more : {t : ℕ → Bool} {any : List ℕ → Bool} → Some t any → (ls : List ℕ) (l : ℕ) → any (ls ++ (l ∷ [])) ≡ any ls || t l
some_more {t} a [] l = rw (a.more l [], a.none) (or-false (t l))
some_more {t} {any} a (x ∷ ls) l = rw (a.more x ls, a.more x (ls ++ (l ∷ [])), some_more a ls l) (or_group (t x) (any ls) (t l))

-- ONE CODE MORE, of which n bytes are kept: it is empty, or too long, just where n tells so
kept_empty : (k n : ℕ) → n ≡ min k (suc longest_code) → eqb n 0 ≡ eqb k 0
kept_empty k n e =
    by_le k longest_code
    (λ (h : k ≤ longest_code). let all : n ≡ k = omega arith in rw all)
    (λ (h : longest_code < k). ne_eqb n 0 (λ z. omega arith) ∙ sym (ne_eqb k 0 (λ z. omega arith)))

kept_long : (k n : ℕ) → n ≡ min k (suc longest_code) → ltb longest_code n ≡ ltb longest_code k
kept_long k n e =
    by_le k longest_code
    (λ (h : k ≤ longest_code). let all : n ≡ k = omega arith in rw all)
    (λ (h : longest_code < k). lt-ltb longest_code n (omega arith) ∙ sym (lt-ltb longest_code k h))

module _ {f : List ℕ} {c d : Codes} (put : Put f (suc most_bytes) c.bytes d.bytes) (empties : d.empty ≡ (c.empty || eqb (length f) 0))
    (longs : d.long ≡ (c.long || ltb longest_code (length f))) where
  pub kept_more : ((ls : List ℕ) → InList (suc most_codes) ls c.count c.lengths → InList (suc most_codes) (ls ++ (length f ∷ [])) d.count d.lengths) → Adds f c d
  kept_more listed ws code i k =
      let lengths : map length (ws ++ (code ∷ [])) ≡ map length ws ++ (length code ∷ []) = map-append (λ (w : List ℕ). length w) ws (code ∷ []) in
      record {
        empties =
            empties ∙ rw (lengths, some_more empty_some (map length ws) (length code), ← kept_empty (length code) (length f) i.size, ← k.empties) refl;
        longs =
            longs ∙ rw (lengths, some_more (long_some longest_code) (map length ws) (length code), ← kept_long (length code) (length f) i.size, ← k.longs) refl;
        lengths_are = λ e. rw (lengths, ← (whole (sym longs ∙ e)).0) (listed (map length ws) (k.lengths_are (short (sym longs ∙ e)).0));
        bytes_are = λ e.
            rw (bytes_more ws code, ← (whole (sym longs ∙ e)).1) (kept_on (suc most_bytes) (bytes_of ws) (k.bytes_are (short (sym longs ∙ e)).0) put);
      }
    where
      short : c.long || ltb longest_code (length f) ≡ false → (c.long ≡ false) × (ltb longest_code (length f) ≡ false)
      short e = or_none c.long (ltb longest_code (length f)) e

      whole : c.long || ltb longest_code (length f) ≡ false → (length f ≡ length code) × (f ≡ code)
      whole e =
          let h : length f ≤ longest_code = ltb-false longest_code (length f) (short e).1 in
          (omega (arith, i.size), i.whole (omega (arith, i.size)))

  -- its length has room in the list, or not
  pub kept_listed : c.count < suc most_codes → d.count ≡ c.count + 1 → d.lengths ≡ set c.lengths c.count (length f) → Adds f c d
  kept_listed h n e = kept_more (λ ls l. rw (n, e) (listed_more l (length f) h))

  pub kept_unlisted : suc most_codes ≤ c.count → d.count ≡ c.count → d.lengths ≡ c.lengths → Adds f c d
  kept_unlisted h n e = kept_more (λ ls l. rw (n, e) (listed_full l (length f ∷ []) h))

-- THE REFUSALS of codes: those of their lengths and bytes come first, and too many bytes are no board
by_list : (ls bs : List ℕ) (room n : ℕ) → n ≢ 0 → list_refusal ls bs ≡ n → prepare_refusal ls bs room ≡ n
unfolding prepare_refusal
by_list ls bs room n h e =
    let codes : codes_refusal ls bs ≡ n = refuses_first ls bs (λ z. h (sym e ∙ z)) ∙ e in
    rw codes (first_here n _ h)

many_bytes : (ls bs : List ℕ) → most_bytes < length bs → no_board ls bs ≡ true
unfolding no_board
many_bytes ls bs h = rw (lt-ltb most_bytes (length bs) h, or-true (eqb (length ls) 0 || ltb most_codes (length ls)))

-- preparing refuses nothing with 8
refusals : (a b c d e f : Bool) →
    first_refusal (
    first_refusal (first_refusal (refused_if 1 a ∷ refused_if 2 b ∷ refused_if 10 c ∷ refused_if 13 d ∷ []) ∷ refused_if 11 e ∷ [])
    ∷ refused_if 3 f
    ∷ [])
    ≢ 8
unfolding first_refusal refused_if
refusals true b c d e f z = omega arith
refusals false true c d e f z = omega arith
refusals false false true d e f z = omega arith
refusals false false false true e f z = omega arith
refusals false false false false true f z = omega arith
refusals false false false false false true z = omega arith
refusals false false false false false false z = omega arith

pub never_8 : (ls bs : List ℕ) (room : ℕ) → prepare_refusal ls bs room ≢ 8
unfolding prepare_refusal codes_refusal list_refusal
never_8 ls bs room =
    refusals (member 0 ls) (some_above longest_code ls) (no_board ls bs) (has_control bs) (twice (cut ls bs)) (ltb room board_room)

-- THE BOARD of the codes that are kept
module _ {ws : List (List ℕ)} {c : Codes} (k : CodesKept ws c) where
  abbrev lengths : List ℕ
  lengths = map length ws

  refused_by : (n : ℕ) {b : List ℕ} → n ≢ 0 → list_refusal lengths (bytes_of ws) ≡ n → Boarded ws n b
  refused_by n h e = record { refused = sym (by_list lengths (bytes_of ws) board_room n h e); prepared = λ z. absurd (h z) }

  pub refused_1 : {b : List ℕ} → c.empty ≡ true → Boarded ws 1 b
  refused_1 e = refused_by 1 (λ z. omega arith) (refuses_1 lengths (bytes_of ws) (sym k.empties ∙ e))

  module _ (filled : c.empty ≡ false) where
    pub refused_2 : {b : List ℕ} → c.long ≡ true → Boarded ws 2 b
    refused_2 e = refused_by 2 (λ z. omega arith) (refuses_2 lengths (bytes_of ws) (sym k.empties ∙ filled) (sym k.longs ∙ e))

    module _ (short : c.long ≡ false) where
      by_no_board : {b : List ℕ} → no_board lengths (bytes_of ws) ≡ true → Boarded ws 10 b
      by_no_board e =
          refused_by 10 (λ z. omega arith) (refuses_10 lengths (bytes_of ws) (sym k.empties ∙ filled) (sym k.longs ∙ short) e)

      pub refused_many : {b : List ℕ} → most_codes < c.count → Boarded ws 10 b
      refused_many h =
          let over : most_codes < length lengths = listed_over (k.lengths_are short) h in
          by_no_board (many_codes lengths (bytes_of ws) (λ z. omega arith) over)

      pub refused_large : {b : List ℕ} → most_bytes < length c.bytes → Boarded ws 10 b
      refused_large h = by_no_board (many_bytes lengths (bytes_of ws) (omega (arith, front_long most_bytes (bytes_of ws) (k.bytes_are short))))

      pub prepared_kept : {r : Answer} {a b : List ℕ} → c.count ≤ most_codes → length c.bytes ≤ most_bytes → length a ≡ board_room →
          PrepareSays (take c.count c.lengths) c.bytes r a b → Boarded ws (answer_refusal r) b
      unfolding PreparingAnswers PrepareMakes
      prepared_kept {r} {a} {b} few small room p =
          let q : PrepareSays lengths (bytes_of ws) r a b =
          rw (listed_all (k.lengths_are short) few, front_all most_bytes (bytes_of ws) (k.bytes_are short) small) at p in
          let told : answer_refusal r ≡ prepare_refusal lengths (bytes_of ws) (length a) =
          ap answer_refusal q.answers ∙ (preparing_answers lengths (bytes_of ws) a).0 in
          record {
            refused = told ∙ rw room refl;
            prepared = λ z.
                let made = rw (bytes_cut ws) at (prepare_makes lengths (bytes_of ws) a (sym told ∙ z)) in
                record { good = made.0; rest = drop (length (board ws)) a; is = q.leaves ∙ made.1 };
          }

-- what refuses an answer is the refusal that the code names
pub told_refusal : (r : Result ℕ Refusal) → answer_refusal (told r) ≡ refusal_of r
told_refusal (Ok v) = refl
told_refusal (Err e) = refl
