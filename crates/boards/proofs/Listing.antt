-- The lengths and the bytes of codes handed over: the loops over the lengths, the refusals in their order, and what is known where none comes up.
-- Assumes nothing.
use mathlib.Core.Path.{◌≡◌, refl, sym, ap, ◌∙◌}
use mathlib.Core.Bool.{Bool, true, false, ◌||◌, not, or-true}
use mathlib.Core.List.{List, [], ◌∷◌}
use mathlib.Core.Logic.{◌≢◌}
use Prim.Native.Nat.{ℕ, zero, suc, ◌+◌, ◌*◌, ◌≤◌, ◌<◌}
use native.Mathlib.Numerals.{add-one}
use native.Mathlib.Omega.{arith}
use lib.Dec.{ltb, eqb}
use lib.ListN.{length, get_or, drop, drop_of_length-le}
use lib.Seq.{drop-cons}
use borrow.Author.Tests.{eq-eqb, ne_eqb, lt-ltb, le-ltb, eqb-true, eqb-false, ltb-false, not-false}
use Rattle.std.specs.Prelude.{Result, Ok, Err, OnOk}
use Rattle.std.specs.Result.{is_err}
use Rattle.std.specs.List.{list_any}
use Rattle.runs.specs.declared.Refusal.{Refusal}
use Rattle.runs.specs.Refusals.{refusal_of, refusal_number}
use Rattle.runs.proofs.Refusals.{number_some}
use Rattle.words.specs.Words.{member, Every}
use Rattle.words.proofs.Tests.{never_both, or_none}
use Rattle.words.proofs.Lists.{every_map}
use Rattle.automaton.specs.Costs.{sum}
use Rattle.codes.specs.Codes.{longest_code, has_control}
use Rattle.codes.specs.Refusals.{refused_if, first_refusal}
use Rattle.codes.proofs.Refusals.{none_of, not_refused, first_here}
use Rattle.starts.specs.Starts.{twice}
use Rattle.boards.specs.Board.{cut, most_codes, most_bytes, some_above, no_board, list_refusal, codes_refusal}
use Rattle.boards.specs.Tables.{Good}

-- WHETHER SOME LENGTH passes a test
pub record Some (t : ℕ → Bool) (any : List ℕ → Bool) : Type 0 where
  pub none : any [] ≡ false
  pub more : (l : ℕ) (ls : List ℕ) → any (l ∷ ls) ≡ t l || any ls

pub empty_some : Some (λ l. eqb l 0) (member 0)
unfolding member
empty_some = record { none = refl; more = λ l ls. refl }

pub long_some : (limit : ℕ) → Some (ltb limit) (some_above limit)
unfolding some_above
long_some k = record { none = refl; more = λ l ls. refl }

-- as the library's tests tell it: where one of them does, and where none does
module _ {t : ℕ → Bool} {any : List ℕ → Bool} (a : Some t any) where
  pub any_is : (ls : List ℕ) → list_any t ls ≡ any ls
  any_is [] = sym a.none
  any_is (l ∷ ls) = ap (λ (x : Bool). t l || x) (any_is ls) ∙ sym (a.more l ls)

  pub any_at : (ls : List ℕ) (k : ℕ) → k < length ls → t (get_or ls k 0) ≡ true → any ls ≡ true
  any_at [] k h e = absurd (omega arith)
  any_at (l ∷ ls) zero h e = a.more l ls ∙ rw e refl
  any_at (l ∷ ls) (suc k) h e = a.more l ls ∙ rw (any_at ls k (omega arith) e) (or-true (t l))

  pub any_none : (ls : List ℕ) → ((k : ℕ) → k < length ls → t (get_or ls k 0) ≡ false) → any ls ≡ false
  any_none [] f = a.none
  any_none (l ∷ ls) f =
      let none = any_none ls (λ k h. f (suc k) (omega arith)) in
      a.more l ls ∙ rw (f 0 (omega arith), none) refl

-- where none does, none of them does
module _ {t : ℕ → Bool} {any : List ℕ → Bool} (a : Some t any) where
  pub none_every : (ls : List ℕ) → any ls ≡ false → Every (λ l. t l ≡ false) ls
  none_every [] e = tt
  none_every (l ∷ ls) e = let n = or_none (t l) (any ls) (sym (a.more l ls) ∙ e) in (n.0, none_every ls n.1)

-- WHAT THE LENGTHS ADD UP TO: what those before i do, and those from i on
pub record Summing (ls : List ℕ) (i n : ℕ) : Type 0 where
  pub whole : n + sum (drop i ls) ≡ sum ls
  pub few : n ≤ 4294967295 * i

pub summing_start : (ls : List ℕ) → Summing ls 0 0
summing_start ls = record { whole = omega arith; few = omega arith }

pub summing_turn : (ls : List ℕ) (i n l : ℕ) → i < length ls → l ≡ get_or ls i 0 → l ≤ 4294967295 → Summing ls i n → Summing ls (i + 1) (n + l)
unfolding sum
summing_turn ls i n l h e small s =
    let more : sum (drop i ls) ≡ get_or ls i 0 + sum (drop (i + 1) ls) = rw (drop-cons ls i 0 h, add-one i) refl in
    record { whole = omega (arith, s.whole, more, e); few = omega (arith, s.few) }

pub summing_end : (ls : List ℕ) (i n : ℕ) → length ls ≤ i → Summing ls i n → n ≡ sum ls
unfolding sum
summing_end ls i n h s =
    let none : sum (drop i ls) ≡ 0 = rw (drop_of_length-le ls h) refl in
    omega (arith, s.whole, none)

-- NO BOARD: no codes, too many codes or bytes, or lengths that do not add up to the bytes
module _ (ls bs : List ℕ) where
  pub no_codes : length ls ≡ 0 → no_board ls bs ≡ true
  unfolding no_board
  no_codes e = rw (eq-eqb (length ls) 0 e)

  module _ (some : length ls ≢ 0) where
    pub many_codes : most_codes < length ls → no_board ls bs ≡ true
    unfolding no_board
    many_codes h = rw (ne_eqb (length ls) 0 some, lt-ltb most_codes (length ls) h)

    module _ (codes : length ls ≤ most_codes) where
      pub many_bytes : most_bytes < length bs → no_board ls bs ≡ true
      unfolding no_board
      many_bytes h = rw (ne_eqb (length ls) 0 some, le-ltb most_codes (length ls) codes, lt-ltb most_bytes (length bs) h)

      pub by_sum : length bs ≤ most_bytes → (n : ℕ) → n ≡ sum ls → not (eqb n (length bs)) ≡ no_board ls bs
      unfolding no_board
      by_sum h n e = rw (e, ne_eqb (length ls) 0 some, le-ltb most_codes (length ls) codes, le-ltb most_bytes (length bs) h)

-- AN ANSWER is an error exactly if it has a refusal
pub err_refused : {A : Type 0} (r : Result A Refusal) → is_err r ≡ true → refusal_of r ≢ 0
err_refused (Ok v) e = absurd (never_both e refl)
err_refused (Err s) e = number_some s

pub ok_passed : {A : Type 0} (r : Result A Refusal) → is_err r ≡ false → 0 ≡ refusal_of r
ok_passed (Ok v) e = refl
ok_passed (Err s) e = absurd (never_both refl e)

-- the refusal of building tells whether a code stands there twice
pub twice_refused : (s : Refusal) (t : Bool) → refusal_number s ≡ refused_if 11 t → (t ≡ true) × (refusal_number s ≡ 11)
unfolding refused_if
twice_refused s true e = (refl, e)
twice_refused s false e = absurd (number_some s e)

pub once_passed : (t : Bool) → 0 ≡ refused_if 11 t → t ≡ false
once_passed t e = not_refused 10 t (sym e)

pub err_twice : {A : Type 0} (r : Result A Refusal) (t : Bool) → is_err r ≡ true → refusal_of r ≡ refused_if 11 t → t ≡ true
err_twice (Ok v) t e f = absurd (never_both e refl)
err_twice (Err s) t e f = (twice_refused s t f).0

pub on_ok : {A : Type 0} {P : Type 0} (r : Result A Refusal) → is_err r ≡ false → OnOk r P → P
on_ok (Ok v) e p = p
on_ok (Err s) e p = absurd (never_both refl e)

-- THE REFUSALS of lengths and bytes, each after those before it passed
module _ (ls bs : List ℕ) where
  pub refuses_1 : member 0 ls ≡ true → list_refusal ls bs ≡ 1
  unfolding list_refusal first_refusal refused_if
  refuses_1 a = rw a

  module _ (a : member 0 ls ≡ false) where
    pub refuses_2 : some_above longest_code ls ≡ true → list_refusal ls bs ≡ 2
    unfolding list_refusal first_refusal refused_if
    refuses_2 b = rw (a, b)

    module _ (b : some_above longest_code ls ≡ false) where
      pub refuses_10 : no_board ls bs ≡ true → list_refusal ls bs ≡ 10
      unfolding list_refusal first_refusal refused_if
      refuses_10 c = rw (a, b, c)

      module _ (c : no_board ls bs ≡ false) where
        pub refuses_13 : has_control bs ≡ true → list_refusal ls bs ≡ 13
        unfolding list_refusal first_refusal refused_if
        refuses_13 d = rw (a, b, c, d)

        pub refuses_none : has_control bs ≡ false → list_refusal ls bs ≡ 0
        unfolding list_refusal first_refusal refused_if
        refuses_none d = rw (a, b, c, d)

  -- NO REFUSAL: a board can have the codes, and two bytes can hold each length
  module _ (e : list_refusal ls bs ≡ 0) where
    passed : (member 0 ls ≡ false) × (some_above longest_code ls ≡ false) × (no_board ls bs ≡ false)
    unfolding list_refusal
    passed =
        let n = none_of _ e in
        (not_refused 0 (member 0 ls) n.0, not_refused 1 (some_above longest_code ls) n.1.0, not_refused 9 (no_board ls bs) n.1.1.0)

    pub good_of : Good ls bs
    unfolding no_board
    good_of =
        let a = or_none (eqb (length ls) 0 || ltb most_codes (length ls)) (ltb most_bytes (length bs) || not (eqb (sum ls) (length bs))) passed.2 in
        let b = or_none (eqb (length ls) 0) (ltb most_codes (length ls)) a.0 in
        let c = or_none (ltb most_bytes (length bs)) (not (eqb (sum ls) (length bs))) a.1 in
        let some : length ls ≢ 0 = eqb-false (length ls) 0 b.0 in
        record {
          some = omega arith;
          codes = ltb-false most_codes (length ls) b.1;
          sums = eqb-true (sum ls) (length bs) (not-false (eqb (sum ls) (length bs)) c.1);
          bytes = ltb-false most_bytes (length bs) c.0;
          filled = every_map ls (λ l h. let n : l ≢ 0 = eqb-false l 0 h in omega arith) (none_every empty_some ls passed.0);
        }

-- and the last one, 11
module _ (ls bs : List ℕ) where
  pub refuses_first : list_refusal ls bs ≢ 0 → codes_refusal ls bs ≡ list_refusal ls bs
  unfolding codes_refusal
  refuses_first h = first_here _ _ h

  pub refuses_11 : list_refusal ls bs ≡ 0 → twice (cut ls bs) ≡ true → codes_refusal ls bs ≡ 11
  unfolding codes_refusal first_refusal refused_if
  refuses_11 e t = rw (e, t)

  pub codes_none : list_refusal ls bs ≡ 0 → twice (cut ls bs) ≡ false → codes_refusal ls bs ≡ 0
  unfolding codes_refusal first_refusal refused_if
  codes_none e t = rw (e, t)

  pub none_listed : codes_refusal ls bs ≡ 0 → (list_refusal ls bs ≡ 0) × (twice (cut ls bs) ≡ false)
  unfolding codes_refusal
  none_listed e = let n = none_of _ e in (n.0, not_refused 10 (twice (cut ls bs)) n.1.0)
