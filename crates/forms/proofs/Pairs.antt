-- Brackets in a code: what one byte does to their depth, and that codes which pair by depth are those that balance by count. Assumes nothing.
use mathlib.Core.Path.{◌≡◌, refl, sym, ap, ◌∙◌}
use mathlib.Core.Bool.{Bool, true, false, not, cond, true≢false}
use mathlib.Core.List.{List, [], ◌∷◌}
use mathlib.Core.Logic.{◌≢◌}
use Prim.Native.Nat.{ℕ, zero, suc, ◌+◌, ◌-◌, ◌^◌, ◌≤◌, ◌<◌, zero-le}
use native.Mathlib.Nat.{add-zero}
use native.Mathlib.Omega.{arith}
use borrow.Author.Tests.{ltb-true, lt-ltb, eq-eqb, ne_eqb, eqb-true, eqb-false, not-true}
use lib.Dec.{ltb, eqb}
use lib.ListN.{take}
use lib.Seq.{take-nil}
use Rattle.std.specs.Prelude.{Option, Some, None, SomeIff}
use Rattle.words.specs.Words.{Every}
use Rattle.words.proofs.Tests.{by_eq, and_left, and_right, and_both}
use Rattle.forms.specs.Line.{opening_bracket, closing_bracket, line_feed, deepest, of_code, depth_after, pairs}
use Rattle.forms.specs.Promise.{count, Balanced, PairsBalance}

-- ONE BYTE of a code where d brackets are open, whether it may stand there: an opening bracket, a closing one, another
pub of_code_opening : (d b : ℕ) → b ≡ opening_bracket → of_code d b ≡ ltb d deepest
unfolding of_code
of_code_opening d b e = rw e refl

pub of_code_closing : (d b : ℕ) → b ≡ closing_bracket → of_code d b ≡ ltb 0 d
unfolding of_code
of_code_closing d b e = rw e refl

pub of_code_other : (d b : ℕ) → b ≢ opening_bracket → b ≢ closing_bracket → of_code d b ≡ not (eqb b line_feed)
unfolding of_code
of_code_other d b f g = rw (ne_eqb b opening_bracket f, ne_eqb b closing_bracket g) refl

-- and how many are open behind it
pub depth_opening : (d b : ℕ) → b ≡ opening_bracket → depth_after d b ≡ d + 1
unfolding depth_after
depth_opening d b e = rw e refl

pub depth_closing : (d b : ℕ) → b ≡ closing_bracket → depth_after d b ≡ d - 1
unfolding depth_after
depth_closing d b e = rw e refl

pub depth_other : (d b : ℕ) → b ≢ opening_bracket → b ≢ closing_bracket → depth_after d b ≡ d
unfolding depth_after
depth_other d b f g = rw (ne_eqb b opening_bracket f, ne_eqb b closing_bracket g) refl

-- how many are open behind a byte, if it may stand there
pub behind_opening : (d b : ℕ) (r : Option ℕ) → b ≡ opening_bracket → SomeIff r (d + 1 < 2 ^ 64) (d + 1) → SomeIff r (of_code d b ≡ true) (depth_after d b)
behind_opening d b (Some n) e h = (of_code_opening d b e ∙ lt-ltb d deepest (omega (arith, h.0)), h.1 ∙ sym (depth_opening d b e))
behind_opening d b None e h = λ t. h (let deep : d < deepest = ltb-true d deepest (sym (of_code_opening d b e) ∙ t) in omega arith)

pub behind_closing : (d b : ℕ) (r : Option ℕ) → b ≡ closing_bracket → SomeIff r (1 ≤ d) (d - 1) → SomeIff r (of_code d b ≡ true) (depth_after d b)
behind_closing d b (Some n) e h = (of_code_closing d b e ∙ lt-ltb 0 d (omega (arith, h.0)), h.1 ∙ sym (depth_closing d b e))
behind_closing d b None e h = λ t. h (let some : 0 < d = ltb-true 0 d (sym (of_code_closing d b e) ∙ t) in omega arith)

pub behind_feed : (d b : ℕ) → b ≡ line_feed → of_code d b ≡ true → ⊥
behind_feed d b e t =
    let other : of_code d b ≡ not (eqb b line_feed) = of_code_other d b (λ o. omega (arith, e, o)) (λ s. omega (arith, e, s)) in
    true≢false (sym t ∙ other ∙ ap not (eq-eqb b line_feed e))

pub behind_other : (d b : ℕ) → b ≢ opening_bracket → b ≢ closing_bracket → b ≢ line_feed → (of_code d b ≡ true) × (d ≡ depth_after d b)
behind_other d b o s f = (of_code_other d b o s ∙ ap not (ne_eqb b line_feed f), sym (depth_other d b o s))

pub not_of_code : (d b : ℕ) → (of_code d b ≡ true → ⊥) → of_code d b ≡ false
not_of_code d b h = go (of_code d b) h
  where
    go : (t : Bool) → (t ≡ true → ⊥) → t ≡ false
    go true n = absurd (n refl)
    go false n = refl

-- THE COUNTS of a byte
abbrev openings : List ℕ → ℕ
openings bs = count opening_bracket bs

abbrev closings : List ℕ → ℕ
closings bs = count closing_bracket bs

count_one : (c b : ℕ) → b ≡ c → count c (b ∷ []) ≡ 1
unfolding count
count_one c b e = rw (eq-eqb b c e) refl

count_none : (c b : ℕ) → b ≢ c → count c (b ∷ []) ≡ 0
unfolding count
count_none c b h = rw (ne_eqb b c h) refl

count_more : (c b : ℕ) (bs : List ℕ) → count c (b ∷ bs) ≡ count c (b ∷ []) + count c bs
unfolding count
count_more c b bs = rw (add-zero (cond (eqb b c) 1 0)) refl

-- by whether it is an opening bracket, a closing one or another byte
by_byte : {P : Type 0} (b : ℕ) →
    (b ≡ opening_bracket → openings (b ∷ []) ≡ 1 → closings (b ∷ []) ≡ 0 → P) →
    (b ≡ closing_bracket → openings (b ∷ []) ≡ 0 → closings (b ∷ []) ≡ 1 → P) →
    (b ≢ opening_bracket → b ≢ closing_bracket → openings (b ∷ []) ≡ 0 → closings (b ∷ []) ≡ 0 → P) → P
by_byte b f g h =
    by_eq b opening_bracket
    (λ (e : b ≡ opening_bracket). f e (count_one opening_bracket b e) (count_none closing_bracket b (λ n. omega (arith, e, n))))
    (λ (m : b ≢ opening_bracket).
    by_eq b closing_bracket
    (λ (e : b ≡ closing_bracket). g e (count_none opening_bracket b m) (count_one closing_bracket b e))
    (λ (n : b ≢ closing_bracket). h m n (count_none opening_bracket b m) (count_none closing_bracket b n)))

-- bytes where d brackets are open before them: no more are closed than are open, and no more are open than may be
record Within (d : ℕ) (bytes : List ℕ) : Type 0 where
  early : closings bytes ≤ d + openings bytes
  deep : d + openings bytes ≤ closings bytes + deepest

within_none : (d : ℕ) → d ≤ deepest → Within d []
unfolding count
within_none d l = record { early = zero-le; deep = omega (arith, l) }

-- one byte may stand there exactly if it is so, and no line feed
stands : (d b : ℕ) → d ≤ deepest → of_code d b ≡ true → Within d (b ∷ []) × (b ≢ line_feed)
stands d b l t =
    by_byte b
    (λ e o c.
    let room : d < deepest = ltb-true d deepest (sym (of_code_opening d b e) ∙ t) in
    (record { early = omega (arith, c); deep = omega (arith, o, room) }, (λ f. omega (arith, e, f))))
    (λ e o c.
    let some : 0 < d = ltb-true 0 d (sym (of_code_closing d b e) ∙ t) in
    (record { early = omega (arith, c, some); deep = omega (arith, o, l) }, (λ f. omega (arith, e, f))))
    (λ m n o c. (
      record { early = omega (arith, c); deep = omega (arith, o, l) },
      eqb-false b line_feed (not-true (eqb b line_feed) (sym (of_code_other d b m n) ∙ t)),
    ))

may_stand : (d b : ℕ) → Within d (b ∷ []) → b ≢ line_feed → of_code d b ≡ true
may_stand d b w f =
    by_byte b
    (λ e o c. of_code_opening d b e ∙ lt-ltb d deepest (omega (arith, w.deep, o, c)))
    (λ e o c. of_code_closing d b e ∙ lt-ltb 0 d (omega (arith, w.early, o, c)))
    (λ m n o c. of_code_other d b m n ∙ ap not (ne_eqb b line_feed f))

-- how many are open behind it
level : (d b : ℕ) → Within d (b ∷ []) → depth_after d b + closings (b ∷ []) ≡ d + openings (b ∷ [])
level d b w =
    by_byte b
    (λ e o c. omega (arith, depth_opening d b e, o, c))
    (λ e o c. omega (arith, depth_closing d b e, w.early, o, c))
    (λ m n o c. omega (arith, depth_other d b m n, o, c))

-- IN FRONT OF OTHERS: what is open before it and what is open before them differ by what it opens and closes
module _ (d b : ℕ) (w : Within d (b ∷ [])) (bs : List ℕ) where
  level_more : depth_after d b + openings bs + closings (b ∷ bs) ≡ d + openings (b ∷ bs) + closings bs
  level_more = omega (arith, level d b w, count_more opening_bracket b bs, count_more closing_bracket b bs)

  within_more : Within (depth_after d b) bs → Within d (b ∷ bs)
  within_more v = record { early = omega (arith, level_more, v.early); deep = omega (arith, level_more, v.deep) }

  within_rest : Within d (b ∷ bs) → Within (depth_after d b) bs
  within_rest v = record { early = omega (arith, level_more, v.early); deep = omega (arith, level_more, v.deep) }

-- THE CODE
record BalancedFrom (d : ℕ) (code : List ℕ) : Type 0 where
  within : (i : ℕ) → Within d (take i code)
  left : d + openings code ≡ closings code
  line : Every (λ b. b ≢ line_feed) code

balanced_from : (d : ℕ) (code : List ℕ) → d ≤ deepest → pairs d code ≡ true → BalancedFrom d code
unfolding pairs count
balanced_from d [] l t = record { within = λ i. rw (take-nil {A = ℕ} i) (within_none d l); left = omega (arith, eqb-true d 0 t); line = tt }
balanced_from d (b ∷ bs) l t =
    let s = stands d b l (and_left (of_code d b) (pairs (depth_after d b) bs) t) in
    let h = balanced_from (depth_after d b) bs (omega (arith, level d b s.0, s.0.deep)) (and_right (of_code d b) (pairs (depth_after d b) bs) t) in
    record { within = at s.0 h.within; left = omega (arith, level_more d b s.0 bs, h.left); line = (s.1, h.line) }
  where
    at : Within d (b ∷ []) → ((i : ℕ) → Within (depth_after d b) (take i bs)) → (i : ℕ) → Within d (take i (b ∷ bs))
    at w h zero = within_none d l
    at w h (suc i) = within_more d b w (take i bs) (h i)

pairs_from : (d : ℕ) (code : List ℕ) → BalancedFrom d code → pairs d code ≡ true
unfolding pairs count
pairs_from d [] h = eq-eqb d 0 (omega (arith, h.left))
pairs_from d (b ∷ bs) h =
    let w : Within d (b ∷ []) = h.within 1 in
    and_both (of_code d b) (pairs (depth_after d b) bs) (may_stand d b w h.line.0)
    (pairs_from (depth_after d b) bs
    (record { within = λ i. within_rest d b w (take i bs) (h.within (suc i)); left = omega (arith, level_more d b w bs, h.left); line = h.line.1 }))

pub pairs_balance : PairsBalance
unfolding PairsBalance
pairs_balance code = (by_count, by_depth)
  where
    by_count : pairs 0 code ≡ true → Balanced code
    by_count t =
        let h = balanced_from 0 code zero-le t in
        record {
          none_early = λ i. omega (arith, (h.within i).early);
          none_left = omega (arith, h.left);
          none_deep = λ i. omega (arith, (h.within i).deep);
          one_line = h.line;
        }

    by_depth : Balanced code → pairs 0 code ≡ true
    by_depth h =
        pairs_from 0 code
        (record {
          within = λ i. record { early = omega (arith, h.none_early i); deep = omega (arith, h.none_deep i) };
          left = omega (arith, h.none_left);
          line = h.one_line;
        })
