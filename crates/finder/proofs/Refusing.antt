-- The refusals of feeding in their order, what is known when none comes up, and the contract by refusal. Assumes nothing.
use mathlib.Core.Path.{◌≡◌, refl}
use mathlib.Core.Bool.{true, false, not}
use mathlib.Core.Logic.{◌≢◌}
use mathlib.Core.List.{List}
use Prim.Native.Nat.{ℕ, zero, suc, ◌+◌, ◌≤◌, ◌<◌}
use borrow.Author.Tests.{eq-eqb, ne_eqb, lt-ltb, le-ltb, ltb-false, eqb-false, not-false}
use native.Mathlib.Omega.{arith}
use lib.Dec.{ltb, eqb}
use lib.ListN.{length}
use Rattle.words.proofs.Tests.{by_test, by_eq, by_le}
use Rattle.std.specs.Prelude.{Ok, Err}
use Rattle.runs.specs.declared.Feeding.{Feeding}
use Rattle.runs.specs.declared.Refusal.{Refusal}
use Rattle.runs.specs.Answers.{answer_of}
use Rattle.runs.specs.Refusals.{refusal_number}
use Rattle.runs.proofs.Refusals.{number_some}
use Rattle.runs.specs.Reading.{longest_text}
use Rattle.codes.specs.Refusals.{refused_if, first_refusal}
use Rattle.codes.proofs.Refusals.{none_of, not_refused}
use Rattle.sheets.specs.Sheet.{named, begins}
use Rattle.finder.specs.declared.Watch.{Watch}
use Rattle.finder.specs.Feed.{fit}
use Rattle.finder.specs.Entry.{Lent, feed_refusal, refused_call, call_by, feed_call, FeedSays}
use Rattle.finder.specs.Inside.{Ready, Took}
use Rattle.finder.proofs.Fitness.{fit_ready}

-- THE TESTS, each after those before it passed
module _ (bs : List ℕ) (x : Watch) (l k : ℕ) where
  pub refuses_4 : begins bs ≡ false → feed_refusal bs x l k ≡ 4
  unfolding feed_refusal first_refusal refused_if
  refuses_4 b = rw b

  module _ (b : begins bs ≡ true) where
    pub refuses_5 : fit (length (named bs)) x ≡ false → feed_refusal bs x l k ≡ 5
    unfolding feed_refusal first_refusal refused_if
    refuses_5 f = rw (b, f)

    module _ (f : fit (length (named bs)) x ≡ true) where
      pub refuses_6 : k ≡ 0 → feed_refusal bs x l k ≡ 6
      unfolding feed_refusal first_refusal refused_if
      refuses_6 e = rw (b, f, eq-eqb k 0 e)

      module _ (n : k ≢ 0) where
        pub refuses_7 : longest_text < x.taken + l → feed_refusal bs x l k ≡ 7
        unfolding feed_refusal first_refusal refused_if
        refuses_7 h = rw (b, f, ne_eqb k 0 n, lt-ltb longest_text (x.taken + l) h)

        pub refuses_none : x.taken + l ≤ longest_text → feed_refusal bs x l k ≡ 0
        unfolding feed_refusal first_refusal refused_if
        refuses_none h = rw (b, f, ne_eqb k 0 n, le-ltb longest_text (x.taken + l) h)

    pub never_4 : feed_refusal bs x l k ≢ 4
    never_4 e =
        by_test (fit (length (named bs)) x)
        (λ f.
        by_eq k 0
        (λ (z : k ≡ 0). omega (arith, refuses_6 f z, e))
        (λ (n : k ≢ 0).
        by_le (x.taken + l) longest_text
        (λ (h : x.taken + l ≤ longest_text). omega (arith, refuses_none f n h, e))
        (λ (h : longest_text < x.taken + l). omega (arith, refuses_7 f n h, e))))
        (λ f. omega (arith, refuses_5 f, e))

  -- NO REFUSAL: the buffer begins with a sheet, and the watch can take the piece
  module _ (e : feed_refusal bs x l k ≡ 0) where
    passed : (begins bs ≡ true) × (fit (length (named bs)) x ≡ true) × (eqb k 0 ≡ false) × (ltb longest_text (x.taken + l) ≡ false)
    unfolding feed_refusal
    passed =
        let n = none_of _ e in (
          not-false (begins bs) (not_refused 3 (not (begins bs)) n.0),
          not-false (fit (length (named bs)) x) (not_refused 4 (not (fit (length (named bs)) x)) n.1.0),
          not_refused 5 (eqb k 0) n.1.1.0,
          not_refused 6 (ltb longest_text (x.taken + l)) n.1.1.1.0,
        )

    pub none_room : 1 ≤ k
    none_room = let h : k ≢ 0 = eqb-false k 0 passed.2 in omega arith

    pub none_begins : begins bs ≡ true
    none_begins = passed.0

    pub none_ready : {w : List ℕ} → w ≡ named bs → Ready (length w) x l
    none_ready {w} is =
        rw is (fit_ready (length (named bs)) x l passed.1 (ltb-false longest_text (x.taken + l) passed.3))

-- THE CONTRACT
module _ (bs : List ℕ) (x : Watch) (l : Lent) where
  pub says_refused : (r : Refusal) → refusal_number r ≡ feed_refusal bs x (length l.piece) (length l.list) →
      FeedSays bs x l (answer_of x (Err r)) l
  unfolding feed_call
  says_refused r e = record { is = rw (← e) (by_number (refusal_number r) (number_some r)) }
    where
      by_number : (j : ℕ) → j ≢ 0 → refused_call j x l ≡ call_by j (named bs) x l
      by_number zero z = absurd (z refl)
      by_number (suc j) z = unfold call_by in refl

  pub says_took : feed_refusal bs x (length l.piece) (length l.list) ≡ 0 → {w : List ℕ} → w ≡ named bs → (r : Feeding Watch ℕ) (a : Lent) →
      Took w x l r a → FeedSays bs x l (answer_of x (Ok r)) a
  unfolding feed_call call_by
  says_took z {w} e r a t = record { is = rw (z, ← e) t.is }
