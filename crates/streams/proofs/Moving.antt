-- Bytes that were moved, one part after another. Assumes nothing.
use mathlib.Core.Path.{◌≡◌, refl, subst}
use mathlib.Core.Bool.{Bool, true, false, cond}
use mathlib.Core.List.{List, [], ◌++◌}
use Prim.Native.Nat.{ℕ, suc, ◌+◌, ◌-◌, ◌^◌, ◌≤◌, ◌<◌}
use native.Mathlib.Omega.{arith}
use lib.ListN.{length, get_or, length-append, get_or-append}
use lib.Seq.{get_or-append-add}
use Rattle.words.specs.Words.{byte}
use Rattle.words.proofs.Tests.{by_le}
use Rattle.streams.specs.Receipts.{CountedOn, Moved}
use Rattle.streams.specs.Streams.{Rises}

-- NO BYTES, and one part after another
pub moved_none : (P : ℕ → ℕ → Type 0) (at : ℕ) → Moved P at at []
moved_none P at = record { counted = record { exact = omega arith; fits = λ h. absurd (omega arith) }; each = λ i h. absurd (omega arith) }

-- the second part's receipts, counted from the first part's start
join_each : (P : ℕ → ℕ → Type 0) (at : ℕ) (xs ys : List ℕ) →
    ((i : ℕ) → i < length xs → P (at + i) (byte xs i)) → ((i : ℕ) → i < length ys → P (at + length xs + i) (byte ys i)) →
    (i : ℕ) → i < length (xs ++ ys) → P (at + i) (byte (xs ++ ys) i)
unfolding byte
join_each P at xs ys f g i h =
    by_le (length xs) i
    (λ (l : length xs ≤ i).
    let j : ℕ = i - length xs in
    let e : length xs + j ≡ i = omega arith in
    let a : at + (length xs + j) ≡ at + length xs + j = omega arith in
    let second : P (at + (length xs + j)) (get_or (xs ++ ys) (length xs + j) 0) = rw (a, get_or-append-add xs ys j 0) (g j (omega (arith, length-append xs ys))) in
    subst (λ (n : ℕ). P (at + n) (get_or (xs ++ ys) n 0)) e second)
    (λ (l : i < length xs). rw (get_or-append xs ys 0 i l) (f i l))

counted_join : {at mid after n k : ℕ} → CountedOn at n mid → CountedOn mid k after → CountedOn at (n + k) after
counted_join {at} {mid} {after} {n} {k} f g =
    record {
      exact = omega (arith, f.exact, g.exact);
      fits = λ h. by_le 1 k g.fits (λ (z : k < 1). let fits : mid < 2 ^ 64 = f.fits (omega arith) in omega (arith, g.exact));
    }

pub moved_join : {P : ℕ → ℕ → Type 0} {at mid after : ℕ} {xs ys : List ℕ} →
    Moved P at mid xs → Moved P mid after ys → Moved P at after (xs ++ ys)
moved_join {P} {at} {mid} {after} {xs} {ys} f g =
    record {
      counted = rw length-append (counted_join f.counted g.counted);
      each = join_each P at xs ys f.each (λ i h. rw f.counted.exact at (g.each i h));
    }

-- WHY A LOOP ENDS: each turn that is to be followed by another counts bytes that came, in 64 bits
abbrev pub turns_left : (more : Bool) → (came : ℕ) → ℕ
turns_left t n = cond t (suc (2 ^ 64 - n)) 0

pub fewer_left : (t u : Bool) (n k : ℕ) → t ≡ true → Rises u n k → turns_left u k < turns_left t n
fewer_left t true n k e f = rw e (let up : (n < k) × (k < 2 ^ 64) = f refl in omega arith)
fewer_left t false n k e f = rw e (omega arith)
