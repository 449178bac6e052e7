-- Bytes put on a page, as many as have room: from what is written into its buffer, one part behind another, and all of them. Assumes nothing.
use mathlib.Core.Path.{◌≡◌, sym, ap, ◌∙◌}
use mathlib.Core.List.{List, [], ◌++◌, append-nil, append_assoc}
use Prim.Native.Nat.{ℕ, ◌+◌, ◌-◌, ◌≤◌, ◌<◌, min}
use native.Mathlib.Omega.{arith}
use lib.ListN.{length, take, length-append, length-take}
use lib.Seq.{length-take-le, take_all, take-append-add, take-append-le}
use Rattle.words.proofs.Tests.{by_le}
use Rattle.forms.specs.Text.{Written, Put}
use Rattle.forms.proofs.Writing.{written_behind, written_front}

-- WRITTEN into a buffer of which the first `used` bytes stand on the page
pub written_put : {room used end : ℕ} {a b bs : List ℕ} → length a ≡ room → used ≤ room → Written bs used a end b → Put bs room (take used a) (take end b)
written_put {room} {used} {end} {a} {b} {bs} long fits w =
    let size : length (take used a) ≡ used = length-take-le used a (omega arith) in
    record { has = rw (size, ← long) (written_behind (written_front (omega arith) w) (omega (arith, length-take (length a - used) bs))).0 }

-- NOTHING, and ONE PART BEHIND ANOTHER
pub put_none : (room : ℕ) (a : List ℕ) → Put [] room a a
put_none room a = record { has = sym (ap (λ (l : List ℕ). a ++ l) (take_all (room - length a) [] (omega arith)) ∙ append-nil a) }

take_parts : (k : ℕ) (bs cs : List ℕ) → take k (bs ++ cs) ≡ take k bs ++ take (k - length bs) cs
take_parts k bs cs =
    by_le (length bs) k
    (λ (h : length bs ≤ k).
    let split : length bs + (k - length bs) ≡ k = omega arith in
    ap (λ (m : ℕ). take m (bs ++ cs)) (sym split) ∙ rw (take_all k bs h) (take-append-add bs cs (k - length bs)))
    (λ (h : k < length bs).
    let none : k - length bs ≡ 0 = omega arith in
    take-append-le k bs cs (omega arith) ∙ rw none (sym (append-nil (take k bs))))

pub put_on : {room : ℕ} {a b c bs cs : List ℕ} → Put bs room a b → Put cs room b c → Put (bs ++ cs) room a c
put_on {room} {a} {b} {bs = bs} {cs} f g =
    let k : ℕ = room - length a in
    let long : length b ≡ length a + min k (length bs) = rw f.has (omega (arith, length-append a (take k bs), length-take k bs)) in
    let same : room - length b ≡ k - length bs = omega arith in
    record { has = g.has ∙ rw (same, f.has) (append_assoc a (take k bs) (take (k - length bs) cs) ∙ ap (λ (l : List ℕ). a ++ l) (sym (take_parts k bs cs))) }

-- ALL OF THEM, where they have room
pub put_all : {room : ℕ} {a b bs : List ℕ} → Put bs room a b → length a + length bs ≤ room → b ≡ a ++ bs
put_all {room} {a} {bs = bs} f h = f.has ∙ ap (λ (l : List ℕ). a ++ l) (take_all (room - length a) bs (omega arith))

pub put_first : {room : ℕ} {a b bs : List ℕ} → Put bs room a b → a ≡ [] → length bs ≤ room → b ≡ bs
put_first {room} {a} {b} {bs} f e h = rw e at (put_all f (rw e (omega arith)))
