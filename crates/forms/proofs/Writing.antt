-- Bytes written over a buffer's own, as many as have room: one after another, and several at once. Assumes nothing.
use mathlib.Core.Path.{◌≡◌, refl, sym, ap, ◌∙◌}
use mathlib.Core.List.{List, [], ◌∷◌, ◌++◌, append-nil, append_assoc}
use Prim.Native.Nat.{ℕ, suc, ◌+◌, ◌*◌, ◌-◌, ◌≤◌, ◌<◌, min}
use native.Mathlib.Omega.{arith}
use native.Mathlib.Numerals.{add-one}
use borrow.Rule.Slice.PartMut.{put_mid, Post-is}
use lib.ListN.{length, get_or, take, drop, set, length-append, length-take, take-append-drop}
use lib.Seq.{sets, set_out, sets-eq, length-sets, length-take-le, take-append_seam, take-suc, take_all}
use Rattle.std.proofs.lemmas.List.{drop_all}
use Rattle.words.proofs.Tests.{by_le}
use Rattle.forms.specs.Text.{place_form, place_forms, Written, WrittenWithin}

-- all at once, or the first ones and then the others
sets_append : (a : List ℕ) (at : ℕ) (bs cs : List ℕ) → sets a at (bs ++ cs) ≡ sets (sets a at bs) (at + length bs) cs
sets_append a at [] cs = let e : at + 0 ≡ at = omega arith in rw e refl
sets_append a at (b ∷ bs) cs =
    let e : at + suc (length bs) ≡ suc at + length bs = omega arith in rw e (sets_append (set a at b) (suc at) bs cs)

-- behind the buffer's end nothing is written
pub sets_out : (a : List ℕ) (at : ℕ) (bs : List ℕ) → length a ≤ at → sets a at bs ≡ a
sets_out a at [] h = refl
sets_out a at (b ∷ bs) h = rw (set_out a at b h) (sets_out a (suc at) bs (omega arith))

-- NOTHING, and ONE AFTER ANOTHER
pub written_none : (at : ℕ) (a : List ℕ) → Written [] at a at a
written_none at a = record { ends = omega arith; has = refl }

pub written_on : {bs cs a b c : List ℕ} {at mid end : ℕ} → Written bs at a mid b → Written cs mid b end c → Written (bs ++ cs) at a end c
written_on {bs} {cs} {a} {b} {c} {at} {mid} {end} f g =
    let long : length b ≡ length a = ap length f.has ∙ length-sets a at bs in
    record {
      ends = omega (arith, f.ends, g.ends, long, length-append bs cs);
      has = by_le (length bs) (length a - at) (room long) (full long);
    }
  where
    room : length b ≡ length a → length bs ≤ length a - at → c ≡ sets a at (bs ++ cs)
    room long h =
        let m : mid ≡ at + length bs = omega (arith, f.ends) in
        g.has ∙ rw (sets_append a at bs cs, ← m, ← f.has)

    full : length b ≡ length a → length a - at < length bs → c ≡ sets a at (bs ++ cs)
    full long h =
        g.has
        ∙ sets_out b mid cs (omega (arith, f.ends))
        ∙ f.has
        ∙ sym (sets_append a at bs cs ∙ sets_out (sets a at bs) (at + length bs) cs (omega (arith, length-sets a at bs)))

-- WITH ROOM FOR ALL: they stand behind those before them
pub written_behind : {bs a b : List ℕ} {at end : ℕ} → Written bs at a end b → at + length bs ≤ length a →
    (take end b ≡ take at a ++ bs) × (end ≤ length b) × (length b ≡ length a)
written_behind {bs} {a} {b} {at} {end} w h =
    let e : end ≡ at + length bs = omega (arith, w.ends) in
    let s : b ≡ take at a ++ bs ++ drop (at + length bs) a = w.has ∙ sets-eq bs a at h in
    let n : length (take at a ++ bs) ≡ end = length-append (take at a) bs ∙ omega (arith, length-take-le at a (omega arith)) in
    let size : length b ≡ length a = ap length w.has ∙ length-sets a at bs in
    (rw (s, ← n) (take-append_seam (take at a ++ bs) (drop (at + length bs) a)), omega arith, size)

-- those that have room, without the others
sets_front : (a : List ℕ) (at : ℕ) (bs : List ℕ) → at ≤ length a → sets a at bs ≡ sets a at (take (length a - at) bs)
sets_front a at bs h =
    let k : ℕ = length a - at in
    let front : List ℕ = take k bs in
    let size : length front ≡ min k (length bs) = length-take k bs in
    ap (λ (l : List ℕ). sets a at l) (sym (take-append-drop k bs))
    ∙ sets_append a at front (drop k bs)
    ∙ by_le (length bs) k
    (λ (l : length bs ≤ k). rw (drop_all k bs l))
    (λ (l : k < length bs). sets_out (sets a at front) (at + length front) (drop k bs) (omega (arith, length-sets a at front)))

pub written_front : {bs a b : List ℕ} {at end : ℕ} → at ≤ length a → Written bs at a end b → Written (take (length a - at) bs) at a end b
written_front {bs} {a} {b} {at} {end} h w =
    record { ends = omega (arith, w.ends, length-take (length a - at) bs); has = w.has ∙ sets_front a at bs h }

-- COPIED: none behind the buffer's end, else the first ones, as many as have room
pub written_past : (bs : List ℕ) (at : ℕ) (a : List ℕ) → length a ≤ at → Written bs at a at a
written_past bs at a h = record { ends = omega arith; has = sym (sets_out a at bs h) }

-- as many bytes of a list as two numbers say
take_min : (n k : ℕ) (bs : List ℕ) → n ≡ min (length bs) k → take n bs ≡ take k bs
take_min n k bs e =
    by_le (length bs) k
    (λ (h : length bs ≤ k). take_all n bs (omega arith) ∙ sym (take_all k bs h))
    (λ (h : k < length bs). let same : n ≡ k = omega arith in rw same refl)

pub written_copied : (bs : List ℕ) (at : ℕ) (a ys : List ℕ) (n : ℕ) → at < length a → n ≡ min (length bs) (length a - at) → ys ≡ take n bs →
    Written bs at a (at + n) (put_mid at (at + n - at) a ys)
written_copied bs at a ys n h e is =
    let size : length (take n bs) ≡ n = length-take-le n bs (omega arith) in
    record {
      ends = omega arith;
      has =
          ap (λ (l : List ℕ). take at a ++ (ys ++ l)) (Post-is at (at + n) a (omega arith))
          ∙ ap (λ (l : List ℕ). take at a ++ (l ++ drop (at + n) a)) is
          ∙ sym (append_assoc (take at a) (take n bs) (drop (at + n) a))
          ∙ ap (λ (k : ℕ). take at a ++ take n bs ++ drop (at + k) a) (sym size)
          ∙ sym (sets-eq (take n bs) a at (omega arith))
          ∙ ap (λ (l : List ℕ). sets a at l) (take_min n (length a - at) bs e)
          ∙ sym (sets_front a at bs (omega arith));
    }

-- PLACES at once, or the first ones and then the others
pub forms_append : (ps qs : List ℕ) → place_forms (ps ++ qs) ≡ place_forms ps ++ place_forms qs
unfolding place_forms
forms_append [] qs = refl
forms_append (p ∷ ps) qs = rw (forms_append ps qs) (sym (append_assoc (place_form p) (place_forms ps) (place_forms qs)))

-- one by one
forms_more : (ps : List ℕ) (p : ℕ) → place_forms (ps ++ (p ∷ [])) ≡ place_forms ps ++ place_form p
unfolding place_forms
forms_more ps p = forms_append ps (p ∷ []) ∙ ap (λ (l : List ℕ). place_forms ps ++ l) (append-nil (place_form p))

pub places_next : (ps : List ℕ) (i : ℕ) {a b c : List ℕ} {at mid end : ℕ} → i < length ps →
    WrittenWithin (16 * i) (place_forms (take i ps)) at a mid b → WrittenWithin 16 (place_form (get_or ps i 0)) mid b end c →
    WrittenWithin (16 * (i + 1)) (place_forms (take (i + 1) ps)) at a end c
places_next ps i h f g =
    rw (add-one i, take-suc ps i 0 h, forms_more (take i ps) (get_or ps i 0))
    (written_on f.0 g.0, omega (arith, length-append (place_forms (take i ps)) (place_form (get_or ps i 0)), f.1, g.1))
