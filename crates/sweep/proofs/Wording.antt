-- The forms of hits, unread files and the end: how long they are, and hits one by one. Assumes nothing.
use mathlib.Core.Path.{◌≡◌, refl, sym, ap, ◌∙◌}
use mathlib.Core.List.{List, [], ◌∷◌, ◌++◌, append-nil, append_assoc}
use mathlib.Core.Logic.{◌⊎◌, inl, inr}
use Prim.Native.Nat.{ℕ, suc, ◌+◌, ◌*◌, ◌^◌, ◌≤◌, ◌<◌}
use native.Mathlib.Omega.{arith}
use lib.Dec.{lit≤}
use lib.ListN.{length, length-append}
use Rattle.std.specs.declared.iter.Zip.{Zip}
use Rattle.std.specs.declared.slice.Iter.{Iter}
use Rattle.std.specs.Iterator.Adapters.{zip_first, zip_second}
use Rattle.std.specs.Slice.Iter.{iter_rest}
use Rattle.starts.specs.Hits.{Hit, hit}
use Rattle.boards.specs.Entry.{paired}
use Rattle.forms.specs.Ascii.{ascii}
use Rattle.forms.specs.Text.{with_number, PutWithin}
use Rattle.forms.proofs.Decimals.{with_number_short}
use Rattle.forms.proofs.Paging.{put_none, put_on}
use Rattle.sweep.specs.Forms.{hit_form, hit_forms, unread_form, total_form}

-- HOW LONG they are, with numbers of 32 and 64 bits
pub hit_short : (f p n : ℕ) → f < 2 ^ 64 → p < 2 ^ 32 → n < 2 ^ 32 → length (hit_form f p n) ≤ 49
unfolding hit_form
hit_short f p n h k l =
    let a : List ℕ = with_number "(hit " f in
    let b : List ℕ = with_number " " p in
    let c : List ℕ = with_number " " n in
    omega (
      arith,
      length-append a b,
      length-append (a ++ b) c,
      length-append (a ++ b ++ c) (ascii ")\n"),
      with_number_short (ascii "(hit ") f 20 (lit≤ tt) (omega arith),
      with_number_short (ascii " ") p 10 (lit≤ tt) (omega arith),
      with_number_short (ascii " ") n 10 (lit≤ tt) (omega arith),
    )

pub unread_short : (f : ℕ) → f < 2 ^ 64 → length (unread_form f) ≤ 30
unfolding unread_form
unread_short f h =
    omega (arith, length-append (with_number "(unread " f) (ascii ")\n"), with_number_short (ascii "(unread ") f 20 (lit≤ tt) (omega arith))

pub total_short : (n u b h : ℕ) → n < 2 ^ 64 → u < 2 ^ 64 → b < 2 ^ 64 → h < 2 ^ 64 → length (total_form n u b h) ≤ 122
unfolding total_form
total_short n u b h k l m o =
    let a : List ℕ = with_number "(end (files " n in
    let c : List ℕ = with_number ") (unread " u in
    let d : List ℕ = with_number ") (bytes " b in
    let e : List ℕ = with_number ") (hits " h in
    omega (
      arith,
      length-append a c,
      length-append (a ++ c) d,
      length-append (a ++ c ++ d) e,
      length-append (a ++ c ++ d ++ e) (ascii "))\n"),
      with_number_short (ascii "(end (files ") n 20 (lit≤ tt) (omega arith),
      with_number_short (ascii ") (unread ") u 20 (lit≤ tt) (omega arith),
      with_number_short (ascii ") (bytes ") b 20 (lit≤ tt) (omega arith),
      with_number_short (ascii ") (hits ") h 20 (lit≤ tt) (omega arith),
    )

-- SEVERAL HITS at once, or the first ones and then the others
pub hits_append : (f : ℕ) (hs is : List Hit) → hit_forms f (hs ++ is) ≡ hit_forms f hs ++ hit_forms f is
unfolding hit_forms
hits_append f [] is = refl
hits_append f (h ∷ hs) is = rw (hits_append f hs is) (sym (append_assoc (hit_form f h.place h.number) (hit_forms f hs) (hit_forms f is)))

hits_more : (f : ℕ) (hs : List Hit) (p n : ℕ) → hit_forms f (hs ++ (hit p n ∷ [])) ≡ hit_forms f hs ++ hit_form f p n
unfolding hit_forms
hits_more f hs p n = hits_append f hs (hit p n ∷ []) ∙ ap (λ (l : List ℕ). hit_forms f hs ++ l) (append-nil (hit_form f p n))

-- THE HITS OF TWO LISTS, pair by pair: those that the iterators have passed are put, and the others are what they have left
pub record HitsPut (file : ℕ) (places numbers : List ℕ) (room : ℕ) (a : List ℕ) (it : Zip (Iter ℕ) (Iter ℕ)) (b : List ℕ) : Type 0 where
  pub done : List Hit
  pub whole : paired places numbers ≡ done ++ paired (iter_rest (zip_first it)) (iter_rest (zip_second it))
  pub many : length done + length (iter_rest (zip_first it)) ≡ length places
  pub put : PutWithin (49 * length done) (hit_forms file done) room a b

pub hits_none : (file : ℕ) (ps ns : List ℕ) (room : ℕ) (a : List ℕ) (it : Zip (Iter ℕ) (Iter ℕ)) → iter_rest (zip_first it) ≡ ps → iter_rest (zip_second it) ≡ ns →
    HitsPut file ps ns room a it a
unfolding hit_forms
hits_none file ps ns room a it e f =
    record { done = []; whole = rw (e, f); many = rw e (omega arith); put = (put_none room a, omega arith) }

no_pairs : (ps ns : List ℕ) → (ps ≡ []) ⊎ (ns ≡ []) → paired ps ns ≡ []
unfolding paired
no_pairs [] ns e = refl
no_pairs (p ∷ ps) [] e = refl
no_pairs (p ∷ ps) (n ∷ ns) (inl e) = absurd (cc)
no_pairs (p ∷ ps) (n ∷ ns) (inr e) = absurd (cc)

module _ {file : ℕ} {ps ns : List ℕ} {room : ℕ} {a b : List ℕ} {s : Zip (Iter ℕ) (Iter ℕ)} (v : HitsPut file ps ns room a s b) where
  pub hits_next : {t : Zip (Iter ℕ) (Iter ℕ)} {p n : ℕ} {c : List ℕ} → iter_rest (zip_first s) ≡ p ∷ iter_rest (zip_first t) → iter_rest (zip_second s) ≡ n ∷ iter_rest (zip_second t) →
      PutWithin 49 (hit_form file p n) room b c → HitsPut file ps ns room a t c
  unfolding paired
  hits_next {t} {p} {n} e f w =
      let more : length (v.done ++ (hit p n ∷ [])) ≡ suc (length v.done) = omega (arith, length-append v.done (hit p n ∷ [])) in
      record {
        done = v.done ++ (hit p n ∷ []);
        whole = v.whole ∙ rw (e, f) (sym (append_assoc v.done (hit p n ∷ []) (paired (iter_rest (zip_first t)) (iter_rest (zip_second t)))));
        many = let before = rw e at v.many in omega (arith, more);
        put =
            rw (hits_more file v.done p n)
            (put_on v.put.0 w.0, omega (arith, v.put.1, w.1, more, length-append (hit_forms file v.done) (hit_form file p n)));
      }

  pub hits_done : (iter_rest (zip_first s) ≡ []) ⊎ (iter_rest (zip_second s) ≡ []) → PutWithin (49 * length ps) (hit_forms file (paired ps ns)) room a b
  hits_done e =
      let all : paired ps ns ≡ v.done = v.whole ∙ rw (no_pairs _ _ e) (append-nil v.done) in
      rw all (v.put.0, omega (arith, v.put.1, v.many))
