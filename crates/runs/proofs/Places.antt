-- The places found in a text, byte by byte: they rise, and i is one of them exactly when the text up to i + m ends as asked. Assumes nothing.
use mathlib.Core.Path.{◌≡◌, refl, sym, ◌∙◌}
use mathlib.Core.Bool.{Bool, true, false}
use mathlib.Core.List.{List, [], ◌∷◌, ◌++◌}
use mathlib.Core.Logic.{◌≢◌, ◌↔◌}
use Prim.Native.Nat.{ℕ, suc, ◌+◌, ◌-◌, ◌≤◌, ◌<◌}
use native.Mathlib.Omega.{arith}
use lib.ListN.{length, take, length-append}
use lib.Seq.{append_snoc, take_at}
use Rattle.words.specs.Words.{member, Every, Rising}
use Rattle.words.proofs.Tests.{by_eq, never_both}
use Rattle.words.proofs.Lists.{member_nil, member_head, member_other, member_more, length_snoc}
use Rattle.runs.specs.Reading.{over, place_if}

-- the place of the last m bytes, where a text and the byte c after it end as asked
abbrev pub place_after : (m : ℕ) → (ends : List ℕ → Bool) → (before : List ℕ) → (c : ℕ) → List ℕ
place_after m e bs c = place_if (e (bs ++ (c ∷ []))) (suc (length bs) - m)

-- none or one
pub place_one : (t : Bool) (i : ℕ) → length (place_if t i) ≤ 1
unfolding place_if
place_one true i = omega arith
place_one false i = omega arith

pub place_none : (t : Bool) (i : ℕ) → t ≡ false → place_if t i ≡ []
unfolding place_if
place_none t i e = rw e refl

pub place_some : (t : Bool) (i : ℕ) → t ≡ true → place_if t i ≡ i ∷ []
unfolding place_if
place_some t i e = rw e refl

every_place : (P : ℕ → Type 0) (t : Bool) (i : ℕ) (ps : List ℕ) → P i → Every P ps → Every P (place_if t i ++ ps)
unfolding place_if
every_place P true i ps p q = (p, q)
every_place P false i ps p q = q

-- at most as many as bytes
pub found_few : (m : ℕ) (t : List ℕ → Bool) (us ts : List ℕ) → length (over (place_after m t) us ts) ≤ length ts
unfolding over
found_few m t us [] = omega arith
found_few m t us (c ∷ ts) =
    let vs : List ℕ = us ++ (c ∷ []) in
    omega (
      arith,
      length-append (place_if (t vs) (suc (length us) - m)) (over (place_after m t) vs ts),
      place_one (t vs) (suc (length us) - m),
      found_few m t vs ts,
    )

-- a test that holds only of texts of at least m bytes
module _ (m : ℕ) (t : List ℕ → Bool) (fits : (us : List ℕ) → t us ≡ true → m ≤ length us) where
  abbrev found_from : (before text : List ℕ) → List ℕ
  found_from us ts = over (place_after m t) us ts

  -- THEY RISE
  places_above : (us ts : List ℕ) (b : ℕ) → b ≤ suc (length us) - m → Every (λ y. b ≤ y) (found_from us ts)
  unfolding over
  places_above us [] b h = tt
  places_above us (c ∷ ts) b h =
      let vs : List ℕ = us ++ (c ∷ []) in
      let n : length vs ≡ suc (length us) = length_snoc us c in
      every_place (λ y. b ≤ y) (t vs) (suc (length us) - m) (found_from vs ts) (omega arith) (places_above vs ts b (omega arith))

  places_rise : (us ts : List ℕ) → Rising (found_from us ts)
  unfolding over place_if
  places_rise us [] = tt
  places_rise us (c ∷ ts) = go (t (us ++ (c ∷ []))) refl (places_rise (us ++ (c ∷ [])) ts)
    where
      vs : List ℕ
      vs = us ++ (c ∷ [])

      go : (b : Bool) → t vs ≡ b → Rising (found_from vs ts) → Rising (place_if b (suc (length us) - m) ++ found_from vs ts)
      go true e r = (places_above vs ts (suc (suc (length us) - m)) (omega (arith, fits vs e, length_snoc us c)), r)
      go false e r = r

  -- WHERE THEY ARE
  record Place (us ts : List ℕ) (i : ℕ) : Type 0 where
    from : length us < i + m
    within : i + m ≤ length us + length ts
    ends : t (take (i + m) (us ++ ts)) ≡ true

  place_here : (us ts : List ℕ) (c i : ℕ) → i + m ≡ suc (length us) → take (i + m) (us ++ (c ∷ ts)) ≡ us ++ (c ∷ [])
  place_here us ts c i e =
      rw (← append_snoc us c ts) (take_at (us ++ (c ∷ [])) ts (i + m) (length_snoc us c ∙ sym e))

  place_later : (us ts : List ℕ) (c i : ℕ) → Place (us ++ (c ∷ [])) ts i → Place us (c ∷ ts) i
  place_later us ts c i p =
      let n : length (us ++ (c ∷ [])) ≡ suc (length us) = length_snoc us c in
      record {
        from = omega (arith, p.from);
        within = omega (arith, p.within);
        ends = rw (append_snoc us c ts) at p.ends;
      }

  member_place : (us ts : List ℕ) (i : ℕ) → member i (found_from us ts) ≡ true → Place us ts i
  unfolding over place_if
  member_place us [] i h = absurd (never_both h (member_nil i))
  member_place us (c ∷ ts) i h =
      go (t (us ++ (c ∷ []))) refl h (λ r. place_later us ts c i (member_place (us ++ (c ∷ [])) ts i r))
    where
      vs : List ℕ
      vs = us ++ (c ∷ [])

      go : (b : Bool) → t vs ≡ b → member i (place_if b (suc (length us) - m) ++ found_from vs ts) ≡ true →
          (member i (found_from vs ts) ≡ true → Place us (c ∷ ts) i) → Place us (c ∷ ts) i
      go true e h more =
          by_eq (suc (length us) - m) i
          (λ (d : suc (length us) - m ≡ i).
          let n : length vs ≡ suc (length us) = length_snoc us c in
          let at : i + m ≡ suc (length us) = omega (arith, fits vs e) in
          record { from = omega arith; within = omega arith; ends = rw (place_here us ts c i at) e })
          (λ (d : suc (length us) - m ≢ i). more (rw (member_other i (suc (length us) - m) (found_from vs ts) d) at h))
      go false e h more = more h

  place_member : (us ts : List ℕ) (i : ℕ) → Place us ts i → member i (found_from us ts) ≡ true
  unfolding over place_if
  place_member us [] i p = absurd (omega (arith, p.from, p.within))
  place_member us (c ∷ ts) i p =
      let n : length (us ++ (c ∷ [])) ≡ suc (length us) = length_snoc us c in
      by_eq (i + m) (suc (length us))
      (λ (d : i + m ≡ suc (length us)).
      here d (rw (place_here us ts c i d) at p.ends))
      (λ (d : i + m ≢ suc (length us)).
      go (t (us ++ (c ∷ [])))
      (place_member (us ++ (c ∷ [])) ts i
      (record { from = omega (arith, p.from); within = omega (arith, p.within); ends = rw (append_snoc us c ts) p.ends })))
    where
      vs : List ℕ
      vs = us ++ (c ∷ [])

      here : i + m ≡ suc (length us) → t vs ≡ true → member i (place_if (t vs) (suc (length us) - m) ++ found_from vs ts) ≡ true
      here d e =
          let at : suc (length us) - m ≡ i = omega (arith, length_snoc us c) in
          rw (e, at) (member_head i (found_from vs ts))

      go : (b : Bool) → member i (found_from vs ts) ≡ true → member i (place_if b (suc (length us) - m) ++ found_from vs ts) ≡ true
      go true r = member_more i (suc (length us) - m) (found_from vs ts) r
      go false r = r

  -- of a whole text
  pub found_right : 1 ≤ m → (ts : List ℕ) →
      Rising (over (place_after m t) [] ts)
      × ((i : ℕ) → (member i (over (place_after m t) [] ts) ≡ true) ↔ ((i + m ≤ length ts) × (t (take (i + m) ts) ≡ true)))
  found_right some ts = (
    places_rise [] ts,
    λ i. (
      (λ h. let p = member_place [] ts i h in (omega (arith, p.within), p.ends)),
      (λ q. place_member [] ts i (record { from = omega arith; within = omega (arith, q.0); ends = q.1 })),
    ),
  )
