-- One file more behind those that were passed: the list, what is counted and what is printed. Assumes nothing.
use mathlib.Core.Path.{◌≡◌, refl, sym}
use mathlib.Core.Bool.{cond}
use mathlib.Core.List.{List, [], ◌∷◌, ◌++◌, append-nil, append_assoc}
use Prim.Native.Nat.{ℕ, suc, ◌+◌}
use native.Mathlib.Omega.{arith}
use lib.ListN.{length}
use Rattle.words.specs.Words.{Every}
use Rattle.starts.specs.Hits.{hits}
use Rattle.streams.specs.Streams.{PrefixOf}
use Rattle.sweep.specs.Swept.{Plan, listing, NoZero, AllNamed, Right, AllRight}
use Rattle.sweep.specs.Swept.{file_form, files_form, unread_in, bytes_in, hits_in}

pub every_more : (P : ℕ → Type 0) (xs : List ℕ) (c : ℕ) → Every P xs → P c → Every P (xs ++ (c ∷ []))
every_more P [] c all h = (h, tt)
every_more P (x ∷ xs) c all h = (all.0, every_more P xs c all.1 h)

pub listing_more : (ps : List Plan) (p : Plan) → listing (ps ++ (p ∷ [])) ≡ listing ps ++ (p.path ++ (0 ∷ []))
unfolding listing
listing_more [] p = refl
listing_more (q ∷ ps) p = rw (listing_more ps p) (sym (append_assoc q.path (0 ∷ listing ps) (p.path ++ (0 ∷ []))))

pub named_more : (ps : List Plan) (p : Plan) → AllNamed ps → NoZero p.path → AllNamed (ps ++ (p ∷ []))
unfolding AllNamed
named_more [] p all h = (h, tt)
named_more (q ∷ ps) p all h = (all.0, named_more ps p all.1 h)

pub right_more : (k : ℕ) (ps : List Plan) (p : Plan) → AllRight k ps → Right (k + length ps) p → AllRight k (ps ++ (p ∷ []))
unfolding AllRight
right_more k [] p all h = let none : k + 0 ≡ k = omega arith in (rw none at h, tt)
right_more k (q ∷ ps) p all h =
    let next : k + suc (length ps) ≡ suc k + length ps = omega arith in
    (all.0, right_more (suc k) ps p all.1 (rw next at h))

-- a list that begins with another does so whatever follows
pub begins_more : {xs ys : List ℕ} (zs : List ℕ) → PrefixOf xs ys → PrefixOf xs (ys ++ zs)
begins_more {xs} zs f = record { rest = f.rest ++ zs; is = rw f.is (append_assoc xs f.rest zs) }

-- WHAT IS COUNTED
pub files_more : (ps : List Plan) (p : Plan) → length (ps ++ (p ∷ [])) ≡ suc (length ps)
files_more [] p = refl
files_more (q ∷ ps) p = omega (arith, files_more ps p)

pub unread_more : (ps : List Plan) (p : Plan) → unread_in (ps ++ (p ∷ [])) ≡ unread_in ps + cond p.whole 0 1
unfolding unread_in
unread_more [] p = omega arith
unread_more (q ∷ ps) p = omega (arith, unread_more ps p)

pub bytes_more : (ps : List Plan) (p : Plan) → bytes_in (ps ++ (p ∷ [])) ≡ bytes_in ps + length p.text
unfolding bytes_in
bytes_more [] p = omega arith
bytes_more (q ∷ ps) p = omega (arith, bytes_more ps p)

module _ (ws : List (List ℕ)) where
  pub hits_more : (ps : List Plan) (p : Plan) → hits_in ws (ps ++ (p ∷ [])) ≡ hits_in ws ps + length (hits ws p.text)
  unfolding hits_in
  hits_more [] p = omega arith
  hits_more (q ∷ ps) p = omega (arith, hits_more ps p)

  -- WHAT IS PRINTED
  pub forms_more : (n : ℕ) (ps : List Plan) (p : Plan) → files_form ws n (ps ++ (p ∷ [])) ≡ files_form ws n ps ++ file_form ws (n + length ps) p
  unfolding files_form
  forms_more n [] p = let none : n + 0 ≡ n = omega arith in rw none (append-nil (file_form ws n p))
  forms_more n (q ∷ ps) p =
      let next : n + suc (length ps) ≡ suc n + length ps = omega arith in
      rw (next, forms_more (suc n) ps p) (sym (append_assoc (file_form ws n q) (files_form ws (suc n) ps) (file_form ws (suc n + length ps) p)))
