-- THE HITS in a text: where each code stands, by rising last byte, longer codes first. Assumes nothing: these are definitions.
use Rattle.std.specs.Prelude.{◌≡◌, Bool, true, ◌&&◌, ◌||◌, cond, List, [], ◌∷◌, ◌++◌, ℕ, zero, suc, ◌+◌, ◌-◌, ltb, eqb, length}
use Rattle.words.specs.Words.{suffix}
use Rattle.runs.specs.Reading.{over}
use Rattle.starts.specs.Starts.{code, is_code, number}

-- A HIT: the place, the offset of the code's first byte, and the code's number, from 1
pub record Hit : Type 0 where
  pub place : ℕ
  pub number : ℕ

abbrev pub hit : (place number : ℕ) → Hit
hit p j = record { place = p; number = j }

-- the codes of at most n bytes that a word ends with, longer ones first; the word ends after `taken` bytes of the text
unfoldable pub hits_within : (ws : List (List ℕ)) → (n : ℕ) → (u : List ℕ) → (taken : ℕ) → List Hit
hits_within ws zero u t = []
hits_within ws (suc n) u t =
    cond (is_code ws (suffix (suc n) u)) (hit (t - suc n) (number ws (suffix (suc n) u)) ∷ hits_within ws n u t) (hits_within ws n u t)

unfoldable pub hits_at : (ws : List (List ℕ)) → (u : List ℕ) → (taken : ℕ) → List Hit
hits_at ws u t = hits_within ws (length u) u t

-- those that byte c completes after a text, and all of a text
unfoldable pub hits_after : (ws : List (List ℕ)) → (text : List ℕ) → (c : ℕ) → List Hit
hits_after ws ts c = hits_at ws (ts ++ (c ∷ [])) (suc (length ts))

abbrev pub hits : (ws : List (List ℕ)) → (text : List ℕ) → List Hit
hits ws ts = over (hits_after ws) [] ts

-- the places of the code with one number
unfoldable pub places_of : (j : ℕ) → List Hit → List ℕ
places_of j [] = []
places_of j (h ∷ hs) = cond (eqb h.number j) (h.place ∷ places_of j hs) (places_of j hs)

-- how long a hit's code is, and how many bytes the text has up to the code's last one
unfoldable pub hit_length : (ws : List (List ℕ)) → Hit → ℕ
hit_length ws h = length (code ws (h.number - 1))

unfoldable pub hit_end : (ws : List (List ℕ)) → Hit → ℕ
hit_end ws h = h.place + hit_length ws h

-- h stands BEFORE k: its last byte is earlier, or the same and its code is longer
unfoldable pub before : (ws : List (List ℕ)) → (h k : Hit) → Bool
before ws h k = ltb (hit_end ws h) (hit_end ws k) || (eqb (hit_end ws h) (hit_end ws k) && ltb (hit_length ws k) (hit_length ws h))

-- a fact of every hit
abbrev pub EveryHit : (P : Hit → Type 0) → List Hit → Type 0
EveryHit P [] = Unit {0}
EveryHit P (h ∷ hs) = P h × EveryHit P hs

-- IN ORDER: each is before all that follow it
abbrev pub Ordered : (ws : List (List ℕ)) → List Hit → Type 0
Ordered ws [] = Unit {0}
Ordered ws (h ∷ hs) = EveryHit (λ k. before ws h k ≡ true) hs × Ordered ws hs
