-- THE FORMS that the program prints, one a line, in ASCII. Assumes nothing: these are definitions.
use Rattle.std.specs.Prelude.{◌≡◌, cond, List, [], ◌∷◌, ◌++◌, ℕ, zero, suc, ◌+◌, ◌-◌, ◌/◌, ◌%◌, ◌≤◌, min, ltb, length, take}
use Prim.Native.String.{String}
use Rattle.std.proofs.lemmas.List.Edits.{sets}
use Rattle.forms.specs.Ascii.{ascii}

-- DECIMAL: the digits of n / 10 if n has more than one, then the last; k is at least their number
unfoldable pub digits_of : (k n : ℕ) → List ℕ
digits_of zero n = []
digits_of (suc k) n = cond (ltb n 10) [] (digits_of k (n / 10)) ++ ((48 + n % 10) ∷ [])

unfoldable pub decimal : (n : ℕ) → List ℕ
decimal n = digits_of (suc n) n

-- a text and a number behind it
abbrev pub with_number : (text : String) → (n : ℕ) → List ℕ
with_number s n = ascii s ++ decimal n

-- A PLACE, and several
unfoldable pub place_form : (place : ℕ) → List ℕ
place_form p = with_number "(at " p ++ ascii ")\n"

unfoldable pub place_forms : (places : List ℕ) → List ℕ
place_forms [] = []
place_forms (p ∷ ps) = place_form p ++ place_forms ps

-- the end of a search
unfoldable pub end_form : (bytes hits compares : ℕ) → List ℕ
end_form n h c = with_number "(end (bytes " n ++ with_number ") (hits " h ++ with_number ") (compares " c ++ ascii "))\n"

-- a refusal
unfoldable pub refused_form : (number : ℕ) → List ℕ
refused_form r = with_number "(refused " r ++ ascii ")\n"

-- WRITTEN: a buffer a has become b, with bytes over its own from a place on, as many as have room; `end` is where they end
pub record Written (bytes : List ℕ) (at : ℕ) (a : List ℕ) (end : ℕ) (b : List ℕ) : Type 0 where
  pub ends : end ≡ at + min (length bytes) (length a - at)
  pub has : b ≡ sets a at bytes

-- so written, bytes that are not more than `most`
abbrev pub WrittenWithin : (most : ℕ) → (bytes : List ℕ) → (at : ℕ) → (a : List ℕ) → (end : ℕ) → (b : List ℕ) → Type 0
WrittenWithin most bytes at a end b = Written bytes at a end b × (length bytes ≤ most)

-- PUT on a page that has room for so many bytes: behind those before them, as many as have room
pub record Put (bytes : List ℕ) (room : ℕ) (before after : List ℕ) : Type 0 where
  pub has : after ≡ before ++ take (room - length before) bytes

-- so put, bytes that are not more than `most`
abbrev pub PutWithin : (most : ℕ) → (bytes : List ℕ) → (room : ℕ) → (before after : List ℕ) → Type 0
PutWithin most bytes room a b = Put bytes room a b × (length bytes ≤ most)
