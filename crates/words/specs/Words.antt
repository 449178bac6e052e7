-- Words: lists of bytes, the starts that a text ends with, and borders. A word has any length. Assumes nothing: these are definitions.
use Rattle.std.specs.Prelude.{Bool, true, false, ◌&&◌, ◌||◌, cond, List, [], ◌∷◌, ◌++◌, ℕ, zero, suc, ◌-◌, ◌<◌, ltb, leb, eqb, length, get_or, take, drop}

-- byte i of a word, from 0
unfoldable pub byte : (w : List ℕ) → (i : ℕ) → ℕ
byte w i = get_or w i 0

-- whether v is one of a list
unfoldable pub member : (v : ℕ) → List ℕ → Bool
member v [] = false
member v (x ∷ xs) = eqb x v || member v xs

-- a fact of every element
abbrev pub Every : (P : ℕ → Type 0) → List ℕ → Type 0
Every P [] = Unit {0}
Every P (x ∷ xs) = P x × Every P xs

-- each element is below, or above, all that follow it
abbrev pub Rising : List ℕ → Type 0
Rising [] = Unit {0}
Rising (x ∷ xs) = Every (λ y. x < y) xs × Rising xs

abbrev pub Falling : List ℕ → Type 0
Falling [] = Unit {0}
Falling (x ∷ xs) = Every (λ y. y < x) xs × Falling xs

-- whether two lists are equal
unfoldable pub same : (xs ys : List ℕ) → Bool
same [] [] = true
same [] (y ∷ ys) = false
same (x ∷ xs) [] = false
same (x ∷ xs) (y ∷ ys) = eqb x y && same xs ys

-- the last n bytes of a text
unfoldable pub suffix : (n : ℕ) → (text : List ℕ) → List ℕ
suffix n ts = drop (length ts - n) ts

-- whether a text ends with the first p bytes of w
unfoldable pub ends_with : (text w : List ℕ) → (p : ℕ) → Bool
ends_with ts w p = leb p (length ts) && same (suffix p ts) (take p w)

-- BORDER: a shorter start of the first p bytes of w that is also their end
unfoldable pub is_border : (w : List ℕ) → (p b : ℕ) → Bool
is_border w p b = ltb b p && ends_with (take p w) w b

-- the largest number from 1 to l that passes a test, 0 if none does
unfoldable pub largest : (test : ℕ → Bool) → (l : ℕ) → ℕ
largest t zero = 0
largest t (suc l) = cond (t (suc l)) (suc l) (largest t l)

-- STATE: the length of the longest start of w that the text ends with
unfoldable pub state_of : (w text : List ℕ) → ℕ
state_of w ts = largest (ends_with ts w) (length w)

-- the longest border of the first p bytes, for p of 1 or more
unfoldable pub border_of : (w : List ℕ) → (p : ℕ) → ℕ
border_of w p = largest (is_border w p) (p - 1)

-- a lent list with another written over its start
unfoldable pub in_front : (new old : List ℕ) → List ℕ
in_front new old = new ++ drop (length new) old
