-- Codes that stand one after the other in a slice of bytes: the bytes of a part, each code's length and place, and a code twice. Assumes nothing.
use mathlib.Core.Path.{◌≡◌, refl, sym, ap, ◌∙◌}
use mathlib.Core.Bool.{true}
use mathlib.Core.List.{List, [], ◌∷◌, ◌++◌, map, append-nil, append_assoc}
use Prim.Native.Nat.{ℕ, zero, suc, ◌+◌, ◌≤◌, ◌<◌}
use native.Mathlib.Numerals.{add-one}
use native.Mathlib.Omega.{arith}
use lib.ListN.{length, get_or, take, drop, length-drop, take-append-drop}
use lib.Seq.{take-suc, drop-cons, get_or-take, get_or-drop, drop-drop, length-take-le}
use Rattle.automaton.specs.Costs.{sum}
use Rattle.starts.specs.Starts.{code, total, offset, twice}
use Rattle.starts.proofs.Codes.{twice_more}
use Rattle.boards.specs.Board.{cut, bytes_of}
use Rattle.boards.specs.Tables.{part}

-- A PART: its length and its bytes
pub part_length : (s l : ℕ) (bs : List ℕ) → s + l ≤ length bs → length (part s l bs) ≡ l
unfolding part
part_length s l bs h = length-take-le l (drop s bs) (omega (arith, length-drop s bs))

pub part_at : (s l : ℕ) (bs : List ℕ) (i : ℕ) → i < l → get_or (part s l bs) i 0 ≡ get_or bs (s + i) 0
unfolding part
part_at s l bs i h = get_or-take l (drop s bs) i 0 h ∙ get_or-drop s bs i 0

-- one byte more, and the first of them
pub part_more : (i n : ℕ) (bs : List ℕ) → i + n < length bs → part i (suc n) bs ≡ part i n bs ++ (get_or bs (i + n) 0 ∷ [])
unfolding part
part_more i n bs h =
    take-suc (drop i bs) n 0 (omega (arith, length-drop i bs)) ∙ ap (λ (c : ℕ). take n (drop i bs) ++ (c ∷ [])) (get_or-drop i bs n 0)

pub part_first : (i n : ℕ) (bs : List ℕ) → i < length bs → part i (suc n) bs ≡ get_or bs i 0 ∷ part (i + 1) n bs
unfolding part
part_first i n bs h = rw (add-one i, drop-cons bs i 0 h)

-- THE CODES: how many, and the bytes of all
pub cut_length : (ls bs : List ℕ) → length (cut ls bs) ≡ length ls
unfolding cut
cut_length [] bs = refl
cut_length (l ∷ ls) bs = ap suc (cut_length ls (drop l bs))

pub cut_total : (ls bs : List ℕ) → sum ls ≤ length bs → total (cut ls bs) ≡ sum ls
unfolding cut total sum
cut_total [] bs h = refl
cut_total (l ∷ ls) bs h =
    omega (arith, length-take-le l bs (omega arith), cut_total ls (drop l bs) (omega (arith, length-drop l bs)))

-- their lengths and their bytes, as they were handed over
pub cut_lengths : (ls bs : List ℕ) → sum ls ≤ length bs → map length (cut ls bs) ≡ ls
unfolding cut sum
cut_lengths [] bs h = refl
cut_lengths (l ∷ ls) bs h =
    let front : length (take l bs) ≡ l = length-take-le l bs (omega arith) in
    rw (front, cut_lengths ls (drop l bs) (omega (arith, length-drop l bs)))

pub cut_bytes : (ls bs : List ℕ) → sum ls ≡ length bs → bytes_of (cut ls bs) ≡ bs
unfolding cut bytes_of sum
cut_bytes [] [] h = refl
cut_bytes [] (b ∷ bs) h = absurd (omega arith)
cut_bytes (l ∷ ls) bs h = rw (cut_bytes ls (drop l bs) (omega (arith, length-drop l bs))) (take-append-drop l bs)

-- code number j is the part of its length at its offset
pub cut_code : (ls bs : List ℕ) (j : ℕ) → sum ls ≤ length bs → j < length ls → code (cut ls bs) j ≡ part (offset (cut ls bs) j) (get_or ls j 0) bs
unfolding cut code offset total part sum
cut_code [] bs j h i = absurd (omega arith)
cut_code (l ∷ ls) bs zero h i = refl
cut_code (l ∷ ls) bs (suc j) h i =
    let rest : sum ls ≤ length (drop l bs) = omega (arith, length-drop l bs) in
    let o = offset (cut ls (drop l bs)) j in
    let at : l + o ≡ length (take l bs) + o = omega (arith, length-take-le l bs (omega arith)) in
    cut_code ls (drop l bs) j rest (omega arith) ∙ ap (take (get_or ls j 0)) (drop-drop o l bs ∙ ap (λ (k : ℕ). drop k bs) at)

pub cut_code_length : (ls bs : List ℕ) (j : ℕ) → sum ls ≤ length bs → j < length ls → length (code (cut ls bs) j) ≡ get_or ls j 0
unfolding cut code sum
cut_code_length [] bs j h i = absurd (omega arith)
cut_code_length (l ∷ ls) bs zero h i = length-take-le l bs (omega arith)
cut_code_length (l ∷ ls) bs (suc j) h i = cut_code_length ls (drop l bs) j (omega (arith, length-drop l bs)) (omega arith)

-- TWICE among some of the codes is twice among all
twice_kept : (ws vs : List (List ℕ)) → twice ws ≡ true → twice (ws ++ vs) ≡ true
twice_kept ws [] t = ap twice (append-nil ws) ∙ t
twice_kept ws (v ∷ vs) t =
    let more : twice (ws ++ (v ∷ [])) ≡ true = rw (twice_more ws v, t) in
    ap twice (sym (append_assoc ws (v ∷ []) vs)) ∙ twice_kept (ws ++ (v ∷ [])) vs more

pub twice_take : (ws : List (List ℕ)) (j : ℕ) → twice (take j ws) ≡ true → twice ws ≡ true
twice_take ws j t = ap twice (sym (take-append-drop j ws)) ∙ twice_kept (take j ws) (drop j ws) t
