-- Codes and their numbers: whether a word is one of a list, which, the code of a number, and what codes appended change. Assumes nothing.
use mathlib.Core.Path.{◌≡◌, refl, sym, ◌∙◌}
use mathlib.Core.Bool.{true, false, ◌||◌, or-true, or-false, or_assoc}
use mathlib.Core.Logic.{◌≢◌}
use mathlib.Core.List.{List, [], ◌∷◌, ◌++◌}
use Prim.Native.Nat.{ℕ, zero, suc, ◌+◌, ◌≤◌, ◌<◌}
use native.Mathlib.Omega.{arith}
use lib.ListN.{length}
use lib.Seq.{take-length}
use Rattle.words.specs.Words.{same}
use Rattle.words.proofs.Tests.{by_test, never_both, fails, or_none, or_swap}
use Rattle.words.proofs.Lists.{same_refl, same_eq, not_same, same_sym}
use Rattle.starts.specs.Starts.{code, known, is_code, index, number, twice}
use Rattle.starts.proofs.States.{start_test, known_at}

-- WHICH CODE: what the first one decides
pub index_here : (w u : List ℕ) (ws : List (List ℕ)) → same w u ≡ true → index (w ∷ ws) u ≡ 0
unfolding index
index_here w u ws t = rw t

pub index_later : (w u : List ℕ) (ws : List (List ℕ)) → same w u ≡ false → index (w ∷ ws) u ≡ suc (index ws u)
unfolding index
index_later w u ws t = rw t

-- a code stands at its index, and nowhere earlier
pub index_below : (ws : List (List ℕ)) (u : List ℕ) → is_code ws u ≡ true → index ws u < length ws
unfolding is_code
index_below [] u e = absurd (never_both e refl)
index_below (w ∷ ws) u e =
    by_test (same w u)
    (λ t. omega (arith, index_here w u ws t))
    (λ t. omega (arith, index_later w u ws t, index_below ws u (rw t at e)))

pub code_index : (ws : List (List ℕ)) (u : List ℕ) → is_code ws u ≡ true → code ws (index ws u) ≡ u
unfolding is_code code
code_index [] u e = absurd (never_both e refl)
code_index (w ∷ ws) u e =
    by_test (same w u)
    (λ t. rw (index_here w u ws t) (same_eq w u t))
    (λ t. rw (index_later w u ws t) (code_index ws u (rw t at e)))

pub is_code_at : (ws : List (List ℕ)) (j : ℕ) → j < length ws → is_code ws (code ws j) ≡ true
unfolding is_code code
is_code_at [] j h = absurd (omega arith)
is_code_at (w ∷ ws) zero h = rw (same_refl w)
is_code_at (w ∷ ws) (suc j) h = rw (is_code_at ws j (omega arith), or-true (same w (code ws j)))

pub index_least : (ws : List (List ℕ)) (j : ℕ) → j < length ws → index ws (code ws j) ≤ j
unfolding code
index_least [] j h = absurd (omega arith)
index_least (w ∷ ws) zero h = omega (arith, index_here w w ws (same_refl w))
index_least (w ∷ ws) (suc j) h =
    by_test (same w (code ws j))
    (λ t. omega (arith, index_here w (code ws j) ws t))
    (λ t. omega (arith, index_later w (code ws j) ws t, index_least ws j (omega arith)))

-- what every code has, number by number, a word has that is one of them
pub code_has : (P : List ℕ → Type 0) (ws : List (List ℕ)) → ((j : ℕ) → j < length ws → P (code ws j)) → (u : List ℕ) → is_code ws u ≡ true → P u
code_has P ws all u e = rw (code_index ws u e) at (all (index ws u) (index_below ws u e))

-- a code is a start of itself; it has as many bytes as all codes have, so a byte where no code is empty
pub code_known : (ws : List (List ℕ)) (u : List ℕ) → is_code ws u ≡ true → known ws u ≡ true
code_known ws u e =
    known_at ws u (index ws u) (index_below ws u e) (rw (code_index ws u e) (start_test u u (take-length u)))

pub code_within : (ws : List (List ℕ)) (d : ℕ) → ((j : ℕ) → j < length ws → d ≤ length (code ws j)) → (u : List ℕ) → is_code ws u ≡ true → d ≤ length u
code_within ws d = code_has (λ u. d ≤ length u) ws

pub none_empty : (ws : List (List ℕ)) → ((j : ℕ) → j < length ws → 1 ≤ length (code ws j)) → is_code ws [] ≡ false
none_empty ws some = fails (is_code ws []) (λ e. omega (arith, code_within ws 1 some [] e))

pub code_some : (ws : List (List ℕ)) → is_code ws [] ≡ false → (u : List ℕ) → is_code ws u ≡ true → 0 < length u
code_some ws empty [] e = absurd (never_both e empty)
code_some ws empty (c ∷ u) e = omega arith

-- NUMBERS, from 1: of a code, and of no code
pub number_code : (ws : List (List ℕ)) (u : List ℕ) → is_code ws u ≡ true → number ws u ≡ suc (index ws u)
unfolding number
number_code ws u e = rw e

pub number_none : (ws : List (List ℕ)) (u : List ℕ) → is_code ws u ≡ false → number ws u ≡ 0
unfolding number
number_none ws u e = rw e

pub number_few : (ws : List (List ℕ)) (u : List ℕ) → number ws u ≤ length ws
number_few ws u =
    by_test (is_code ws u)
    (λ e. omega (arith, number_code ws u e, index_below ws u e))
    (λ e. omega (arith, number_none ws u e))

-- the code that has a number
module _ (ws : List (List ℕ)) (u : List ℕ) (i : ℕ) (e : number ws u ≡ suc i) where
  pub numbered_code : is_code ws u ≡ true
  numbered_code = by_test (is_code ws u) (λ t. t) (λ t. absurd (omega (arith, e, number_none ws u t)))

  pub numbered : (i < length ws) × (code ws i ≡ u)
  numbered =
      let at : index ws u ≡ i = omega (arith, e, number_code ws u numbered_code) in
      (omega (arith, index_below ws u numbered_code), rw at at (code_index ws u numbered_code))

-- a word that is none of the codes differs from each
pub none_same : (ws : List (List ℕ)) (u : List ℕ) (j : ℕ) → is_code ws u ≡ false → j < length ws → same u (code ws j) ≡ false
none_same ws u j none h =
    fails (same u (code ws j)) (λ t. never_both (rw (same_eq u (code ws j) t) (is_code_at ws j h)) none)

-- where no code stands twice, each has its own number
index_at : (ws : List (List ℕ)) (j : ℕ) → twice ws ≡ false → j < length ws → index ws (code ws j) ≡ j
unfolding code twice
index_at [] j n h = absurd (omega arith)
index_at (w ∷ ws) zero n h = index_here w w ws (same_refl w)
index_at (w ∷ ws) (suc j) n h =
    let once = or_none (is_code ws w) (twice ws) n in
    omega
    (arith, index_later w (code ws j) ws (none_same ws w j once.0 (omega arith)), index_at ws j once.1 (omega arith))

pub number_at : (ws : List (List ℕ)) (j : ℕ) → twice ws ≡ false → j < length ws → number ws (code ws j) ≡ suc j
number_at ws j n h = omega (arith, number_code ws (code ws j) (is_code_at ws j h), index_at ws j n h)

-- CODES APPENDED: a word is one of all where it is one of either list; those in front keep their numbers, and those behind are counted on
pub is_code_append : (ws vs : List (List ℕ)) (u : List ℕ) → is_code (ws ++ vs) u ≡ is_code ws u || is_code vs u
unfolding is_code
is_code_append [] vs u = refl
is_code_append (w ∷ ws) vs u = rw (is_code_append ws vs u, or_assoc (same w u) (is_code ws u) (is_code vs u))

index_kept : (ws vs : List (List ℕ)) (u : List ℕ) → is_code ws u ≡ true → index (ws ++ vs) u ≡ index ws u
unfolding is_code
index_kept [] vs u e = absurd (never_both e refl)
index_kept (w ∷ ws) vs u e =
    by_test (same w u)
    (λ t. index_here w u (ws ++ vs) t ∙ sym (index_here w u ws t))
    (λ t. rw (index_later w u (ws ++ vs) t, index_later w u ws t, index_kept ws vs u (rw t at e)))

index_behind : (ws vs : List (List ℕ)) (u : List ℕ) → is_code ws u ≡ false → index (ws ++ vs) u ≡ length ws + index vs u
unfolding is_code
index_behind [] vs u e = omega arith
index_behind (w ∷ ws) vs u e =
    let none = or_none (same w u) (is_code ws u) e in
    omega (arith, index_later w u (ws ++ vs) none.0, index_behind ws vs u none.1)

module _ (ws vs : List (List ℕ)) (u : List ℕ) where
  pub number_kept : is_code ws u ≡ true → number (ws ++ vs) u ≡ number ws u
  number_kept e =
      let more : is_code (ws ++ vs) u ≡ true = rw (is_code_append ws vs u, e) in
      omega (arith, number_code (ws ++ vs) u more, number_code ws u e, index_kept ws vs u e)

  pub number_behind : is_code ws u ≡ false → is_code vs u ≡ true → number (ws ++ vs) u ≡ length ws + number vs u
  number_behind e b =
      let more : is_code (ws ++ vs) u ≡ true = rw (is_code_append ws vs u, e, b) in
      omega (arith, number_code (ws ++ vs) u more, number_code vs u b, index_behind ws vs u e)

-- none stands twice where none does in either list, and none of the first is one of the second
pub once_append : (ws vs : List (List ℕ)) → twice ws ≡ false → twice vs ≡ false → ((u : List ℕ) → is_code ws u ≡ true → is_code vs u ≡ false) →
    twice (ws ++ vs) ≡ false
unfolding twice is_code
once_append [] vs a b other = b
once_append (w ∷ ws) vs a b other =
    let once = or_none (is_code ws w) (twice ws) a in
    let new : is_code vs w ≡ false = other w (rw (same_refl w)) in
    rw (is_code_append ws vs w, once.0, new)
    (once_append ws vs once.1 b (λ u e. other u (rw (e, or-true (same w u)))))

-- ONE CODE MORE at the end
is_code_more : (ws : List (List ℕ)) (w u : List ℕ) → is_code (ws ++ (w ∷ [])) u ≡ is_code ws u || same w u
unfolding is_code
is_code_more ws w u = rw (is_code_append ws (w ∷ []) u, or-false (same w u))

pub number_other : (ws : List (List ℕ)) (w u : List ℕ) → w ≢ u → number (ws ++ (w ∷ [])) u ≡ number ws u
number_other ws w u d =
    by_test (is_code ws u) (number_kept ws (w ∷ []) u)
    (λ e.
    let more : is_code (ws ++ (w ∷ [])) u ≡ false = rw (is_code_more ws w u, e, not_same w u d) in
    number_none (ws ++ (w ∷ [])) u more ∙ sym (number_none ws u e))

pub number_new : (ws : List (List ℕ)) (w : List ℕ) → is_code ws w ≡ false → number (ws ++ (w ∷ [])) w ≡ suc (length ws)
unfolding is_code
number_new ws w e =
    let one : is_code (w ∷ []) w ≡ true = rw (same_refl w) in
    omega
    (arith, number_behind ws (w ∷ []) w e one, number_code (w ∷ []) w one, index_here w w [] (same_refl w))

-- a list has a code twice where the codes before its last do, or where they have that one
pub twice_more : (ws : List (List ℕ)) (w : List ℕ) → twice (ws ++ (w ∷ [])) ≡ twice ws || is_code ws w
unfolding twice is_code
twice_more [] w = refl
twice_more (v ∷ ws) w =
    rw (is_code_more ws w v, twice_more ws w, same_sym w v) (or_swap (is_code ws v) (same v w) (twice ws) (is_code ws w))
