-- Laws of the codes that a list lacks, and of two lists joined. Assumes nothing.
use mathlib.Core.Path.{◌≡◌, refl, sym, ap, ◌∙◌}
use mathlib.Core.Bool.{true, false, ◌&&◌, ◌||◌, not, and-false, or-true}
use mathlib.Core.List.{List, [], ◌∷◌, ◌++◌, append-nil}
use Prim.Native.Nat.{ℕ, zero, suc, ◌+◌, ◌<◌}
use native.Mathlib.Omega.{arith}
use lib.ListN.{length}
use Rattle.words.specs.Words.{same}
use Rattle.words.proofs.Tests.{by_test, or_none}
use Rattle.words.proofs.Lists.{same_refl, same_eq}
use Rattle.starts.specs.Starts.{code, is_code, index, number, twice}
use Rattle.starts.proofs.Codes.{index_here, index_later, is_code_at, code_has, number_code, none_same, is_code_append, number_behind, once_append}
use Rattle.boards.specs.Join.{lacking, joined}

-- an empty list lacks all; of appended lists, it lacks what it lacks of each
pub lacking_all : (vs : List (List ℕ)) → lacking [] vs ≡ vs
unfolding lacking is_code
lacking_all [] = refl
lacking_all (v ∷ vs) = ap (λ (l : List (List ℕ)). v ∷ l) (lacking_all vs)

pub lacking_append : (ws xs ys : List (List ℕ)) → lacking ws (xs ++ ys) ≡ lacking ws xs ++ lacking ws ys
unfolding lacking
lacking_append ws [] ys = refl
lacking_append ws (x ∷ xs) ys = by_test (is_code ws x) (λ t. rw t (lacking_append ws xs ys)) (λ t. rw (t, lacking_append ws xs ys))

-- WHICH CODES are lacked: those of the second list that are none of the first; none of them stands twice where none does in the second
pub lacking_is : (ws vs : List (List ℕ)) (u : List ℕ) → is_code (lacking ws vs) u ≡ not (is_code ws u) && is_code vs u
unfolding lacking is_code
lacking_is ws [] u = sym (and-false (not (is_code ws u)))
lacking_is ws (v ∷ vs) u =
    by_test (same v u)
    (λ s.
    by_test (is_code ws v)
    (λ t. let had : is_code ws u ≡ true = rw (same_eq v u s) at t in rw (t, lacking_is ws vs u, had) refl)
    (λ t. let new : is_code ws u ≡ false = rw (same_eq v u s) at t in rw (t, s, new) refl))
    (λ s. by_test (is_code ws v) (λ t. rw (t, s) (lacking_is ws vs u)) (λ t. rw (t, s) (lacking_is ws vs u)))

lacking_once : (ws vs : List (List ℕ)) → twice vs ≡ false → twice (lacking ws vs) ≡ false
unfolding lacking twice
lacking_once ws [] e = refl
lacking_once ws (v ∷ vs) e =
    let once = or_none (is_code vs v) (twice vs) e in
    by_test (is_code ws v)
    (λ t. rw t (lacking_once ws vs once.1))
    (λ t. rw (t, lacking_is ws vs v, t, once.0) (lacking_once ws vs once.1))

-- they keep their order
lacking_order : (ws vs : List (List ℕ)) (i j : ℕ) → twice vs ≡ false → i < j → j < length vs → is_code ws (code vs i) ≡ false →
    index (lacking ws vs) (code vs i) < index (lacking ws vs) (code vs j)
unfolding lacking twice code
lacking_order ws [] i j e l h n = absurd (omega arith)
lacking_order ws (v ∷ vs) i zero e l h n = absurd (omega arith)
lacking_order ws (v ∷ vs) zero (suc j) e l h n =
    let other = none_same vs v j (or_none (is_code vs v) (twice vs) e).0 (omega arith) in
    rw n (omega (arith, index_here v v (lacking ws vs) (same_refl v), index_later v (code vs j) (lacking ws vs) other))
lacking_order ws (v ∷ vs) (suc i) (suc j) e l h n =
    let once = or_none (is_code vs v) (twice vs) e in
    let less = lacking_order ws vs i j once.1 (omega arith) (omega arith) n in
    let later-i = index_later v (code vs i) (lacking ws vs) (none_same vs v i once.0 (omega arith)) in
    let later-j = index_later v (code vs j) (lacking ws vs) (none_same vs v j once.0 (omega arith)) in
    by_test (is_code ws v) (λ t. rw t less) (λ t. rw t (omega (arith, less, later-i, later-j)))

-- THE CODES JOINED are those of either list; none stands twice; and what all codes of both have, each of them has
module _ (ws vs : List (List ℕ)) where
  pub joined_is : (u : List ℕ) → is_code (joined ws vs) u ≡ is_code ws u || is_code vs u
  unfolding joined
  joined_is u =
      rw (is_code_append ws (lacking ws vs) u, lacking_is ws vs u) (by_test (is_code ws u) (λ t. rw t refl) (λ t. rw t refl))

  pub joined_once : twice ws ≡ false → twice vs ≡ false → twice (joined ws vs) ≡ false
  unfolding joined
  joined_once a b = once_append ws (lacking ws vs) a (lacking_once ws vs b) (λ u e. rw (lacking_is ws vs u, e))

  pub joined_each : (P : List ℕ → Type 0) → ((j : ℕ) → j < length ws → P (code ws j)) → ((j : ℕ) → j < length vs → P (code vs j)) →
      (j : ℕ) → j < length (joined ws vs) → P (code (joined ws vs) j)
  joined_each P f g j h =
      let u : List ℕ = code (joined ws vs) j in
      let either : is_code ws u || is_code vs u ≡ true = sym (joined_is u) ∙ is_code_at (joined ws vs) j h in
      by_test (is_code ws u) (code_has P ws f u) (λ t. code_has P vs g u (rw t at either))

  -- those of the second that the first lacks are counted on, in their order
  joined_number : (u : List ℕ) → is_code ws u ≡ false → is_code vs u ≡ true → number (joined ws vs) u ≡ suc (length ws + index (lacking ws vs) u)
  unfolding joined
  joined_number u n e =
      let new : is_code (lacking ws vs) u ≡ true = rw (lacking_is ws vs u, n, e) in
      omega (arith, number_behind ws (lacking ws vs) u n new, number_code (lacking ws vs) u new)

  pub joined_order : (i j : ℕ) → twice vs ≡ false → i < j → j < length vs → is_code ws (code vs i) ≡ false → is_code ws (code vs j) ≡ false →
      number (joined ws vs) (code vs i) < number (joined ws vs) (code vs j)
  joined_order i j e l h n m =
      omega
      (arith, lacking_order ws vs i j e l h n, joined_number (code vs i) n (is_code_at vs i (omega arith)), joined_number (code vs j) m (is_code_at vs j h))

-- a list lacks none of its own codes, so joined with itself it is itself
lacking_none : (ws vs : List (List ℕ)) → ((u : List ℕ) → is_code vs u ≡ true → is_code ws u ≡ true) → lacking ws vs ≡ []
unfolding lacking is_code
lacking_none ws [] f = refl
lacking_none ws (v ∷ vs) f =
    let had : is_code ws v ≡ true = f v (rw (same_refl v)) in
    rw had (lacking_none ws vs (λ u e. f u (rw (e, or-true (same v u)))))

pub joined_same : (ws : List (List ℕ)) → joined ws ws ≡ ws
unfolding joined
joined_same ws = rw (lacking_none ws ws (λ u e. e)) (append-nil ws)
