-- Fitness of a watch, from the links of the starts: where a state is, its start's length stands, and 0 where none is. Assumes nothing.
use mathlib.Core.Path.{◌≡◌, refl, sym, ap, ◌∙◌}
use mathlib.Core.Bool.{true, false}
use mathlib.Core.List.{List, [], ◌∷◌}
use mathlib.Core.Logic.{◌≢◌}
use Prim.Native.Nat.{ℕ, ◌+◌, ◌*◌, ◌-◌, ◌≤◌, ◌<◌}
use native.Mathlib.Omega.{arith}
use lib.Dec.{leb}
use lib.ListN.{length, get_or}
use borrow.Author.Tests.{le-leb, lt-leb, eqb-true, ne_eqb}
use Rattle.words.proofs.Tests.{by_test, never_both, fails}
use Rattle.starts.specs.Starts.{total, state, start, is_state}
use Rattle.starts.proofs.States.{state_nil, start_nil, start_known, state_is_state}
use Rattle.boards.specs.declared.Watch.{Watch}
use Rattle.boards.specs.Feed.{fit}
use Rattle.boards.specs.Inside.{LinkedFor}

-- no number over the bytes of all codes is a state
pub start_over : (ws : List (List ℕ)) (g : ℕ) → total ws < g → start ws g ≡ []
unfolding start total
start_over [] g h = refl
start_over (w ∷ ws) g h = rw (lt-leb g (length w) (omega arith)) (start_over ws (g - length w) (omega arith))

over_none : (ws : List (List ℕ)) (g : ℕ) → total ws < g → is_state ws g ≡ false
unfolding is_state
over_none ws g h = rw (start_over ws g h, state_nil ws) (ne_eqb 0 g (λ e. omega arith))

-- 0 is one
pub zero_state : (ws : List (List ℕ)) (g : ℕ) → g ≡ 0 → is_state ws g ≡ true
unfolding is_state
zero_state ws g z = rw (z, start_nil ws, state_nil ws) refl

-- the start of another has a byte
state_longer : (ws : List (List ℕ)) (g : ℕ) → is_state ws g ≡ true → length (start ws g) ≡ 0 → g ≡ 0
unfolding is_state
state_longer ws g e z = sym (eqb-true (state ws (start ws g)) g e) ∙ of_none (start ws g) z
  where
    of_none : (u : List ℕ) → length u ≡ 0 → state ws u ≡ 0
    of_none [] h = state_nil ws
    of_none (c ∷ u) h = absurd (omega arith)

module _ (ws : List (List ℕ)) (links : List ℕ) (n : ℕ) (l : LinkedFor ws links n) (g : ℕ) where
  -- what stands there
  size_of : g ≤ n → is_state ws g ≡ true → get_or links (2 * g + 1) 0 ≡ length (start ws g)
  unfolding is_state
  size_of h e =
      let u : List ℕ = start ws g in
      let at : state ws u ≡ g = eqb-true (state ws u) g e in
      rw at at (l.size u (start_known ws g (omega (arith, l.bytes))))

  size_none : is_state ws g ≡ false → get_or links (2 * g + 1) 0 ≡ 0
  size_none e = l.none g (λ u k a. never_both (ap (is_state ws) (sym a) ∙ state_is_state ws u k) e)

  -- so where a number is, there is a state
  pub state_at : (d : ℕ) → d ≡ get_or links (2 * g + 1) 0 → d ≢ 0 → is_state ws g ≡ true
  state_at d at some = by_test (is_state ws g) (λ e. e) (λ e. absurd (some (at ∙ size_none e)))

  -- THE TESTS, each after those before it passed
  module _ (x : Watch) (is : g ≡ x.state) where
    unfit : is_state ws g ≡ false → false ≡ fit ws x
    unfolding fit
    unfit e = rw (← is, e) refl

    pub unfit_over : n < g → false ≡ fit ws x
    unfit_over h = unfit (over_none ws g (omega (arith, l.bytes)))

    module _ (h : g ≤ n) (d : ℕ) (at : d ≡ get_or links (2 * g + 1) 0) where
      pub unfit_none : g ≢ 0 → d ≡ 0 → false ≡ fit ws x
      unfit_none some z = unfit (fails (is_state ws g) (λ e. some (state_longer ws g e (sym (size_of h e) ∙ sym at ∙ z))))

      module _ (s : is_state ws g ≡ true) where
        pub unfit_deep : x.taken < d → false ≡ fit ws x
        unfolding fit
        unfit_deep t = rw (← is, s, ← size_of h s, ← at, lt-leb d x.taken t) refl

        pub fit_hits : d ≤ x.taken → leb x.hits (64 * x.taken) ≡ fit ws x
        unfolding fit
        fit_hits t = rw (← is, s, ← size_of h s, ← at, le-leb d x.taken t) refl
