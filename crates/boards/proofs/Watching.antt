-- Feeding by its laws: what a byte does to the watch of a text, and that a byte keeps a watch fit. Assumes nothing.
use mathlib.Core.Path.{◌≡◌, refl, sym, ap, ◌∙◌}
use mathlib.Core.Bool.{Bool, true, ◌&&◌}
use mathlib.Core.List.{List, [], ◌∷◌, ◌++◌}
use Prim.Native.Nat.{ℕ, suc, ◌+◌, ◌*◌, ◌≤◌, ◌<◌}
use native.Mathlib.Omega.{arith}
use lib.Dec.{leb}
use lib.ListN.{length, length-append}
use borrow.Author.Tests.{leb-true, le-leb, eqb-true, eq-eqb}
use Rattle.words.proofs.Tests.{by_le, and_left, and_right, and_both}
use Rattle.words.proofs.Lists.{length_snoc}
use Rattle.runs.proofs.Over.{over_snoc, over_few}
use Rattle.starts.specs.Starts.{known, total, state, start, is_state, reached}
use Rattle.starts.specs.Hits.{hits_at, hits_after, hits}
use Rattle.starts.proofs.States.{known_nil, start_state, start_known}
use Rattle.starts.proofs.Ends.{reached_known, reached_short, reached_next}
use Rattle.starts.proofs.Hits.{hits_few, hits_reached}
use Rattle.boards.specs.declared.Watch.{Watch}
use Rattle.boards.specs.Feed.{fit, stepped, reported, with_byte, watch_of}
use Rattle.boards.proofs.Fitness.{start_over}

-- every number has a known start, a state or not
pub start_is_known : (ws : List (List ℕ)) (g : ℕ) → known ws (start ws g) ≡ true
start_is_known ws g =
    by_le g (total ws) (start_known ws g) (λ (h : total ws < g). rw (start_over ws g h) (known_nil ws))

module _ (ws : List (List ℕ)) where
  -- ONE BYTE from the state of a known start, and what it reports there
  pub stepped_from : (u : List ℕ) (g c : ℕ) → known ws u ≡ true → state ws u ≡ g → stepped ws g c ≡ state ws (reached ws (u ++ (c ∷ [])))
  unfolding stepped
  stepped_from u g c k e = rw (← e, start_state ws u k)

  pub hits_at_few : (u : List ℕ) (n : ℕ) → length (hits_at ws u n) ≤ length ws
  unfolding hits_at
  hits_at_few u n = hits_few ws (length u) u n (omega arith)

  pub reported_few : (c : ℕ) (x : Watch) → length (reported ws c x) ≤ length ws
  unfolding reported
  reported_few c x = hits_at_few (start ws (stepped ws x.state c)) (suc x.taken)

  -- THE WATCH OF A TEXT: a byte makes it that of the text and the byte, and reports what the byte completes; it is fit
  module _ (ts : List ℕ) (c : ℕ) where
    text_step : stepped ws (state ws (reached ws ts)) c ≡ state ws (reached ws (ts ++ (c ∷ [])))
    text_step =
        stepped_from (reached ws ts) (state ws (reached ws ts)) c (reached_known ws ts) refl ∙ ap (state ws) (sym (reached_next ws ts c))

    pub reports_text : reported ws c (watch_of ws ts) ≡ hits_after ws ts c
    unfolding reported hits_after
    reports_text =
        rw (text_step, start_state ws (reached ws (ts ++ (c ∷ []))) (reached_known ws (ts ++ (c ∷ []))))
        (sym (hits_reached ws (suc (length ts)) (ts ++ (c ∷ []))))

    pub follows_text : with_byte ws c (watch_of ws ts) ≡ watch_of ws (ts ++ (c ∷ []))
    unfolding with_byte
    follows_text =
        let count : length (hits ws (ts ++ (c ∷ []))) ≡ length (hits ws ts) + length (hits_after ws ts c) =
        ap length (over_snoc (hits_after ws) ts c) ∙ length-append (hits ws ts) (hits_after ws ts c) in
        rw (text_step, reports_text, length_snoc ts c, count) refl

  -- A FIT WATCH: its state is that of its start, which is no longer than what was taken, and it has at most 64 hits a byte
  pub record Fit (x : Watch) : Type 0 where
    pub state_is : state ws (start ws x.state) ≡ x.state
    pub reached : length (start ws x.state) ≤ x.taken
    pub few : x.hits ≤ 64 * x.taken

  module _ (x : Watch) where
    abbrev states : Bool
    states = is_state ws x.state

    abbrev reaches : Bool
    reaches = leb (length (start ws x.state)) x.taken

    abbrev counts : Bool
    counts = leb x.hits (64 * x.taken)

    pub fit_is : fit ws x ≡ true → Fit x
    unfolding fit is_state
    fit_is e =
        let both = and_left (states && reaches) counts e in
        record {
          state_is = eqb-true (state ws (start ws x.state)) x.state (and_left states reaches both);
          reached = leb-true (length (start ws x.state)) x.taken (and_right states reaches both);
          few = leb-true x.hits (64 * x.taken) (and_right (states && reaches) counts e);
        }

    pub fit_test : Fit x → fit ws x ≡ true
    unfolding fit is_state
    fit_test f =
        and_both (states && reaches) counts
        (and_both states reaches (eq-eqb (state ws (start ws x.state)) x.state f.state_is)
        (le-leb (length (start ws x.state)) x.taken f.reached))
        (le-leb x.hits (64 * x.taken) f.few)

  -- so is the watch of a text, that of any start, and one after a byte more
  pub fit_start : (u : List ℕ) (n h : ℕ) → known ws u ≡ true → length u ≤ n → h ≤ 64 * n → Fit (record { state = state ws u; taken = n; hits = h })
  fit_start u n h k l f =
      let at = start_state ws u k in record { state_is = ap (state ws) at; reached = rw at l; few = f }

  module _ (codes : length ws ≤ 64) where
    pub fit_text : (ts : List ℕ) → fit ws (watch_of ws ts) ≡ true
    unfolding hits_after
    fit_text ts =
        fit_test (watch_of ws ts)
        (fit_start (reached ws ts) (length ts) (length (hits ws ts)) (reached_known ws ts) (reached_short ws ts)
        (over_few (hits_after ws) 64 (λ bs c. omega (arith, hits_at_few (bs ++ (c ∷ [])) (suc (length bs)))) [] ts))

    pub fit_byte : (x : Watch) (c : ℕ) → Fit x → Fit (with_byte ws c x)
    unfolding with_byte stepped
    fit_byte x c f =
        let us : List ℕ = start ws x.state ++ (c ∷ []) in
        let size : length us ≡ suc (length (start ws x.state)) = length_snoc (start ws x.state) c in
        fit_start (reached ws us) (suc x.taken) (x.hits + length (reported ws c x)) (reached_known ws us)
        (omega (arith, reached_short ws us, f.reached)) (omega (arith, f.few, reported_few c x))
