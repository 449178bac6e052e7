-- Fitness of a watch, by its comparisons alone where all else is fit, and what a fit one can take. Assumes nothing.
use mathlib.Core.Path.{◌≡◌}
use mathlib.Core.Bool.{Bool, true, ◌&&◌}
use Prim.Native.Nat.{ℕ, ◌+◌, ◌*◌, ◌≤◌}
use native.Mathlib.Omega.{arith}
use borrow.Author.Tests.{le-leb, leb-true}
use lib.Dec.{leb}
use Rattle.words.proofs.Tests.{and_left, and_right}
use Rattle.runs.specs.Reading.{longest_text}
use Rattle.finder.specs.declared.Watch.{Watch}
use Rattle.finder.specs.Feed.{fit}
use Rattle.finder.specs.Inside.{Ready}

module _ (m : ℕ) (x : Watch) where
  pub fit_compares : x.state ≤ m → x.state ≤ x.taken → x.hits ≤ x.taken → leb x.compares (2 * x.taken) ≡ fit m x
  unfolding fit
  fit_compares a b h = rw (le-leb x.state m a, le-leb x.state x.taken b, le-leb x.hits x.taken h)

  -- a fit watch can take as many bytes as still count
  pub fit_ready : (n : ℕ) → fit m x ≡ true → x.taken + n ≤ longest_text → Ready m x n
  unfolding fit
  fit_ready n f h =
      let p : Bool = leb x.state m && leb x.state x.taken in
      let q : Bool = leb x.hits x.taken && leb x.compares (2 * x.taken) in
      let a = and_left p q f in
      let b = and_right p q f in
      let cost = leb-true x.compares (2 * x.taken) (and_right (leb x.hits x.taken) (leb x.compares (2 * x.taken)) b) in
      record {
        state = leb-true x.state m (and_left (leb x.state m) (leb x.state x.taken) a);
        reached = leb-true x.state x.taken (and_right (leb x.state m) (leb x.state x.taken) a);
        hits = leb-true x.hits x.taken (and_left (leb x.hits x.taken) (leb x.compares (2 * x.taken)) b);
        text = h;
        cheap = omega arith;
      }
