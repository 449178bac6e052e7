-- Building: the links of the empty start are there among no links, and what building answers. Assumes nothing.
use mathlib.Core.Path.{◌≡◌, sym, ap, ◌∙◌}
use mathlib.Core.Bool.{true, false}
use mathlib.Core.List.{List, [], ◌∷◌}
use Prim.Native.Nat.{ℕ, ◌+◌, ◌*◌, ◌≤◌, ◌<◌}
use native.Mathlib.Omega.{arith}
use lib.ListN.{length, length-replicate}
use Rattle.words.proofs.Tests.{fails}
use Rattle.words.proofs.Lists.{every_at}
use Rattle.starts.specs.Starts.{known, state, index, is_code, number}
use Rattle.starts.proofs.States.{state_nil}
use Rattle.starts.proofs.Codes.{index_below, code_index, number_none}
use Rattle.starts.proofs.Ends.{fallback_one}
use Rattle.starts.proofs.Nearest.{nearest_nil}
use Rattle.boards.specs.declared.links.Links.{Links as LinkLists}
use Rattle.boards.specs.declared.tree.Tree.{Tree as TreeLists}
use Rattle.boards.specs.Board.{cut}
use Rattle.boards.specs.Tables.{Good, Ended, tables, no_links, Done, Level, AllAdded, OnLevels}
use Rattle.boards.proofs.Added.{zeros}
use Rattle.boards.proofs.Cuts.{cut_length, cut_code_length}

-- no code is empty
pub no_empty_code : (ls bs : List ℕ) → Good ls bs → is_code (cut ls bs) [] ≡ false
no_empty_code ls bs g =
    fails (is_code (cut ls bs) [])
    (λ e.
    let j : ℕ = index (cut ls bs) [] in
    let h : j < length ls = omega (arith, index_below (cut ls bs) [] e, cut_length ls bs) in
    omega (arith, every_at (λ l. 1 ≤ l) ls j g.filled h, cut_code_length ls bs j (omega (arith, g.sums)) h, ap length (code_index (cut ls bs) [] e)))

-- THE SHORTEST START, the empty one, once the codes' ends are in place among no links
module _ (ls bs : List ℕ) (g : Good ls bs) (ends : List ℕ) (d : Ended (cut ls bs) ends) where
  abbrev begun : LinkLists
  begun = tables no_links.links ends no_links.shorter

  none_done : (u : List ℕ) → length u ≤ 0 → known (cut ls bs) u ≡ true → Done (cut ls bs) begun u
  none_done [] h n =
      let ws : List (List ℕ) = cut ls bs in
      let none : number ws [] ≡ 0 = number_none ws [] (no_empty_code ls bs g) in
      record {
        link = zeros 4002 (2 * state ws []) ∙ sym (ap (state ws) (fallback_one ws [] (omega arith)) ∙ state_nil ws);
        size = zeros 4002 (2 * state ws [] + 1);
        near = d.numbers [] n ∙ none ∙ sym (nearest_nil ws (no_empty_code ls bs g));
        short = λ j s. absurd (omega (arith, none, s));
      }
  none_done (c ∷ u) h n = absurd (omega arith)

  pub first_level : Level (cut ls bs) 0 begun
  first_level =
      record {
        done = λ u n h. none_done u h n;
        left = λ u n h. d.numbers u n;
        blank = record {
          none = λ q h. (zeros 4002 (2 * q), zeros 4002 (2 * q + 1), d.none q h);
          links_long = omega (arith, length-replicate {A = ℕ} 4002 0);
          nearest_long = d.long;
          shorter_long = omega (arith, length-replicate {A = ℕ} 64 0);
        };
      }

-- THE FUNCTION: what linking all states needs, and what is built then
pub levels_ready : {ls bs ends starts : List ℕ} {t : TreeLists} {k : LinkLists} → Good ls bs → k ≡ no_links → AllAdded (cut ls bs) t ends starts →
    OnLevels (cut ls bs) starts t (tables k.links ends k.shorter)
levels_ready {ls} {bs} {ends} g new a =
    record { is_tree = a.is_tree; offsets = a.offsets; level = rw new (first_level ls bs g ends a.ended) }
