-- `fill_code` meets its contract. The loop keeps that the bytes passed are in place. Assumes nothing.
use mathlib.Core.Path.{◌≡◌}
use mathlib.Core.List.{List, [], ◌++◌}
use Prim.Native.Nat.{ℕ}
use lib.ListN.{length, take}
use Rattle.sheets.specs.Sheet.{front, target_place}
use Rattle.sheets.specs.Inside.{Filling, FrontMade}
use Rattle.sheets.proofs.filling.Draft.fill_code.Given as goal

abbrev pub invariant-loop-i : goal.invariant-loop-i
invariant-loop-i g l = (length l.buffer ≡ length l.initial.buffer)
    × ((a : List ℕ) → FrontMade (length l.self.code.now) a l.initial.buffer →
    Filling (target_place (length l.self.code.now) 0) (front (length l.self.code.now) ++ take l.i l.self.code.now) [] a l.buffer)
