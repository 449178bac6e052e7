-- `follow` meets its contract. The loop keeps that the bytes passed are a start, and its state. Assumes nothing.
use mathlib.Core.List.{List}
use Prim.Native.Nat.{ℕ}
use Rattle.boards.specs.Tables.{Tree}
use Rattle.boards.proofs.Trees.{Going}
use Rattle.boards.proofs.tree.Tree.follow.Given as goal

abbrev pub invariant-loop-d : goal.invariant-loop-d
invariant-loop-d l = (ws : List (List ℕ)) → Tree ws l.self → Going ws l.code l.g l.d
