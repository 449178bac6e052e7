-- `of` meets its contract: the lengths and the bytes stand in front. Assumes nothing.
use native.Mathlib.Omega.{arith}
use lib.ListN.{length, replicate, length-replicate}
use lib.Seq.{take_all}
use mathlib.Core.List.{List}
use Prim.Native.Nat.{ℕ, ◌+◌, ◌≤◌}
use mathlib.Core.Path.{◌≡◌}
use Rattle.boards.proofs.Listing.{good_of}
use Rattle.boards.proofs.Splices.{spliced_none, bytes_turn}
use Rattle.boards.proofs.Listed.{list_of}
use Rattle.boards.proofs.joining.List.of.Goals as goal

pub loop-i-init : goal.loop-i-init
loop-i-init c = spliced_none 0 _

pub loop-i-preserved : goal.loop-i-preserved
loop-i-preserved c =
    let l = c.loop-i in
    let ls = c.args.codes.lengths.now in
    let none : List ℕ = replicate 128 0 in
    let room : 0 + length ls ≤ length none = omega (arith, (good_of _ _ c.args.codes.listed).codes, length-replicate {A = ℕ} 128 0) in
    let at : 0 + l.i ≡ l.i = omega arith in
    rw at at (bytes_turn ls none l.lengths 0 l.i l.invariant (omega arith) room)

pub returns-clause-listed : goal.returns-clause-listed
returns-clause-listed c =
    let good = good_of _ _ c.args.codes.listed in
    list_of good (rw (take_all c.loop-i.i c.args.codes.lengths.now (omega arith)) at c.loop-i.invariant) c.put_bytes.ensures
