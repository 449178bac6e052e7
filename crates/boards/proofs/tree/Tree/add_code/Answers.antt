-- `add_code` meets its contract: the code was followed to its end, or it branches off. Assumes nothing.
use Prim.Native.Nat.{◌≤◌}
use native.Mathlib.Omega.{arith}
use Rattle.boards.proofs.Adding.{Ready, followed_low, ready_none, ready_fork, added_new, added_old}
use Rattle.boards.proofs.tree.Tree.add_code.Goals as goal
use Rattle.boards.proofs.tree.Tree.add_code.Goals.{then-w-code, else-w-code}

-- the state where it branches off is within the lists
pub offset_bounds-self-w : goal.offset_bounds-self-w
offset_bounds-self-w c =
    let x = c.requires.adding in
    omega (arith, followed_low _ _ _ _ _ _ x _ c.label_code.ensures _ _ (c.follow-w.ensures _ x.is_tree))

pub bounds-self-w : goal.bounds-self-w
bounds-self-w c =
    let x = c.requires.adding in
    omega (arith, followed_low _ _ _ _ _ _ x _ c.label_code.ensures _ _ (c.follow-w.ensures _ x.is_tree))

pub offset_bounds-self-w-then-w-code : goal.offset_bounds-self-w-then-w-code
offset_bounds-self-w-then-w-code c =
    let x = c.requires.adding in
    omega (arith, followed_low _ _ _ _ _ _ x _ c.label_code.ensures _ _ (c.follow-w.ensures _ x.is_tree))

pub bounds-self-w-then-w-code : goal.bounds-self-w-then-w-code
bounds-self-w-then-w-code c =
    let x = c.requires.adding in
    omega (arith, followed_low _ _ _ _ _ _ x _ c.label_code.ensures _ _ (c.follow-w.ensures _ x.is_tree))

-- whichever way it came, `end` is within the lists
pub bounds-ends-end : goal.bounds-ends-end
bounds-ends-end c =
    let x = c.requires.adding in
    let low = followed_low _ _ _ _ _ _ x _ c.label_code.ensures _ _ (c.follow-w.ensures _ x.is_tree) in
    let end : c.if-w-code.end ≤ 2000 =
    elim c.if-w-code.branch [ then-w-code w ↦ omega (arith, w.end-is, x.few) | else-w-code w ↦ omega (arith, w.end-is, low) ] in
    omega (arith, end)

pub bounds-ends-end-2 : goal.bounds-ends-end-2
bounds-ends-end-2 c =
    let x = c.requires.adding in
    let low = followed_low _ _ _ _ _ _ x _ c.label_code.ensures _ _ (c.follow-w.ensures _ x.is_tree) in
    let end : c.if-w-code.end ≤ 2000 =
    elim c.if-w-code.branch [ then-w-code w ↦ omega (arith, w.end-is, x.few) | else-w-code w ↦ omega (arith, w.end-is, low) ] in
    omega (arith, end)

-- and the tree has the code, and `end` is its state
pub returns-then-ends-end-ne0 : goal.returns-then-ends-end-ne0
returns-then-ends-end-ne0 c ws x =
    let labels = c.label_code.ensures in
    let went = c.follow-w.ensures ws x.is_tree in
    let ready : Ready ws c.args.code.now c.if-w-code.self c.if-w-code.end =
    elim c.if-w-code.branch [
      | then-w-code w ↦
          rw (w.self-is, w.end-is)
          (ready_fork ws _ _ _ _ _ x _ labels _ _ went w.from-c.result _ _ w.if-w-code.true w.from-c.ensures (omega (arith, w.from-c.type_inv))
          w.with_bit.ensures w.with_bit-then-w-code.ensures)
      | else-w-code w ↦ rw (w.self-is, w.end-is) (ready_none ws _ _ _ _ _ x _ labels _ _ went (omega (arith, w.if-w-code.false)))
    ] in
    added_old _ _ _ x.ended _ _ ready c.if-ends-end-ne0.true

pub returns : goal.returns
returns c ws x =
    let labels = c.label_code.ensures in
    let went = c.follow-w.ensures ws x.is_tree in
    let ready : Ready ws c.args.code.now c.if-w-code.self c.if-w-code.end =
    elim c.if-w-code.branch [
      | then-w-code w ↦
          rw (w.self-is, w.end-is)
          (ready_fork ws _ _ _ _ _ x _ labels _ _ went w.from-c.result _ _ w.if-w-code.true w.from-c.ensures (omega (arith, w.from-c.type_inv))
          w.with_bit.ensures w.with_bit-then-w-code.ensures)
      | else-w-code w ↦ rw (w.self-is, w.end-is) (ready_none ws _ _ _ _ _ x _ labels _ _ went (omega (arith, w.if-w-code.false)))
    ] in
    added_new _ _ _ x.ended _ _ ready _ x.number_is c.if-ends-end-ne0.false
