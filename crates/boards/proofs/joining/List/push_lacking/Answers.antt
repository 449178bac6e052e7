-- `push_lacking` meets its contract. The loop keeps that the codes before the next are done. Assumes nothing.
use mathlib.Core.Path.{sym, ◌∙◌}
use native.Mathlib.Omega.{arith}
use Rattle.boards.proofs.Listing.{good_of}
use Rattle.boards.proofs.Listed.{going_start, going_fits, going_room, going_turn, going_end, list_known, list_new}
use Rattle.boards.proofs.joining.List.push_lacking.Goals as goal
use Rattle.boards.proofs.joining.List.push_lacking.Goals.{then-not-has_code, else-not-has_code}

pub loop-length-init : goal.loop-length-init
loop-length-init c = going_start

pub overflow_add-end : goal.overflow_add-end
overflow_add-end c = omega (arith, going_fits (good_of _ _ c.args.second.listed) c.loop-length.invariant (omega arith), c.args.second.bytes_few)

pub slice_bounds-code-end : goal.slice_bounds-code-end
slice_bounds-code-end c = going_fits (good_of _ _ c.args.second.listed) c.loop-length.invariant (omega arith)

pub push-requires : goal.push-requires
push-requires c = going_room (good_of _ _ c.args.second.listed) c.loop-length.invariant (omega arith) c.requires

pub loop-length-preserved : goal.loop-length-preserved
loop-length-preserved c =
    let good = good_of _ _ c.args.second.listed in
    elim c.if-not-has_code.branch [
      | then-not-has_code w ↦
          rw (w.self-is, w.at-is)
          (going_turn good c.loop-length.invariant (omega arith) (list_new (sym c.has_code.ensures ∙ w.if-not-has_code.true) w.push.ensures))
      | else-not-has_code w ↦
          rw (w.self-is, w.at-is) (going_turn good c.loop-length.invariant (omega arith) (list_known (sym c.has_code.ensures ∙ w.if-not-has_code.false)))
    ]

pub returns : goal.returns
returns c = going_end (good_of _ _ c.args.second.listed) c.loop-length.invariant (omega arith)
