-- `has_code` meets its contract. The word is the code looked at, or it is left among those behind it. Assumes nothing.
use mathlib.Core.Path.{refl, sym, ◌∙◌}
use native.Mathlib.Omega.{arith}
use Rattle.boards.proofs.Listing.{good_of}
use Rattle.boards.proofs.Listed.{slices_same, look_start, look_fits, look_found, look_next, look_end}
use Rattle.boards.proofs.joining.has_code.Goals as goal

pub loop-length-init : goal.loop-length-init
loop-length-init c = look_start _ _ _ (omega (arith, (good_of _ _ c.args.codes.listed).sums))

pub slice_bounds-eq-end : goal.slice_bounds-eq-end
slice_bounds-eq-end c = look_fits c.loop-length.invariant (omega arith) refl

pub returns-then-eq : goal.returns-then-eq
returns-then-eq c = sym (look_found c.loop-length.invariant (omega arith) refl (sym (slices_same _ _ c.eq.ensures) ∙ c.if-eq.true))

pub loop-length-preserved : goal.loop-length-preserved
loop-length-preserved c = look_next c.loop-length.invariant (omega arith) refl (sym (slices_same _ _ c.eq.ensures) ∙ c.if-eq.false)

pub returns : goal.returns
returns c = sym (look_end c.loop-length.invariant (omega arith))
