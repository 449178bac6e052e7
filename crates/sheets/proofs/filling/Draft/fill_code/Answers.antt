-- `fill_code` meets its contract. The loop keeps that the bytes passed are in place. Assumes nothing.
use mathlib.Core.Path.{◌≡◌, refl, ◌∙◌}
use mathlib.Core.List.{append-nil}
use native.Mathlib.Omega.{arith}
use lib.Seq.{take_all}
use lib.ListN.{length-set, length, take}
use Rattle.sheets.specs.Sheet.{front}
use Rattle.sheets.proofs.Widths.{places_before}
use Rattle.sheets.proofs.Prepares.{room_before, code_more}
use Rattle.sheets.proofs.filling.Draft.fill_code.Goals as goal

pub loop-i-init : goal.loop-i-init
loop-i-init g c = (refl, λ a f. rw (append-nil (front (length c.args.self.code.now))) f)

pub bounds-buffer-start : goal.bounds-buffer-start
bounds-buffer-start g c =
    let m = length c.args.self.code.now in
    omega (arith, c.code_start-start.ensures.0, c.loop-i.invariant.0, c.fill_front.ensures.long, c.requires, room_before m, places_before m)

pub loop-i-preserved : goal.loop-i-preserved
loop-i-preserved g c =
    let l = c.loop-i in
    let w = c.args.self.code.now in (
      length-set l.buffer _ _ ∙ l.invariant.0,
      λ a f.
          rw c.code_start-start.ensures.0
          (code_more w l.i (omega arith) (omega (arith, l.invariant.0, c.fill_front.ensures.long, c.requires, room_before (length w))) (l.invariant.1 a f)),
    )

pub returns : goal.returns
returns g c =
    let l = c.loop-i in
    let w = c.args.self.code.now in
    let at : take l.i w ≡ w = take_all l.i w (omega arith) in
    rw at at (l.invariant.1 c.args.buffer.now c.fill_front.ensures)
