-- `put_target` meets its contract. Assumes nothing.
use mathlib.Core.Path.{refl, ◌∙◌}
use native.Mathlib.Omega.{arith}
use Rattle.sheets.proofs.Prepares.{target_room}
use Rattle.sheets.proofs.States.{drops_on, drops_off, put_dropped, put_stored}
use Rattle.sheets.proofs.filling.Draft.put_target.Goals as goal
use Rattle.sheets.proofs.filling.Draft.put_target.Goals.{else-r-code-via-then-r-code+else-code-r, else-r-code-via-else-r-code}

pub returns-then-code-r : goal.returns-then-code-r
returns-then-code-r g c =
    let a = c.args in
    put_dropped a.self.code.now a.r a.t a.f a.buffer.now (drops_on a.self.code.now a.r a.t c.if-r-code.true c.if-code-r.true)

pub write_number-requires : goal.write_number-requires
write_number-requires g c =
    let s = c.requires in
    (omega arith, (omega (arith, c.target_place.ensures, c.args.self.numbered.width_is, target_room _ _ s.room c.args.f.stored s.fewer), s.inside))

pub returns : goal.returns
returns g c =
    let a = c.args in
    put_stored a.self.code.now a.r a.t a.f a.buffer.now
    (drops_off a.self.code.now a.r a.t
    (λ h. elim c.else-r-code.branch [
      | else-r-code-via-then-r-code+else-code-r v ↦ v.if-code-r.false
      | else-r-code-via-else-r-code v ↦ absurd (omega arith)
    ]))
    _
    (c.write_number.ensures ∙ rw (c.target_place.ensures, a.self.numbered.width_is) refl)
