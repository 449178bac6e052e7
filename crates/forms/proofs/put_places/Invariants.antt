-- `put_places` meets its contract. The loop keeps that the forms of the places passed are written. Assumes nothing.
use Prim.Native.Nat.{◌*◌}
use lib.ListN.{take}
use Rattle.forms.specs.Text.{place_forms, WrittenWithin}
use Rattle.forms.proofs.put_places.Given as goal

abbrev pub invariant-loop-place : goal.invariant-loop-place
invariant-loop-place l = WrittenWithin (16 * l.place-index) (place_forms (take l.place-index l.places)) l.at l.initial.buffer l.end l.buffer
