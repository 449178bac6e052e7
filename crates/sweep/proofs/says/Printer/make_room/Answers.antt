-- `make_room` meets its contract. By whether the bytes fit. Assumes nothing.
use Rattle.sweep.proofs.Saying.{room_made}
use Rattle.sweep.proofs.says.Printer.make_room.Goals as goal

pub returns-then-left-most : goal.returns-then-left-most
returns-then-left-most c = room_made c.requires c.send_gathered.ensures
