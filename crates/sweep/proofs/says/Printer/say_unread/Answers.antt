-- `say_unread` meets its contract. By whether there is room. Assumes nothing.
use Rattle.sweep.proofs.Saying.{room_used, room_not}
use Rattle.sweep.proofs.says.Printer.say_unread.Goals as goal

pub returns : goal.returns
returns c = room_used c.in_ok-make_room.ensures c.put_unread.ensures

pub returns-in_err-make_room : goal.returns-in_err-make_room
returns-in_err-make_room c = room_not _ c.from_residual.ensures.0 c.in_err-make_room.ensures
