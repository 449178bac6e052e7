-- `write_place` meets its contract. By whether the code is complete. Assumes nothing.
use Prim.Native.Nat.{◌+◌}
use Rattle.finder.proofs.Places.{completed_one, completed_none}
use Rattle.finder.proofs.Repeating.{written_none, written_next}
use Rattle.finder.proofs.piece.write_place.Goals as goal

pub returns-then-s-m : goal.returns-then-s-m
returns-then-s-m c =
    let s = c.args.s in
    rw (completed_one c.args.m s.state (c.args.before + s.at) c.if-s-m.true) (written_next (written_none c.args.places.now) c.requires.room _)

pub returns : goal.returns
returns c =
    let s = c.args.s in rw (completed_none c.args.m s.state (c.args.before + s.at) c.if-s-m.false) (written_none c.args.places.now)
