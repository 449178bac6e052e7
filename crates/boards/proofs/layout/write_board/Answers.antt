-- `write_board` meets its contract: the parts stand one behind the other. Assumes nothing.
use native.Mathlib.Omega.{arith}
use lib.ListN.{length-set}
use Rattle.boards.proofs.Listing.{good_of}
use Rattle.boards.proofs.Rows.{lengths_small, board_written}
use Rattle.boards.proofs.layout.write_board.Goals as goal

pub put_lengths-requires : goal.put_lengths-requires
put_lengths-requires c =
    let good = good_of _ _ c.args.codes.listed in
    record { small = lengths_small good c.requires; room = simp length-set (omega (arith, c.requires.room, good.codes)) }

pub returns : goal.returns
returns c =
    board_written (good_of _ _ c.args.codes.listed) c.requires c.put_lengths.ensures c.put_bytes.ensures c.put_bytes-2.ensures c.put_rows.ensures
