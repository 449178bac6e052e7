-- `is_no_board` meets its contract. Assumes nothing.
use mathlib.Core.Path.{sym}
use Rattle.boards.proofs.Listing.{no_codes, many_codes, many_bytes, by_sum}
use Rattle.boards.proofs.given.is_no_board.Goals as goal
use Rattle.boards.proofs.given.is_no_board.Goals.{then-count-eq0-via-then-count-eq0, then-count-eq0-via-else-count-eq0+then-count-gt-MOST_CODES}
use Rattle.boards.proofs.given.is_no_board.Goals.{then-count-eq0-via-else-count-eq0+else-count-gt-MOST_CODES+then-bytes-gt-MOST_BYTES}

pub returns-then-count-eq0 : goal.returns-then-count-eq0
returns-then-count-eq0 c =
    sym
    (elim c.then-count-eq0.branch [
      | then-count-eq0-via-then-count-eq0 w ↦ no_codes _ _ w.if-count-eq0.true
      | then-count-eq0-via-else-count-eq0+then-count-gt-MOST_CODES w ↦ many_codes _ _ w.if-count-eq0.false w.if-count-gt-MOST_CODES.true
      | then-count-eq0-via-else-count-eq0+else-count-gt-MOST_CODES+then-bytes-gt-MOST_BYTES w ↦
          many_bytes _ _ w.if-count-eq0.false w.if-count-gt-MOST_CODES.false w.if-bytes-gt-MOST_BYTES.true
    ])

pub returns : goal.returns
returns c = by_sum _ _ c.if-count-eq0.false c.if-count-gt-MOST_CODES.false c.if-bytes-gt-MOST_BYTES.false _ c.add_up.ensures.all
