-- `feed` meets its contract. The codes that the buffer names, if a board can have them, are lent to `feed_codes`. Assumes nothing.
use Rattle.words.proofs.Tests.{never_both}
use Rattle.boards.proofs.Calling.{says_none}
use Rattle.boards.proofs.piece.feed.Goals as goal

pub returns-in_default : goal.returns-in_default
returns-in_default c = says_none _ _ _ (λ b. never_both b c.in_default.ensures.none)
