-- `put_pair` meets its contract. Assumes nothing.
use native.Mathlib.Omega.{arith}
use Rattle.boards.proofs.Splices.{spliced_pair}
use Rattle.boards.proofs.layout.put_pair.Goals as goal

pub returns : goal.returns
returns c = spliced_pair (omega (arith, c.ranges.v.fits)) c.to_be_bytes.ensures c.put_bytes.ensures
