-- `count` meets its contract. Assumes nothing.
use native.Mathlib.Omega.{arith}
use Rattle.reached.proofs.Counting.{prepared, feeds, counted}
use Rattle.reached.proofs.Room.count.Goals as goal

pub unwrap-requires : goal.unwrap-requires
unwrap-requires c = prepared _ _ c.args.self.now.places _ c.requires.0 (omega arith) c.requires.1 (omega arith) c.prepare.result c.prepare.ensures

pub unwrap-f-requires : goal.unwrap-f-requires
unwrap-f-requires c = feeds _ _ _ _ c.requires.0 (omega arith) c.requires.1 (omega arith) c.feed.result c.prepare.ensures.leaves c.open.ensures c.feed.ensures

pub returns : goal.returns
returns c = counted _ _ _ _ c.requires.0 (omega arith) c.requires.1 (omega arith) c.feed.result c.prepare.ensures.leaves c.open.ensures c.feed.ensures c.unwrap-f.ensures
