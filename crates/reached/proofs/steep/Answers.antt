-- `steep` meets its contract. Assumes nothing.
use native.Mathlib.Omega.{arith}
use lib.Seq.{length-take-le}
use Rattle.reached.proofs.Counting.{steep_made, steep_good, byte_ok, steep_shown}
use Rattle.reached.proofs.steep.Goals as goal

pub cost_behind-requires : goal.cost_behind-requires
cost_behind-requires c =
    let code = steep_made c.args.m _ c.fill_ruler.ensures (length-take-le _ _ (omega arith)) in
    steep_good c.args.m c.args.n c.requires.0 c.requires.1 c.requires.2 code

pub unwrap-requires : goal.unwrap-requires
unwrap-requires c =
    let code = steep_made c.args.m _ c.fill_ruler.ensures (length-take-le _ _ (omega arith)) in
    byte_ok c.args.m c.args.n c.requires.0 c.requires.1 c.requires.2 code _ c.cost_behind.ensures c.byte_ceiling.ensures

pub returns : goal.returns
returns c =
    let code = steep_made c.args.m _ c.fill_ruler.ensures (length-take-le _ _ (omega arith)) in
    steep_shown c.args.m c.args.n c.requires.0 c.requires.1 c.requires.2 code _ c.cost_behind.ensures c.byte_ceiling.ensures c.unwrap.ensures
