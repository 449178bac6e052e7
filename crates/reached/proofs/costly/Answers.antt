-- `costly` meets its contract. Assumes nothing.
use native.Mathlib.Omega.{arith}
use lib.Seq.{length-take-le}
use Rattle.reached.proofs.Counting.{costly_made, costly_good, text_few, total_ok, total_shown}
use Rattle.reached.proofs.costly.Goals as goal

pub count-x-requires : goal.count-x-requires
count-x-requires c =
    let code = costly_made c.args.m c.args.m _ c.fill_spaced.ensures (length-take-le _ _ (omega arith)) in
    let text = costly_made c.args.m c.args.n _ c.fill_spaced-2.ensures (length-take-le _ _ (omega arith)) in
    (costly_good c.args.m c.args.n c.requires.0 c.requires.1 code text, text_few c.args.m c.args.n c.requires.0 c.requires.1 code text c.requires.2)

pub unwrap-requires : goal.unwrap-requires
unwrap-requires c =
    let code = costly_made c.args.m c.args.m _ c.fill_spaced.ensures (length-take-le _ _ (omega arith)) in
    let text = costly_made c.args.m c.args.n _ c.fill_spaced-2.ensures (length-take-le _ _ (omega arith)) in
    total_ok c.args.m c.args.n c.requires.0 c.requires.1 code text _ c.count-x.ensures c.total_ceiling.ensures

pub returns : goal.returns
returns c =
    let code = costly_made c.args.m c.args.m _ c.fill_spaced.ensures (length-take-le _ _ (omega arith)) in
    let text = costly_made c.args.m c.args.n _ c.fill_spaced-2.ensures (length-take-le _ _ (omega arith)) in
    total_shown c.args.m c.args.n c.requires.0 c.requires.1 code text _ c.count-x.ensures c.total_ceiling.ensures c.unwrap.ensures
