-- `join_codes` meets its contract. The codes of both are listed, then prepared. Assumes nothing.
use native.Mathlib.Omega.{arith}
use Rattle.boards.specs.Join.{joined}
use Rattle.boards.proofs.Listing.{good_of}
use Rattle.boards.proofs.Cuts.{cut_length, cut_total}
use Rattle.boards.proofs.Listed.{listed_prepares}
use Rattle.boards.proofs.joining.join_codes.Goals as goal

pub shared_ref_as_front-prepare : goal.shared_ref_as_front-prepare
shared_ref_as_front-prepare c =
    let k = c.args.second in
    omega (arith, c.of-list.ensures.few, c.push_lacking.ensures.count_few, cut_length k.lengths.now k.bytes.now, k.codes_few)

pub shared_ref_as_front-prepare-2 : goal.shared_ref_as_front-prepare-2
shared_ref_as_front-prepare-2 c =
    let k = c.args.second in
    let good = good_of _ _ k.listed in
    omega (arith, c.of-list.ensures.few, c.push_lacking.ensures.end_few, cut_total k.lengths.now k.bytes.now (omega (arith, good.sums)), good.sums, k.bytes_few)

pub returns : goal.returns
unfolding joined
returns c = listed_prepares (c.push_lacking.ensures.lists _ c.of-list.ensures.listed) c.prepare.ensures
