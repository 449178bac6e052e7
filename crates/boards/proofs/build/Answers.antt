-- `build` meets its contract. Assumes nothing.
use Rattle.boards.proofs.Listing.{good_of, once_passed}
use Rattle.boards.proofs.Added.{none_ended}
use Rattle.boards.proofs.Building.{levels_ready}
use Rattle.boards.proofs.build.Goals as goal

pub add_codes-requires : goal.add_codes-requires
add_codes-requires c = (c.requires.0, rw c.requires.1 none_ended)

pub link_levels-requires : goal.link_levels-requires
link_levels-requires c = levels_ready (good_of _ _ c.args.codes.listed) c.requires.1 c.in_ok-add_codes.ensures.added

pub returns-clause-built : goal.returns-clause-built
returns-clause-built c =
    let added = c.in_ok-add_codes.ensures in
    record { once = once_passed _ added.refusal; is_tree = added.added.is_tree; linked = c.link_levels.ensures }
