-- `new` meets its contract: where no refusal came up, there is none. Assumes nothing.
use mathlib.Core.Path.{◌≡◌, sym, ap, ◌∙◌}
use Rattle.runs.specs.Refusals.{refusal_of}
use Rattle.boards.specs.Board.{list_refusal}
use Rattle.boards.proofs.Listing.{good_of}
use Rattle.boards.proofs.given.Codes.new.Goals as goal

pub invariant_of-result : goal.invariant_of-result
invariant_of-result c =
    let none : list_refusal c.args.lengths.now c.args.bytes.now ≡ 0 = sym c.check_list.ensures ∙ ap refusal_of c.in_ok-check_list.was in
    let good = good_of _ _ none in
    record { listed = none; codes_few = good.codes; bytes_few = good.bytes }
