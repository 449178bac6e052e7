-- The table of samples holds: both sides compute to the same lists. Assumes nothing.
use mathlib.Core.Path.{refl}
use Rattle.words.specs.Words.{byte, member, same, suffix, ends_with, is_border, largest, state_of, in_front}
use Rattle.runs.specs.Reading.{over, place_if, fed_more, feed, ending}
use Rattle.runs.specs.Calls.{run}
use Rattle.automaton.specs.Arrows.{label, targets_from, forward, back_targets, targets_below, try_forward, try_back, stepped}
use Rattle.automaton.specs.Ceilings.{halvings, log2, different, byte_ceiling, total_ceiling}
use Rattle.automaton.specs.Costs.{cost_after, sum}
use Rattle.codes.specs.Refusals.{refused_if, first_refusal}
use Rattle.codes.specs.Codes.{length_refusal, has_control, code_refusal, accepted}
use Rattle.sheets.specs.Sheet.{number, numbers, counts_below, layout, number_width, front, code_start, sheet, named_length, named, begins}
use Rattle.finder.specs.Feed.{fit, completed, reported, with_byte}
use Rattle.finder.specs.Machine.{found_after, machine_byte, machine_piece, call_refusal, machine_call, machine_refusals}
use Rattle.finder.specs.Entry.{feed_refusal, call_by, feed_call}
use Rattle.finder.specs.Samples.{preparing, fed_whole, searching, costing, calling, running, call_samples, CallSamplesHold}

pub call_samples_hold : CallSamplesHold
unfolding byte member same suffix ends_with is_border largest state_of over place_if fed_more feed ending run
    label targets_from forward back_targets targets_below try_forward try_back stepped halvings log2 different byte_ceiling total_ceiling
    refused_if first_refusal length_refusal has_control code_refusal accepted number numbers counts_below layout
    number_width front code_start sheet named_length named begins in_front
    fit completed reported with_byte cost_after found_after machine_byte machine_piece call_refusal machine_call machine_refusals sum
    feed_refusal call_by feed_call preparing fed_whole searching costing calling running call_samples CallSamplesHold
call_samples_hold = refl
