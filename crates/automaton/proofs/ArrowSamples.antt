-- The table of samples holds: both sides compute to the same lists. Assumes nothing.
-- Files are checked by name: this one comes first and cites no law, so wrong arrows or costs are refused here, by their numbers.
use mathlib.Core.Path.{refl}
use Rattle.words.specs.Words.{byte, member, same, suffix, ends_with, is_border, largest, state_of}
use Rattle.runs.specs.Reading.{over}
use Rattle.automaton.specs.Arrows.{label, targets_from, forward, back_targets, try_forward, try_back, stepped}
use Rattle.automaton.specs.Costs.{cost_after}
use Rattle.automaton.specs.Samples.{each_targets, targeted, step_costs, stepping, arrow_samples, ArrowSamplesHold}

pub arrow_samples_hold : ArrowSamplesHold
unfolding byte member same suffix ends_with is_border largest state_of over cost_after label targets_from forward back_targets try_forward try_back stepped
    each_targets targeted step_costs stepping arrow_samples ArrowSamplesHold
arrow_samples_hold = refl
