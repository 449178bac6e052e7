-- The table of samples holds: both sides compute to the same lists. Assumes nothing.
-- Files are checked by name: this one comes first and cites no law, so wrong words or costs are refused here, by their numbers.
use mathlib.Core.Path.{refl}
use Rattle.words.specs.Words.{byte, member, same, suffix, ends_with, is_border, largest, state_of}
use Rattle.runs.specs.Reading.{over}
use Rattle.automaton.specs.Arrows.{label, targets_from, forward, back_targets, try_forward, try_back, stepped}
use Rattle.automaton.specs.Ceilings.{halvings, log2, different, byte_ceiling, total_ceiling}
use Rattle.automaton.specs.Costs.{cost_after, sum}
use Rattle.forms.specs.Text.{digits_of, decimal}
use Rattle.reached.specs.Words.{spaced_byte, spaced, ruler, steep_code}
use Rattle.reached.specs.Figures.{figures_form}
use Rattle.reached.specs.Samples.{together, alone, showing, reached_samples, ReachedSamplesHold}

pub reached_samples_hold : ReachedSamplesHold
unfolding byte member same suffix ends_with is_border largest state_of over cost_after sum label targets_from forward back_targets try_forward try_back stepped
    halvings log2 different byte_ceiling total_ceiling spaced_byte spaced ruler steep_code
    digits_of decimal figures_form together alone showing reached_samples ReachedSamplesHold
reached_samples_hold = refl
