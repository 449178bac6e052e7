-- The samples hold: both sides compute to the same. Assumes nothing.
use mathlib.Core.Path.{refl}
use Rattle.runs.specs.Reading.{over, fed_more, feed, ending}
use Rattle.runs.specs.Calls.{run, unless_refused, called}
use Rattle.runs.specs.Samples.{AdderSamplesHold}

pub adder_samples_hold : AdderSamplesHold
unfolding over fed_more feed ending run unless_refused called AdderSamplesHold
adder_samples_hold = (refl, refl, refl, refl, refl)
