-- The samples hold: both sides compute to the same. Assumes nothing.
-- Files are checked by name: this one comes first and cites no law, so wrong states, links or hits are refused here, by their numbers.
use mathlib.Core.Path.{refl}
use Rattle.words.specs.Words.{same, suffix, largest}
use Rattle.runs.specs.Reading.{over}
use Rattle.starts.specs.Starts.{is_start, known, state, longest_end, fallback, is_code, index, number}
use Rattle.starts.specs.Hits.{hits_within, hits_at, hits_after}
use Rattle.starts.specs.Samples.{CodeSamplesHold}

pub code_samples_hold : CodeSamplesHold
unfolding same suffix largest over is_start known state longest_end fallback is_code index number hits_within hits_at hits_after CodeSamplesHold
code_samples_hold = (refl, refl, refl, refl, refl, refl, refl, refl, refl, refl, refl)
