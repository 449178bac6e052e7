-- Document 01's sample: what the output is for any input, computed for this one. Assumes nothing.
use mathlib.Core.Path.{◌≡◌, refl, ◌∙◌}
use mathlib.Core.Bool.{true}
use native.Mathlib.Omega.{arith}
use Rattle.words.specs.Words.{byte, member, same, suffix, ends_with, is_border, largest, state_of}
use Rattle.runs.specs.Reading.{over, place_if}
use Rattle.automaton.specs.Arrows.{label, targets_from, forward, back_targets, try_forward, try_back, stepped}
use Rattle.codes.specs.Refusals.{refused_if, first_refusal}
use Rattle.codes.specs.Codes.{length_refusal, has_control, code_refusal, accepted}
use Rattle.automaton.specs.Costs.{cost_after, sum}
use Rattle.finder.specs.Machine.{found_after}
use Rattle.forms.specs.Ascii.{ascii}
use Rattle.forms.specs.Line.{of_code, depth_after, pairs}
use Rattle.forms.specs.Text.{digits_of, decimal, place_form, place_forms, end_form}
use Rattle.find.specs.Promise.{search_form, OutputRight, SamplePrinted}
use Rattle.find.proofs.Outputs.{output_right}

sample_accepted : accepted (ascii "abaab") ≡ true
unfolding refused_if first_refusal length_refusal has_control code_refusal accepted
sample_accepted = refl

sample_form : search_form (ascii "abaab") (ascii "abaababaab") ≡ ascii "(at 0)\n(at 5)\n(end (bytes 10) (hits 2) (compares 15))\n"
unfolding byte member same suffix ends_with is_border largest state_of label targets_from forward back_targets try_forward try_back stepped
    over place_if cost_after found_after sum digits_of decimal place_form place_forms end_form
sample_form = refl

pub sample_printed : SamplePrinted
unfolding SamplePrinted OutputRight of_code depth_after pairs
sample_printed =
    output_right (ascii "(code abaab)\nabaababaab") (ascii "abaab") (ascii "abaababaab")
    (record { whole = refl; paired = refl }) sample_accepted (omega arith)
    ∙ sample_form
