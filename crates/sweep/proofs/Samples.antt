-- A sample and the limits, computed. Assumes nothing.
use mathlib.Core.Path.{refl}
use Rattle.words.specs.Words.{member, same, suffix}
use Rattle.runs.specs.Reading.{over}
use Rattle.automaton.specs.Costs.{sum}
use Rattle.codes.specs.Refusals.{refused_if, first_refusal}
use Rattle.codes.specs.Codes.{has_control}
use Rattle.starts.specs.Starts.{is_code, index, number, twice}
use Rattle.starts.specs.Hits.{hits_within, hits_at, hits_after}
use Rattle.forms.specs.Text.{digits_of, decimal, refused_form}
use Rattle.boards.specs.Board.{cut, bytes_of, some_above, no_board, list_refusal, codes_refusal}
use Rattle.boards.specs.Entry.{prepare_refusal}
use Rattle.sweep.specs.Forms.{hit_form, hit_forms, unread_form, total_form}
use Rattle.sweep.specs.Head.{code_line, code_lines, head_form}
use Rattle.sweep.specs.Swept.{listing, file_form, files_form, unread_in, bytes_in, hits_in, sweep_form}
use Rattle.sweep.specs.Promise.{SampleSwept, LimitsTold}

pub sample_swept : SampleSwept
unfolding SampleSwept code_line code_lines head_form cut bytes_of some_above no_board list_refusal codes_refusal prepare_refusal refused_if first_refusal
    has_control twice member sum listing same suffix over is_code index number hits_within hits_at hits_after digits_of decimal refused_form hit_form hit_forms unread_form
    total_form file_form files_form unread_in bytes_in hits_in sweep_form
sample_swept = (refl, refl, refl, refl, refl)

pub limits_told : LimitsTold
unfolding LimitsTold
limits_told = (refl, refl, refl)
