-- `print_refusal` meets its contract. Assumes nothing.
use mathlib.Core.Path.{◌∙◌}
use native.Mathlib.Omega.{arith}
use Rattle.forms.proofs.Paging.{put_first}
use Rattle.streams.proofs.Output.print_refusal.Goals as goal

pub returns : goal.returns
returns c =
    let w = c.put_refused.ensures in
    rw (c.bytes.ensures ∙ put_first w.0 c.new-page.ensures (omega (arith, w.1))) at c.send.ensures
