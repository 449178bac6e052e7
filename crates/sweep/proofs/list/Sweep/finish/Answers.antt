-- `finish` meets its contract. By whether the list ends within a path, and whether the end could be said. Assumes nothing.
use mathlib.Core.Path.{refl}
use Rattle.sweep.proofs.Pieces.{no_bytes}
use Rattle.sweep.proofs.Listing.{finished_within, finished_unsaid, finished_sent}
use Rattle.sweep.proofs.list.Sweep.finish.Goals as goal

pub returns-then-kept-ne0 : goal.returns-then-kept-ne0
returns-then-kept-ne0 c = finished_within _ _ refl c.give_up_within.ensures (λ e. c.if-kept-ne0.true (rw (c.bytes-kept.ensures, e)))

pub returns-in_err-say_total : goal.returns-in_err-say_total
returns-in_err-say_total c =
    finished_unsaid _ c.from_residual.ensures.0 (no_bytes _ (rw c.bytes-kept.ensures at c.if-kept-ne0.false)) c.in_err-say_total.ensures

pub returns : goal.returns
returns c = finished_sent (no_bytes _ (rw c.bytes-kept.ensures at c.if-kept-ne0.false)) c.in_ok-say_total.ensures c.send_gathered.ensures
