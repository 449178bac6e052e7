-- `read_some` meets its contract. By what the system answered. Assumes nothing.
use Rattle.std.proofs.Common.{rules}
use Rattle.streams.proofs.Answering.{got_bytes, got_none}
use Rattle.streams.proofs.Input.read_some.Goals as goal

pub returns : goal.returns
returns c =
    let g = rw c.self.view_is at (got_bytes c.in-Some.ensures c.in_ok-count_on.ensures) in
    record { within = g.within; came = g.moved; ends = got_none g (search rules) }
