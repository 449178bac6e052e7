-- `list_bytes` meets its contract: the loop is left before its end only where something failed. Assumes nothing.
use Rattle.sweep.proofs.Sweeping.{none_listed, bytes_turned, bytes_stopped, bytes_done}
use Rattle.sweep.proofs.list.Sweep.list_bytes.Goals as goal

pub loop-byte-init : goal.loop-byte-init
loop-byte-init c = none_listed _ _

pub loop-byte-preserved : goal.loop-byte-preserved
loop-byte-preserved c = bytes_turned _ c.loop-byte.invariant c.loop-byte-test.true c.in_ok-list_byte.ensures

pub returns : goal.returns
returns c = bytes_done c.loop-byte.invariant c.loop-byte-test.false

pub returns-in_err-list_byte : goal.returns-in_err-list_byte
returns-in_err-list_byte c = bytes_stopped _ c.loop-byte.invariant c.loop-byte-test.true _ c.from_residual.ensures.0 c.in_err-list_byte.ensures
