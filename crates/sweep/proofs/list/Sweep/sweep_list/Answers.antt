-- `sweep_list` meets its contract. By whether the list was read through. Assumes nothing.
use Rattle.sweep.proofs.Listing.{sweeps_stopped, sweeps_finished}
use Rattle.sweep.proofs.list.Sweep.sweep_list.Goals as goal

pub returns-in_err-list_through : goal.returns-in_err-list_through
returns-in_err-list_through c = sweeps_stopped _ c.from_residual.ensures.0 c.in_err-list_through.ensures

pub returns : goal.returns
returns c = sweeps_finished _ c.in_ok-list_through.ensures c.finish.ensures
