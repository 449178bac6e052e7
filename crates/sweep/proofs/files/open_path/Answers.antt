-- `open_path` meets its contract: it makes the receipts. Assumes nothing.
use Rattle.sweep.specs.Files.{make_asked, make_opened, make_given, make_missed}
use Rattle.sweep.proofs.files.open_path.Goals as goal

pub returns : goal.returns
returns c = record { asked = make_asked _ _; opens = λ f e. (make_opened _ _, make_given _ _); fails = λ e. make_missed _ }
