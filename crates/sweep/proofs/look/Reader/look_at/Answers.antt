-- `look_at` meets its contract. By whether the file could be opened. Assumes nothing.
use Rattle.sweep.proofs.Looks.{path_missed, path_looked}
use Rattle.sweep.proofs.look.Reader.look_at.Goals as goal

pub returns-then-not-open_file : goal.returns-then-not-open_file
returns-then-not-open_file c = path_missed c.open_file.ensures c.if-not-open_file.true

pub returns : goal.returns
returns c = path_looked c.open_file.ensures c.if-not-open_file.false c.look_through.ensures
