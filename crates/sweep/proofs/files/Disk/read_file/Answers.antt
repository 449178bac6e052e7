-- `read_file` meets its contract. By what the system answered. Assumes nothing.
use mathlib.Core.Path.{refl}
use native.Mathlib.Omega.{arith}
use borrow.Author.Rules.{rules}
use Rattle.sweep.specs.Files.{too_many}
use Rattle.sweep.specs.Disk.{came_of}
use Rattle.sweep.proofs.Filing.{file_read}
use Rattle.sweep.proofs.files.Disk.read_file.Goals as goal

pub returns-in_err-self : goal.returns-in_err-self
returns-in_err-self c =
    rw c.from_residual-in_err-self.ensures
    ((refl, refl, too_many _ (came_of c.args.self.now) c.in_ok-n.n (omega (arith, c.in_err-self.ensures))), c.requires)

pub returns : goal.returns
returns c = file_read c.in_ok-file.file.now refl refl (search rules) c.in_ok-n.ensures c.in_ok-self.ensures
