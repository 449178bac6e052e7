-- `open_file` meets its contract. By what the system answered. Assumes nothing.
use mathlib.Core.Path.{refl}
use native.Mathlib.Numerals.{add-one}
use Rattle.sweep.specs.Files.{too_long, no_text}
use Rattle.sweep.proofs.Filing.{open_failed, open_answered}
use borrow.Author.Rules.{rules}
use Rattle.sweep.proofs.files.Disk.open_file.Goals as goal

pub returns-then-path-gt-LONGEST_PATH : goal.returns-then-path-gt-LONGEST_PATH
returns-then-path-gt-LONGEST_PATH c = open_failed _ _ _ (add-one _) refl c.take-last.ensures.after (too_long _ _ (search rules))

pub returns-in_default : goal.returns-in_default
returns-in_default c = open_failed _ _ _ (add-one _) refl c.take-last.ensures.after (no_text _ _ c.in_default.ensures.cases.0)

pub returns : goal.returns
returns c =
    rw c.is_some.ensures
    (open_answered _ _ _ (add-one _) refl c.open_path-self.result refl (search rules) (rw c.in-Ok.ensures.cases.0 at c.open_path-self.ensures))
