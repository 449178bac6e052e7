-- `add_code` meets its contract. By whether its length has room. Assumes nothing.
use mathlib.Core.Path.{refl}
use Rattle.sweep.proofs.Keeping.{kept_listed, kept_unlisted}
use Rattle.sweep.proofs.head.Codes.add_code.Goals as goal

pub returns-then-self-lt-LENGTHS : goal.returns-then-self-lt-LENGTHS
returns-then-self-lt-LENGTHS c = kept_listed c.put.ensures refl refl c.if-self-lt-LENGTHS.true refl refl

pub returns-else-self-lt-LENGTHS : goal.returns-else-self-lt-LENGTHS
returns-else-self-lt-LENGTHS c = kept_unlisted c.put.ensures refl refl c.if-self-lt-LENGTHS.false refl refl
