-- `prepare_codes` meets its contract. By what refuses the codes before preparing. Assumes nothing.
use borrow.Author.Rules.{rules}
use Rattle.sweep.proofs.Keeping.{refused_1, refused_2, refused_many, refused_large, prepared_kept, told_refusal}
use Rattle.sweep.proofs.head.Codes.prepare_codes.Goals as goal

pub returns-then-self : goal.returns-then-self
returns-then-self c = λ ws k. refused_1 k c.if-self.true

pub returns-then-self-2 : goal.returns-then-self-2
returns-then-self-2 c = λ ws k. refused_2 k c.if-self.false c.if-self-2.true

pub returns-then-count-gt-MOST_CODES : goal.returns-then-count-gt-MOST_CODES
returns-then-count-gt-MOST_CODES c = λ ws k. refused_many k c.if-self.false c.if-self-2.false c.if-count-gt-MOST_CODES.true

pub returns-then-bytes-gt-MOST_BYTES : goal.returns-then-bytes-gt-MOST_BYTES
returns-then-bytes-gt-MOST_BYTES c =
    λ ws k. refused_large k c.if-self.false c.if-self-2.false (rw c.bytes-bytes.ensures at c.if-bytes-gt-MOST_BYTES.true)

pub returns : goal.returns
returns c =
    λ ws k.
    rw (← told_refusal)
    (prepared_kept k c.if-self.false c.if-self-2.false c.if-count-gt-MOST_CODES.false (rw c.bytes-bytes.ensures at c.if-bytes-gt-MOST_BYTES.false)
    (search rules) (rw c.bytes-bytes.ensures at c.prepare.ensures))
