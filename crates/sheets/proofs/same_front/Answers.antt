-- `same_front` meets its contract. Assumes nothing.
use Rattle.sheets.proofs.SameFronts.{front_short, front_compared, front_past}
use Rattle.sheets.proofs.same_front.Goals as goal
use Rattle.sheets.proofs.same_front.Goals.{then-a-n-via-then-a-n, then-a-n-via-else-a-n+then-b-n}

pub returns-then-a-n : goal.returns-then-a-n
returns-then-a-n c =
    let a = c.args.a.now in
    let b = c.args.b.now in
    elim c.then-a-n.branch [
      | then-a-n-via-then-a-n w ↦ front_short a b c.args.n w.if-a-n.true
      | then-a-n-via-else-a-n+then-b-n w ↦ front_past a b c.args.n w.if-b-n.true
    ]

pub returns : goal.returns
returns c = front_compared c.args.a.now c.args.b.now c.args.n c.if-b-n.false c.eq.result c.eq.ensures
