-- THE TWO INDUCTIONS. Where a reader's state is a function of the text so far, it is one after a piece, and after a run of calls of any entry point; and what
-- was told is what is found at each byte. Assumes nothing.
use mathlib.Core.Path.{◌≡◌, refl, sym, ap, ◌∙◌}
use mathlib.Core.Bool.{Bool, true, false, cond}
use mathlib.Core.List.{List, [], ◌∷◌, ◌++◌, append-nil, append_assoc}
use Prim.Native.Nat.{ℕ, suc, ◌+◌}
use native.Mathlib.Omega.{arith}
use lib.Dec.{eqb}
use lib.ListN.{take}
use lib.Seq.{append_snoc}
use Rattle.runs.specs.Reading.{over, Reader, Fed, fed, fed_more, feed}
use Rattle.runs.specs.Calls.{Outcome, run, Call, unless_refused, called}
use Rattle.runs.proofs.Over.{over_nil, over_append}
use Rattle.runs.proofs.Feeds.{feed_cases}

-- after the text ts, bytes bs were taken: the state is that of the text, and what was told is what is found at each byte
pub record Reads {X A : Type 0} (of : (text : List ℕ) → X) (found : (before : List ℕ) → (c : ℕ) → List A) (ts bs : List ℕ) (x : X) (told : List A)
    : Type 0 where
  pub state : x ≡ of (ts ++ bs)
  pub tells : told ≡ over found ts bs

module _ {X A : Type 0} (of : (text : List ℕ) → X) (found : (before : List ℕ) → (c : ℕ) → List A) where
  reads_none : (ts : List ℕ) → Reads of found ts [] (of ts) []
  reads_none ts = record { state = rw append-nil; tells = sym (over_nil found ts) }

  reads_byte : (ts bs : List ℕ) (c : ℕ) {x : X} {told : List A} → Reads of found (ts ++ (c ∷ [])) bs x told → Reads of found ts (c ∷ bs) x (found ts c ++ told)
  unfolding over
  reads_byte ts bs c u = record { state = rw append_snoc at u.state; tells = rw u.tells }

  reads_on : (ts bs cs : List ℕ) {x y : X} {told more : List A} → Reads of found ts bs x told → Reads of found (ts ++ bs) cs y more →
      Reads of found ts (bs ++ cs) y (told ++ more)
  reads_on ts bs cs u v =
      record { state = v.state ∙ rw append_assoc; tells = rw (over_append found ts bs cs, u.tells, v.tells) }

  -- A PIECE, and a call, of a reader
  module _
      (d : Reader X A) (follows : (ts : List ℕ) (c : ℕ) → d.byte c (of ts) ≡ of (ts ++ (c ∷ [])))
      (finds : (ts : List ℕ) (c : ℕ) → d.tells c (of ts) ≡ found ts c) where
    pub feed_right : (cs : List ℕ) (k : ℕ) (ts : List ℕ) →
        let f = feed d cs k (of ts) in Reads of found ts (take f.taken cs) f.after f.told
    unfolding fed_more
    feed_right cs k ts =
        feed_cases d (λ bs j x f. (us : List ℕ) → x ≡ of us → Reads of found us (take f.taken bs) f.after f.told)
        (λ j x us e. rw e (reads_none us))
        (λ c bs j x h us e. rw e (reads_none us))
        (λ c bs j x f h u us e.
        let one : 1 + f.taken ≡ suc f.taken = omega arith in
        rw (one, e, finds us c) (reads_byte us (take f.taken bs) c (u (us ++ (c ∷ [])) (ap (d.byte c) e ∙ follows us c))))
        cs k (of ts) ts refl

    pub called_right : (r : Call → X → ℕ) (c : Call) (ts : List ℕ) → let e = called d r c (of ts) in Reads of found ts e.bytes e.after e.told
    unfolding called unless_refused
    called_right r c ts = go (eqb (r c (of ts)) 0) (feed d c.piece c.room (of ts)) (feed_right c.piece c.room ts)
      where
        go : (t : Bool) (f : Fed X A) → Reads of found ts (take f.taken c.piece) f.after f.told →
            let g = cond t f (fed (of ts) 0 []) in Reads of found ts (take g.taken c.piece) g.after g.told
        go true f u = u
        go false f u = reads_none ts

  -- A RUN of calls of any entry point, wherever the text was cut and whatever was refused
  module _
      {C : Type 0} (entry : C → X → Outcome X A)
      (call-right : (ts : List ℕ) (c : C) → let e = entry c (of ts) in Reads of found ts e.bytes e.after e.told) where
    pub run_right : (cs : List C) (ts : List ℕ) → let es = run entry cs (of ts) in Reads of found ts es.bytes es.after es.told
    unfolding run
    run_right [] ts = reads_none ts
    run_right (c ∷ cs) ts =
        let e : Outcome X A = entry c (of ts) in
        let u = call-right ts c in
        let es : Outcome X A = run entry cs e.after in
        let v : Reads of found (ts ++ e.bytes) es.bytes es.after es.told = rw u.state (run_right cs (ts ++ e.bytes)) in
        reads_on ts e.bytes es.bytes u v
