-- The watch and the plain machine of a text: a byte, a piece and a call lead from those of one text to those of the longer one. Assumes nothing.
use mathlib.Core.Path.{◌≡◌, refl, ap, ◌∙◌}
use mathlib.Core.Bool.{Bool, true, false, cond}
use mathlib.Core.List.{List, [], ◌∷◌, ◌++◌, append-nil}
use Prim.Native.Nat.{ℕ, zero, suc, ◌+◌, ◌-◌, ◌≤◌}
use native.Mathlib.Omega.{arith}
use lib.Dec.{eqb}
use lib.ListN.{length, take, length-append}
use lib.Seq.{append_snoc, take_all}
use Rattle.words.proofs.Lists.{length_snoc}
use Rattle.words.proofs.Largest.{state_nil, state_whole}
use Rattle.runs.specs.Reading.{over, fed, fed_more}
use Rattle.runs.specs.Calls.{Outcome, Call, unless_refused, called}
use Rattle.runs.proofs.Over.{over_snoc}
use Rattle.runs.proofs.Feeds.{feed_end, feed_stop, feed_on}
use Rattle.runs.proofs.Texts.{Reads, feed_right, called_right}
use Rattle.automaton.specs.Costs.{cost_after, costs, sum}
use Rattle.automaton.specs.Promise.{StateNext}
use Rattle.automaton.proofs.PaperArrows.{state_next}
use Rattle.automaton.proofs.Costs.{costs_snoc}
use Rattle.finder.specs.declared.Watch.{Watch}
use Rattle.finder.specs.Feed.{opened, completed, reported, with_byte, feeder, feed}
use Rattle.finder.specs.Machine.{Machine, machine, machine_start, found_after, machine_byte, machine_piece, call_refusal, machine_call}
use Rattle.finder.specs.Texts.{places, watch_of}
use Rattle.finder.proofs.Places.{feed_whole}

abbrev pub machine_of : (w text : List ℕ) → Machine
machine_of w ts = machine ts (sum (costs w ts)) (places w ts)

-- THE EMPTY TEXT
pub opened_of : (w : List ℕ) → opened ≡ watch_of w []
unfolding over sum
opened_of w = rw (state_nil w) refl

pub machine_start_of : (w : List ℕ) → machine_start ≡ machine_of w []
unfolding over sum
machine_start_of w = refl

-- A BYTE MORE: what the watch reports is what the machine finds, and both go on
module _ (w ts : List ℕ) (c : ℕ) where
  places_snoc : places w (ts ++ (c ∷ [])) ≡ places w ts ++ found_after w ts c
  places_snoc = over_snoc (found_after w) ts c

  tells : reported w c (watch_of w ts) ≡ found_after w ts c
  unfolding reported completed found_after StateNext
  tells = rw (state_next, state_whole)

  follows : with_byte w c (watch_of w ts) ≡ watch_of w (ts ++ (c ∷ []))
  unfolding with_byte cost_after StateNext
  follows = rw (tells, state_next, length_snoc, places_snoc, costs_snoc, length-append) refl

  machine_follows : machine_byte w c (machine_of w ts) ≡ machine_of w (ts ++ (c ∷ []))
  unfolding machine_byte
  machine_follows = rw (places_snoc, costs_snoc) refl

module _ (w : List ℕ) where
  -- what a reading of bytes bs that began after ts has come to
  abbrev pub WatchReads : (ts bs : List ℕ) → Watch → (told : List ℕ) → Type 0
  WatchReads ts bs x ps = Reads (watch_of w) (found_after w) ts bs x ps

  -- A PIECE: both take the same bytes
  pub piece_reads : (cs : List ℕ) (k : ℕ) (ts : List ℕ) → let f = feed w cs k (watch_of w ts) in WatchReads ts (take f.taken cs) f.after f.told
  piece_reads = feed_right (watch_of w) (found_after w) (feeder w) (follows w) (tells w)

  -- with a list that has a place for each byte, the whole piece
  pub whole_read : (cs : List ℕ) (k : ℕ) (ts : List ℕ) → length cs ≤ k →
      let f = feed w cs k (watch_of w ts) in WatchReads ts cs f.after f.told
  whole_read cs k ts h =
      let all = take_all (feed w cs k (watch_of w ts)).taken cs (omega (arith, feed_whole w cs k (watch_of w ts) h)) in
      rw all at (piece_reads cs k ts)

  machine_read : (cs : List ℕ) (k : ℕ) (ts : List ℕ) →
      machine_piece w cs k (machine_of w ts) ≡ machine_of w (ts ++ take (feed w cs k (watch_of w ts)).taken cs)
  unfolding machine_piece fed_more
  machine_read [] k ts = rw (feed_end (feeder w) k (watch_of w ts), append-nil) refl
  machine_read (c ∷ cs) zero ts = rw (feed_stop (feeder w) (c ∷ cs) 0 (watch_of w ts) (omega arith), append-nil) refl
  machine_read (c ∷ cs) (suc k) ts =
      let left : ℕ = suc k - length (found_after w ts c) in
      let n : ℕ = (feed w cs left (watch_of w (ts ++ (c ∷ [])))).taken in
      let one : 1 + n ≡ suc n = omega arith in
      rw (feed_on (feeder w) c cs (suc k) (watch_of w ts) (omega arith), tells w ts c, follows w ts c, machine_follows w ts c, one)
      (machine_read cs left (ts ++ (c ∷ [])) ∙ ap (machine_of w) (append_snoc ts c (take n cs)))

  -- A CALL: both are refused or neither
  abbrev pub plain_call : Call → Watch → Outcome Watch ℕ
  plain_call c x = called (feeder w) (λ b y. call_refusal b y.taken) c x

  pub call_read : (ts : List ℕ) (c : Call) → let e = plain_call c (watch_of w ts) in WatchReads ts e.bytes e.after e.told
  call_read ts c = called_right (watch_of w) (found_after w) (feeder w) (follows w) (tells w) (λ b y. call_refusal b y.taken) c ts

  pub machine_call_read : (ts : List ℕ) (c : Call) → machine_call w c (machine_of w ts) ≡ machine_of w (ts ++ (plain_call c (watch_of w ts)).bytes)
  unfolding machine_call called unless_refused
  machine_call_read ts c = go (eqb (call_refusal c (length ts)) 0)
    where
      go : (t : Bool) →
          cond t (machine_piece w c.piece c.room (machine_of w ts)) (machine_of w ts)
          ≡ machine_of w (ts ++ take (cond t (feed w c.piece c.room (watch_of w ts)) (fed (watch_of w ts) 0 [])).taken c.piece)
      go true = machine_read c.piece c.room ts
      go false = rw append-nil refl
