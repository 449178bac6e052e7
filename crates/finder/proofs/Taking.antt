-- The loop over a piece: the bytes taken and the places written so far come before what is fed of the rest. Assumes nothing.
use mathlib.Core.Path.{◌≡◌, refl, sym, ap, ◌∙◌}
use mathlib.Core.List.{List, [], ◌++◌, append-nil}
use Prim.Native.Nat.{ℕ, ◌+◌, ◌*◌, ◌-◌, ◌^◌, ◌≤◌, ◌<◌}
use native.Mathlib.Nat.{add-zero}
use native.Mathlib.Omega.{arith}
use lib.ListN.{length, take, drop, length-append, length-drop, drop_of_length-le}
use borrow.Rule.Slice.PartMut.{put_mid}
use lib.Seq.{take-append-add, drop-append-add, drop-drop}
use Rattle.words.specs.Words.{in_front}
use Rattle.words.proofs.Lists.{drop_more}
use Rattle.runs.specs.declared.Ending.{Ending}
use Rattle.runs.specs.declared.Ending.TheVariants.{PieceDone, ListFull}
use Rattle.runs.specs.Answers.{ended}
use Rattle.runs.specs.Reading.{longest_text, fed, ending}
use Rattle.runs.proofs.Feeds.{Taking, taking_start, taking_more, taking_done, taking_full, ending_list, ending_done}
use Rattle.runs.proofs.Fronts.{Front, front_none, front_length, front_all}
use Rattle.codes.specs.Codes.{longest_code}
use Rattle.finder.specs.declared.Watch.{Watch}
use Rattle.finder.specs.declared.Led.{Led}
use Rattle.finder.specs.declared.piece.Turn.{Turn}
use Rattle.finder.specs.Feed.{completed, feeder, feed}
use Rattle.finder.specs.Entry.{lent}
use Rattle.finder.specs.Inside.{further, LedFrom, Written, Turning, Turned, Ready, Took}
use Rattle.finder.proofs.Places.{completed_few}
use Rattle.finder.proofs.Passing.{part_on}

-- A TURN that some bytes make, and what the last of them has completed
pub turned_by : {w : List ℕ} {before p : ℕ} {piece : List ℕ} {i : ℕ} {ps : List ℕ} → Turning w before p piece i ps → (s : Led) →
    LedFrom w piece p i s → (n : ℕ) (qs : List ℕ) → Written ps (completed (length w) s.state (before + s.at)) n qs →
    Turned w piece before p i ps (record { led = s; written = n }) qs
turned_by {w} {before} {p} {piece} {i} {ps} g s v n qs r =
    let later : i < s.at = v.later in
    record {
      told = completed (length w) s.state (before + s.at);
      written = r;
      few = omega (arith, completed_few (length w) s.state (before + s.at));
      later = later;
      within = v.leads.within;
      state = v.leads.state;
      reached = omega (arith, v.leads.reached, g.reached);
      cheap = v.leads.cheap;
      feeds = λ x e f.
          let at : x.taken + (s.at - i) ≡ before + s.at = omega (arith, f) in
          rw (← at) (v.leads.feeds x e (length ps) g.room);
    }

-- i bytes are taken from watch x on, which led to state q at a cost, and k places are written to a list that was ps₀
pub record Loop (w : List ℕ) (x : Watch) (piece ps₀ : List ℕ) (q c i k : ℕ) (ps : List ℕ) : Type 0 where
  pub ready : Ready (length w) x (length piece)
  pub state : q ≤ length w
  pub reached : q ≤ x.taken + i
  pub cheap : c ≤ longest_code * i
  pub fewer : k ≤ i
  pub front : Front ps₀ ps k
  pub taking : Taking (feeder w) x piece (length ps₀) (further x q i k c) i (take k ps)

-- more numbers stand in front
module _ {ps₀ ps : List ℕ} {k : ℕ} {told : List ℕ} {n : ℕ} {qs : List ℕ} (f : Front ps₀ ps k) (t : Written (drop k ps) told n qs) where
  front_on : Front ps₀ (take k ps ++ qs) (k + n)
  front_on =
      record {
        room = omega (arith, length-append (take k ps) qs, front_length f, t.room);
        size = omega (arith, length-append (take k ps) qs, front_length f, t.size, length-drop k ps, f.size, f.room);
        tail =
            ap (λ (i : ℕ). drop (i + n) (take k ps ++ qs)) (sym (front_length f)) ∙ drop-append-add (take k ps) qs n ∙ t.tail ∙ drop-drop n k ps
            ∙ drop_more k (k + n) ps ps₀ (omega arith) f.tail;
      }

  front_told : take (k + n) (take k ps ++ qs) ≡ take k ps ++ told
  front_told =
      ap (λ (i : ℕ). take (i + n) (take k ps ++ qs)) (sym (front_length f)) ∙ take-append-add (take k ps) qs n
      ∙ ap (λ (l : List ℕ). take k ps ++ l) t.front

pub loop_start : {w : List ℕ} {x : Watch} {piece ps : List ℕ} → Ready (length w) x (length piece) →
    Loop w x piece ps x.state 0 0 0 ps
loop_start {w} {x} {piece} {ps} r =
    record {
      ready = r;
      state = r.state;
      reached = omega (arith, r.reached);
      cheap = omega arith;
      fewer = omega arith;
      front = front_none ps;
      taking = rw (add-zero x.taken, add-zero x.hits, add-zero x.compares) (taking_start (feeder w) x piece (length ps));
    }

module _ {w : List ℕ} {x : Watch} {piece ps₀ : List ℕ} {q c i k : ℕ} {ps : List ℕ} (t : Loop w x piece ps₀ q c i k ps) where
  size : length (take k ps) ≡ k
  size = front_length t.front

  -- what the casts and sums need
  pub loop_bounds :
      (i ≤ length piece) × (x.taken + i ≤ longest_text) × (k ≤ i) × (x.hits ≤ x.taken) × (x.compares + c < 2 ^ 63) × (c ≤ longest_code * i)
  loop_bounds =
      let within : i ≤ length piece = t.taking.within in (
        within,
        omega (arith, t.ready.text),
        t.fewer,
        t.ready.hits,
        omega (arith, t.ready.cheap, t.cheap),
        t.cheap,
      )

  -- THE END: with the piece, or with the list
  took : (e : Ending) → feed w piece (length ps₀) x ≡ fed (further x q i k c) i (take k ps) →
      ended e ≡ ending 1 piece (length ps₀) (fed (further x q i k c) i (take k ps)) →
      Took w x (lent piece ps₀) (record { watch = further x q i k c; taken = i; written = k; ending = e }) (lent piece ps)
  unfolding in_front
  took e f g =
      record {
        is =
            rw f
            (λ j.
            record {
              answer = record { watch = further x q i k c; taken = i; written = sym size j; ending = g j };
              left = lent piece (front_all t.front j);
            });
      }

  pub answer_done : (e : Ending) → e ≡ PieceDone → length piece ≤ i →
      Took w x (lent piece ps₀) (record { watch = further x q i k c; taken = i; written = k; ending = e }) (lent piece ps)
  answer_done e d h =
      took e (taking_done t.taking h) (ap ended d ∙ sym (ending_done 1 piece (length ps₀) (fed (further x q i k c) i (take k ps)) h))

  pub answer_full : (e : Ending) → e ≡ ListFull → i < length piece → length ps ≤ k →
      Took w x (lent piece ps₀) (record { watch = further x q i k c; taken = i; written = k; ending = e }) (lent piece ps)
  answer_full e d l h =
      let none : length ps₀ - length (take k ps) < 1 = omega (arith, size, t.front.size) in
      took e (taking_full t.taking none) (ap ended d ∙ sym (ending_list 1 piece (length ps₀) (fed (further x q i k c) i (take k ps)) none l))

  -- A TURN
  pub turning : i < length piece → k < length ps → Turning w x.taken q piece i (take (length ps - k) (drop k ps))
  turning h r =
      rw (part_on ps k) (record {
        state = t.state;
        reached = t.reached;
        inside = h;
        text = t.ready.text;
        room = omega (arith, length-drop k ps);
      })

  turned_on : (u : Turn) (qs : List ℕ) → Turned w piece x.taken q i (drop k ps) u qs →
      Loop w x piece ps₀ u.led.state (c + u.led.cost) u.led.at (k + u.written) (take k ps ++ qs)
  turned_on u qs v =
      let told : List ℕ = v.told in
      let later : i < u.led.at = v.later in
      let few : length told ≤ u.led.at - i = v.few in
      let n-is : u.written ≡ length told = v.written.count in
      let left : length ps₀ - length (take k ps) ≡ length (drop k ps) = omega (arith, size, t.front.size, length-drop k ps) in
      let at : x.taken + i + (u.led.at - i) ≡ x.taken + u.led.at = omega arith in
      let hits : x.hits + k + length told ≡ x.hits + (k + u.written) = omega arith in
      let cost : x.compares + c + u.led.cost ≡ x.compares + (c + u.led.cost) = omega arith in
      let front_is = front_told t.front v.written in
      record {
        ready = t.ready;
        state = v.state;
        reached = v.reached;
        cheap = omega (arith, t.cheap, v.cheap);
        fewer = omega (arith, t.fewer);
        front = front_on t.front v.written;
        taking =
            rw (front_is, ← at, ← hits, ← cost)
            (taking_more t.taking u.led.at (further (further x q i k c) u.led.state (u.led.at - i) (length told) u.led.cost) told (omega arith)
            v.within (rw left (v.feeds (further x q i k c) refl refl).is));
      }

  -- in a list of which the part behind the first k was lent
  pub turn_on : (u : Turn) (qs : List ℕ) → Turned w piece x.taken q i (take (length ps - k) (drop k ps)) u qs →
      Loop w x piece ps₀ u.led.state (c + u.led.cost) u.led.at (k + u.written) (put_mid k (length ps - k) ps qs)
  turn_on u qs v =
      let none : drop (length ps - k) (drop k ps) ≡ [] = drop_of_length-le (drop k ps) {i = length ps - k} (omega (arith, length-drop k ps)) in
      rw (none, append-nil) (turned_on u qs (rw (part_on ps k) at v))
