-- Places written behind others, and a turn from state m where its one arrow leads to m again: a place for each byte. Assumes nothing.
use mathlib.Core.Path.{◌≡◌, refl, sym, ap, ◌∙◌}
use mathlib.Core.Bool.{false}
use mathlib.Core.Logic.{◌≢◌}
use mathlib.Core.List.{List, [], ◌∷◌, ◌++◌, append-nil}
use Prim.Native.Nat.{ℕ, zero, suc, ◌+◌, ◌-◌, ◌≤◌, ◌<◌}
use native.Mathlib.Nat.{add-zero, le_refl}
use native.Mathlib.Numerals.{add-one}
use native.Mathlib.Omega.{arith}
use lib.Dec.{eqb}
use lib.ListN.{length, get_or, set, length-set}
use lib.Seq.{take-suc-set, drop-set-lt}
use Rattle.words.specs.Words.{same}
use Rattle.words.proofs.Lists.{not_same, same_one, length_snoc, drop_more}
use Rattle.runs.specs.Reading.{longest_text}
use Rattle.automaton.specs.declared.Arrow.TheVariants.{Back, Nothing}
use Rattle.automaton.specs.Arrows.{label, back_targets, arrows, arrows_below, step}
use Rattle.automaton.proofs.Counts.{below_suc, target_at}
use Rattle.automaton.proofs.Steps.{step_one, step_not_one, forward_past}
use Rattle.finder.specs.declared.Watch.{Watch}
use Rattle.finder.specs.Feed.{completed}
use Rattle.finder.specs.Inside.{Passed, Here, target_of, further, GoesOn, Leads, Written, in_a_row, Repeating, Repeated, Turned}
use Rattle.finder.proofs.Places.{completed_one, completed_none}
use Rattle.finder.proofs.Passing.{passed_none, passed_next, stopped_found, stopped_end}
use Rattle.finder.proofs.Leading.{goes_none, goes_more, leads_byte}

-- THE LIST: no more places, and one more
pub written_none : (ps : List ℕ) → Written ps [] 0 ps
written_none ps = record { count = refl; room = omega arith; size = refl; front = refl; tail = refl }

pub written_next : {ps told : List ℕ} {n : ℕ} {qs : List ℕ} → Written ps told n qs → n < length qs → (v : ℕ) →
    Written ps (told ++ (v ∷ [])) (n + 1) (set qs n v)
written_next {ps} {told} {n} {qs} t h v =
    record {
      count = omega (arith, t.count, length_snoc told v);
      room = rw length-set (omega arith);
      size = length-set qs n v ∙ t.size;
      front = rw (add-one n) (take-suc-set qs n v h ∙ ap (λ (l : List ℕ). l ++ (v ∷ [])) t.front);
      tail = drop-set-lt (n + 1) qs n v (omega arith) ∙ drop_more n (n + 1) qs ps (omega arith) t.tail;
    }

-- THE LOOP that writes a place for each byte
pub record Row (piece : List ℕ) (from count c last : ℕ) (ps : List ℕ) (j : ℕ) (qs : List ℕ) : Type 0 where
  pub began : Repeating piece from count ps last
  pub fewer : j ≤ count
  pub passed : Passed (Here piece c) from (from + j)
  pub written : Written ps (in_a_row (last + 1) j) j qs

pub row_none : {piece : List ℕ} {from count : ℕ} (c : ℕ) {last : ℕ} {ps : List ℕ} → Repeating piece from count ps last →
    Row piece from count c last ps 0 ps
unfolding in_a_row
row_none {piece} {from} {count} c {last} {ps} g =
    record {
      began = g;
      fewer = omega arith;
      passed = rw (add-zero from) (passed_none from);
      written = written_none ps;
    }

module _ {piece : List ℕ} {from count c last : ℕ} {ps : List ℕ} {j : ℕ} {qs : List ℕ} (r : Row piece from count c last ps j qs) where
  -- what sums and indices need
  pub row_bounds : (from + count ≤ longest_text) × (count ≤ length qs) × (last + count ≤ longest_text)
  row_bounds =
      let g = r.began in
      (omega (arith, g.bytes, g.text), omega (arith, g.room, r.written.size), g.below)

  pub row_next : j < count → get_or piece (from + j) 0 ≡ c → Row piece from count c last ps (j + 1) (set qs j (last + 1 + j))
  unfolding in_a_row
  row_next h e =
      let at : from + (j + 1) ≡ from + j + 1 = omega arith in
      record {
        began = r.began;
        fewer = omega arith;
        passed = passed_next r.passed (from + (j + 1)) at e;
        written = rw (add-one j) (rw (add-one j) at (written_next r.written (omega (arith, row_bounds.1)) (last + 1 + j)));
      }

  pub row_stopped : j < count → get_or piece (from + j) 0 ≢ c → Repeated piece from count c last ps j qs
  row_stopped h n = record { stopped = stopped_found r.passed (omega arith) n; written = r.written }

  pub row_end : count ≤ j → Repeated piece from count c last ps j qs
  row_end h =
      let e : j ≡ count = omega (arith, r.fewer) in
      record { stopped = stopped_end r.passed (ap (λ (n : ℕ). from + n) e); written = r.written }

length_row : (a n : ℕ) → length (in_a_row a n) ≡ n
unfolding in_a_row
length_row a zero = refl
length_row a (suc n) = length_snoc (in_a_row a n) (a + n) ∙ ap suc (length_row a n)

-- STATE m has one arrow, to m again
module _ (w piece : List ℕ) (own : back_targets w (length w) ≡ length w ∷ []) (some : 1 ≤ length w) where
  abbrev m : ℕ
  m = length w

  again : (i : ℕ) → i < length piece → get_or piece i 0 ≡ label w m → Leads w piece m i m 1 (i + 1)
  again i h e =
      leads_byte w piece m i (le_refl m) h (step m 1 (Back m)) (sym (step_one w m (get_or piece i 0) m own (sym e))) (omega arith)

  leaves : (i : ℕ) → i < length piece → get_or piece i 0 ≢ label w m → Leads w piece m i 0 1 (i + 1)
  leaves i h n =
      leads_byte w piece m i (le_refl m) h (step 0 1 Nothing)
      (sym (step_not_one w m (get_or piece i 0) m own (λ e. n (sym e)) ∙ forward_past 1 w m (get_or piece i 0) (le_refl m)))
      (omega arith)

  -- n bytes that lead to m again, and their places
  pub goes_row : (x : Watch) → x.state ≡ m → m ≤ x.taken → (i room n : ℕ) → n ≤ room → i + n ≤ length piece →
      ((j : ℕ) → i ≤ j → j < i + n → get_or piece j 0 ≡ label w m) →
      GoesOn w piece i (i + n) room (in_a_row (x.taken - m + 1) n) x (further x m n n n)
  unfolding in_a_row
  goes_row x e t i room zero r h all =
      rw (add-zero i) (goes_none w piece i room x (further x m 0 0 0) (rw (add-zero x.taken, add-zero x.hits, add-zero x.compares, ← e) refl))
  goes_row x e t i room (suc n) r h all =
      let y : Watch = further x m n n n in
      let a : ℕ = x.taken - m + 1 in
      let one : i + n + 1 - (i + n) ≡ 1 = omega arith in
      let place : x.taken + n + 1 - m ≡ a + n = omega arith in
      let told : completed m m (x.taken + n + 1) ≡ (a + n) ∷ [] = completed_one m m (x.taken + n + 1) refl ∙ rw place refl in
      let taken : x.taken + n + 1 ≡ x.taken + suc n = omega arith in
      let hits : x.hits + n + 1 ≡ x.hits + suc n = omega arith in
      let cost : x.compares + n + 1 ≡ x.compares + suc n = omega arith in
      let at : i + suc n ≡ i + n + 1 = omega arith in
      let next : GoesOn w piece (i + n) (i + n + 1) (room - n) ((a + n) ∷ []) y (further x m (suc n) (suc n) (suc n)) =
      rw (one, told, taken, hits, cost) at
      ((again (i + n) (omega arith) (all (i + n) (omega arith) (omega arith))).feeds y refl (room - n) (omega arith)) in
      rw at
      (goes_more w piece (omega arith) (omega arith) (goes_row x e t i room n (omega arith) (omega arith) (λ j lo hi. all j lo (omega arith)))
      (rw (length_row a n) next))

  -- A TURN: n bytes that lead to m again, and perhaps one that leads to 0
  module _
      (before i count last : ℕ) (ps : List ℕ) (n : ℕ) (qs : List ℕ) (r : Repeated piece i count (label w m) last ps n qs)
      (bytes : i + count ≤ length piece) (room : count ≤ length ps) (reached : m ≤ before + i) (last-is : last ≡ before + i - m) where
    fewer : n ≤ count
    fewer = omega (arith, r.stopped.within)

    size : length (in_a_row (last + 1) n) ≡ n
    size = length_row (last + 1) n

    row : (x : Watch) → x.state ≡ m → x.taken ≡ before + i →
        GoesOn w piece i (i + n) (length ps) (in_a_row (last + 1) n) x (further x m n n n)
    row x e t =
        let a : last + 1 ≡ x.taken - m + 1 = omega (arith, t, last-is) in
        rw a
        (goes_row x e (omega (arith, t, reached)) i (length ps) n (omega (arith, fewer, room)) (omega (arith, fewer, bytes))
        (λ j lo hi. r.stopped.passed.all j lo hi))

    pub turned_row : 1 ≤ n → Turned w piece before m i ps (record { led = record { state = m; cost = n; at = i + n }; written = n }) qs
    turned_row h =
        let taken : i + n - i ≡ n = omega arith in
        record {
          told = in_a_row (last + 1) n;
          written = r.written;
          few = omega (arith, size);
          later = omega arith;
          within = omega (arith, fewer, bytes);
          state = le_refl m;
          reached = omega (arith, reached);
          cheap = omega arith;
          feeds = λ x e t. rw (taken, size) (row x e t);
        }

    pub turned_left : n < count → Turned w piece before m i ps (record { led = record { state = 0; cost = n + 1; at = i + n + 1 }; written = n }) qs
    turned_left h =
        let taken : i + n + 1 - i ≡ n + 1 = omega arith in
        record {
          told = in_a_row (last + 1) n;
          written = r.written;
          few = omega (arith, size);
          later = omega arith;
          within = omega (arith, bytes);
          state = omega arith;
          reached = omega arith;
          cheap = omega arith;
          feeds = λ x e t. rw (taken, size) (left x e t);
        }
      where
        left : (x : Watch) → x.state ≡ m → x.taken ≡ before + i →
            GoesOn w piece i (i + n + 1) (length ps) (in_a_row (last + 1) n) x (further x 0 (n + 1) n (n + 1))
        left x e t =
            let y : Watch = further x m n n n in
            let one : i + n + 1 - (i + n) ≡ 1 = omega arith in
            let none : completed m 0 (x.taken + n + 1) ≡ [] = completed_none m 0 (x.taken + n + 1) (λ f. omega (arith, f, some)) in
            let at : x.taken + n + 1 ≡ x.taken + (n + 1) = omega arith in
            let hits : x.hits + n + 0 ≡ x.hits + n = omega arith in
            let cost : x.compares + n + 1 ≡ x.compares + (n + 1) = omega arith in
            let next : GoesOn w piece (i + n) (i + n + 1) (length ps - n) [] y (further x 0 (n + 1) n (n + 1)) =
            rw (one, none, at, hits, cost) at
            ((leaves (i + n) (omega (arith, bytes)) (r.stopped.found (omega arith))).feeds y refl (length ps - n) (omega (arith, room))) in
            let all : GoesOn w piece i (i + n + 1) (length ps) (in_a_row (last + 1) n ++ []) x (further x 0 (n + 1) n (n + 1)) =
            goes_more w piece (omega arith) (omega arith) (row x e t) (rw size next) in
            rw append-nil at all

-- WHETHER STATE m is so: by the number of its arrows, and the first
module _ (w : List ℕ) (from to : ℕ) (e : from ≡ arrows_below w (length w)) (f : to ≡ arrows_below w (length w + 1)) where
  count : arrows w (length w) ≡ to - from
  count = omega (arith, e, f, below_suc w (length w), ap (arrows_below w) (add-one (length w)))

  pub own_not : to - from ≢ 1 → false ≡ same (back_targets w (length w)) (length w ∷ [])
  own_not n = sym (not_same (back_targets w (length w)) (length w ∷ []) (λ z. n (sym count ∙ ap length z)))

  pub own_by : to - from ≡ 1 → (t : ℕ) → t ≡ target_of w from → eqb t (length w) ≡ same (back_targets w (length w)) (length w ∷ [])
  own_by one t g =
      let some : 0 < arrows w (length w) = omega (arith, count) in
      let at : arrows_below w (length w) + 0 ≡ from = omega (arith, e) in
      let is : t ≡ get_or (back_targets w (length w)) 0 0 =
      g ∙ ap (target_of w) (sym at) ∙ target_at w (suc (length w)) (length w) 0 (omega arith) some in
      sym (same_one (back_targets w (length w)) (length w) (count ∙ one) ∙ rw is refl)
