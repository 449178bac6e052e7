-- Filling one state: the target of its longest border and that border's own targets, less the one with the forward label. Assumes nothing.
use mathlib.Core.Path.{◌≡◌, refl, sym, ap, ◌∙◌}
use mathlib.Core.Bool.{true, false}
use mathlib.Core.Logic.{◌≢◌}
use mathlib.Core.List.{List, [], ◌∷◌, ◌++◌, append-nil}
use Prim.Native.Nat.{ℕ, zero, suc, ◌+◌, ◌*◌, ◌-◌, ◌≤◌, ◌<◌}
use native.Mathlib.Numerals.{add-one}
use native.Mathlib.Nat.{le_refl, suc-mul, mul-le-mul_right}
use native.Mathlib.Omega.{arith}
use lib.ListN.{length, get_or, take, drop, length-append, get_or-append, drop_of_length-le}
use lib.Seq.{drop-cons, append_snoc, sets}
use borrow.Author.Tests.{eq-eqb, ne_eqb}
use Rattle.words.specs.Words.{byte}
use Rattle.words.proofs.Tests.{by_test, by_le}
use Rattle.words.proofs.Lists.{length_snoc, every_at}
use Rattle.words.proofs.Borders.{longest_is}
use Rattle.automaton.specs.Arrows.{label, back_targets, targets_below, arrows, arrows_below}
use Rattle.automaton.specs.Preparing.{candidates, drops, kept, dropped}
use Rattle.automaton.proofs.Counts.{below_zero, below_suc, below_rises, target_at}
use Rattle.automaton.proofs.Preparing.{kept_are, drops_inside, drops_end}
use Rattle.automaton.proofs.FewArrows.{candidates_fit}
use Rattle.automaton.proofs.Targets.{target_range}
use Rattle.sheets.specs.declared.filling.Filled.{Filled}
use Rattle.sheets.specs.Sheet.{number, numbers, counts_below, number_width, front, count_place, target_place}
use Rattle.sheets.specs.Inside.{Reads, Numbered, StartRead, Fits, header, FilledWith, put_result, put_buffer, StateReady, StateMade, TargetReady}
use Rattle.sheets.proofs.Layouts.{length_number, length_numbers, numbers_snoc, number_first, number_at, length_counts, count_at}
use Rattle.sheets.proofs.Widths.{front_long, count_first, count_next, count_rises, target_first, target_from, target_next, target_rises, room_is}
use Rattle.sheets.proofs.Widths.{count_from}
use Rattle.sheets.proofs.Fillings.{front_part, mid_part, puts_mid}

-- ONE TARGET: whether it has the forward label, and what is done with it
module _ (w : List ℕ) (r t : ℕ) where
  pub drops_on : r < length w → get_or w r 0 ≡ get_or w (t - 1) 0 → drops w r t ≡ true
  unfolding label byte
  drops_on h e = drops_inside w r t h ∙ eq-eqb (get_or w (t - 1) 0) (get_or w r 0) (sym e)

  pub drops_off : (r < length w → get_or w r 0 ≢ get_or w (t - 1) 0) → drops w r t ≡ false
  unfolding label byte
  drops_off f =
      by_le (suc r) (length w)
      (λ (h : r < length w). drops_inside w r t h ∙ ne_eqb (get_or w (t - 1) 0) (get_or w r 0) (λ e. f h (sym e)))
      (λ (h : length w < suc r). drops_end w r t (omega arith))

  module _ (f : Filled) (b : List ℕ) where
    pub put_dropped : drops w r t ≡ true →
        (◌≡◌ {A = Filled} (record { stored = f.stored; border = t }) (put_result w r t f)) × (b ≡ put_buffer w r t f b)
    unfolding put_result put_buffer
    put_dropped e = rw e (refl, refl)

    pub put_stored : drops w r t ≡ false → (d : List ℕ) → d ≡ sets b (target_place (length w) f.stored) (number (number_width (length w)) t) →
        (◌≡◌ {A = Filled} (record { stored = f.stored + 1; border = f.border }) (put_result w r t f)) × (d ≡ put_buffer w r t f b)
    unfolding put_result put_buffer
    put_stored e d is = rw e (refl, is)

-- THE HEADER has the counts of the states below
module _ (w : List ℕ) where
  abbrev m : ℕ
  m = length w

  abbrev width : ℕ
  width = number_width m

  before_counts : length (front m ++ w) ≡ count_place m 0
  before_counts = length-append (front m) w ∙ omega (arith, front_long m, count_first m)

  pub length_header : (r : ℕ) → length (header w r) ≡ count_place m r
  unfolding header
  length_header r =
      length-append (front m ++ w) (numbers width (counts_below w r))
      ∙ omega (arith, before_counts, length_numbers width (counts_below w r), count_from m r, ap (λ (k : ℕ). k * width) (length_counts w r))

  header_count : (r p : ℕ) → p < r → take width (drop (count_place m p) (header w r)) ≡ number width (arrows_below w (suc p))
  unfolding header
  header_count r p l =
      let counts : List ℕ = counts_below w r in
      rw (count_from m p, ← append-nil (numbers width counts))
      (number_at width (count_place m 0) (front m ++ w) counts [] p before_counts (rw (length_counts w r) l)
      ∙ ap (number width) (count_at w r p l))

-- SOME TARGETS of state r are put and others left: those that the buffer has, and of those left the ones that stay, are all of the states up to r
pub record Storing (w : List ℕ) (r : ℕ) (a b : List ℕ) (f : Filled) (left : List ℕ) : Type 0 where
  pub have : List ℕ
  pub filling : FilledWith w r have a b
  pub stored_is : f.stored ≡ length have
  pub all : have ++ kept w r left ≡ targets_below w (suc r)
  pub border_is : dropped w r f.border left ≡ dropped w r 0 (candidates w r)
  pub since : arrows_below w r ≤ length have
  pub fits : length have + length left ≤ r

module _ {w a b : List ℕ} {r t : ℕ} {f : Filled} {left : List ℕ} (u : Storing w r a b f (t ∷ left))
    (ok : r ≤ length w) (room : Fits w b) where
  pub put_room : f.stored < r
  put_room = omega (arith, u.fits, u.stored_is)

  next_dropped : drops w r t ≡ true → Storing w r a b (record { stored = f.stored; border = t }) left
  unfolding kept dropped
  next_dropped e =
      record {
        have = u.have;
        filling = u.filling;
        stored_is = u.stored_is;
        all = rw e at u.all;
        border_is = rw e at u.border_is;
        since = u.since;
        fits = omega (arith, u.fits);
      }

  one_more : FilledWith w r (u.have ++ (t ∷ [])) a (sets b (target_place (length w) f.stored) (number (number_width (length w)) t))
  one_more =
      let m : ℕ = length w in
      let d : ℕ = number_width m in
      let at : target_place m f.stored ≡ target_place m 0 + length (numbers d u.have) =
      target_from m f.stored ∙ omega (arith, length_numbers d u.have, ap (λ (k : ℕ). k * d) u.stored_is) in
      let front : length (header w r) ≤ target_place m 0 = omega (arith, length_header w r, target_first m, count_rises m r (suc m) (omega arith)) in
      let end : target_place m f.stored + d ≤ length b =
      omega (arith, target_next m f.stored, target_rises m (suc f.stored) m (omega (arith, put_room, ok)), room_is m, room) in
      rw (numbers_snoc d u.have t, at) (puts_mid (number d t) u.filling front (omega (arith, at, end, length_number d t)))

  next_stored : drops w r t ≡ false →
      Storing w r a (sets b (target_place (length w) f.stored) (number (number_width (length w)) t))
      (record { stored = f.stored + 1; border = f.border }) left
  unfolding kept dropped
  next_stored e =
      record {
        have = u.have ++ (t ∷ []);
        filling = one_more;
        stored_is = omega (arith, u.stored_is, length_snoc u.have t);
        all = append_snoc u.have t (kept w r left) ∙ rw e at u.all;
        border_is = rw e at u.border_is;
        since = omega (arith, u.since, length_snoc u.have t);
        fits = omega (arith, u.fits, length_snoc u.have t);
      }

  pub put_next : Storing w r a (put_buffer w r t f b) (put_result w r t f) left
  unfolding put_buffer put_result
  put_next =
      by_test (drops w r t) (λ e. rw e (next_dropped e)) (λ e. rw e (next_stored e))

-- the loop over the targets of the longest border β, of which j are put: it goes from one number to another
pub record Copying (w a : List ℕ) (r β end : ℕ) (b : List ℕ) (f : Filled) (i : ℕ) : Type 0 where
  pub j : ℕ
  pub within : j ≤ arrows w β
  pub i_is : i ≡ arrows_below w β + j
  pub end_is : end ≡ arrows_below w β + arrows w β
  pub storing : Storing w r a b f (drop j (back_targets w β))

-- A STATE that is ready
module _ {w a : List ℕ} {width r : ℕ} {below : Filled} (n : Numbered (length w) width) (s : StateReady w a r below) where
  abbrev β : ℕ
  β = below.border

  abbrev k : ℕ
  k = below.stored

  pub border_under : β < r
  border_under = omega (arith, s.some, s.border_is, (longest_is w r s.some).bound)

  -- where the targets of β are
  count_in : (p : ℕ) → p < r → take width (drop (count_place (length w) p) a) ≡ number width (arrows_below w (suc p))
  count_in p l =
      let end : count_place (length w) p + number_width (length w) ≤ length (header w r) =
      omega (arith, length_header w r, count_next (length w) p, count_rises (length w) (suc p) r l) in
      rw n.width_is (front_part s.filling (count_place (length w) p) (number_width (length w)) end ∙ header_count w r p l)

  pub end_in : (end : ℕ) → Reads a width (count_place (length w) β) end → end ≡ arrows_below w (suc β)
  end_in end f = f (arrows_below w (suc β)) (count_in β border_under)

  start_is : (p start : ℕ) → p < r → StartRead a (length w) width p start → start ≡ arrows_below w p
  start_is zero start l f = f ∙ sym (below_zero w)
  start_is (suc q) start l f = f (arrows_below w (suc q)) (count_in q (omega arith))

  pub start_in : (start : ℕ) → StartRead a (length w) width β start → start ≡ arrows_below w β
  start_in start f = start_is β start border_under f

  -- the first target
  candidates_here : candidates w r ≡ (β + 1) ∷ back_targets w β
  unfolding candidates
  candidates_here = rw (← s.border_is, add-one β)

  first_storing : Storing w r a a (record { stored = k; border = 0 }) ((β + 1) ∷ back_targets w β)
  unfolding targets_below
  first_storing =
      rw (← candidates_here)
      (record {
        have = targets_below w r;
        filling = s.filling;
        stored_is = s.stored_is;
        all = ap (λ (ts : List ℕ). targets_below w r ++ ts) (sym (kept_are w r s.some s.ok));
        border_is = refl;
        since = le_refl (arrows_below w r);
        fits = candidates_fit w r s.some s.ok;
      })

  pub first_ready : TargetReady w a r (β + 1) k
  first_ready =
      record {
        room = s.room;
        some = omega arith;
        inside = omega (arith, border_under, s.ok);
        ok = s.ok;
        fewer = omega (arith, put_room first_storing s.ok s.room, s.ok);
      }

  pub first_put : {d : List ℕ} {f : Filled} → f ≡ put_result w r (β + 1) (record { stored = k; border = 0 }) →
      d ≡ put_buffer w r (β + 1) (record { stored = k; border = 0 }) a → Storing w r a d f (back_targets w β)
  first_put e g = rw (e, g) (put_next first_storing s.ok s.room)

  pub copy_start : {d : List ℕ} {f : Filled} (end start : ℕ) → end ≡ arrows_below w (suc β) → start ≡ arrows_below w β →
      Storing w r a d f (back_targets w β) → Copying w a r β end d f start
  copy_start end start e g u =
      record { j = 0; within = omega arith; i_is = omega arith; end_is = omega (arith, below_suc w β); storing = u }

  -- a turn: target number i is the next
  module _ {d : List ℕ} {f : Filled} {end i : ℕ} (x : Copying w a r β end d f i) where
    pub copied_size : length d ≡ length a
    copied_size = x.storing.filling.long

    room : Fits w d
    room = rw copied_size s.room

    module _ (l : i < end) where
      more : x.j < arrows w β
      more = omega (arith, x.end_is, x.i_is)

      place : i < length x.storing.have
      place = omega (arith, more, x.i_is, x.storing.since, below_suc w β, below_rises w (suc β) r border_under)

      pub number_under : i < r
      number_under = omega (arith, place, x.storing.fits)

      target_in : take width (drop (target_place (length w) i) d) ≡ number width (get_or (back_targets w β) x.j 0)
      target_in =
          let v : ℕ = number_width (length w) in
          let have : List ℕ = x.storing.have in
          let end : i * v + v ≤ length (numbers v have) =
          omega (arith, length_numbers v have, suc-mul i v, mul-le-mul_right v place) in
          let is : get_or have i 0 ≡ get_or (back_targets w β) x.j 0 =
          sym (get_or-append have (kept w r (drop x.j (back_targets w β))) 0 i place)
          ∙ ap (λ (ts : List ℕ). get_or ts i 0) x.storing.all
          ∙ ap (λ (n : ℕ). get_or (targets_below w (suc r)) n 0) x.i_is
          ∙ target_at w (suc r) β x.j (omega (arith, border_under)) more in
          rw (n.width_is, target_from (length w) i)
          (mid_part x.storing.filling (i * v) v end
          ∙ rw (← append-nil (numbers v have)) (number_first v have [] i place)
          ∙ ap (number v) is)

      pub next_is : (t : ℕ) → Reads d width (target_place (length w) i) t → t ≡ get_or (back_targets w β) x.j 0
      next_is t f = f (get_or (back_targets w β) x.j 0) target_in

      module _ (t : ℕ) (reads : Reads d width (target_place (length w) i) t) where
        left_is : drop x.j (back_targets w β) ≡ t ∷ drop (x.j + 1) (back_targets w β)
        left_is = rw (next_is t reads, add-one x.j) (drop-cons (back_targets w β) x.j 0 more)

        next : Storing w r a d f (t ∷ drop (x.j + 1) (back_targets w β))
        next = rw left_is at x.storing

        pub next_ready : TargetReady w d r t f.stored
        next_ready =
            let u = every_at (λ t. (1 ≤ t) × (t ≤ β)) (back_targets w β) x.j (target_range w β) more in
            record {
              room = room;
              some = omega (arith, u, next_is t reads);
              inside = omega (arith, u, next_is t reads, s.ok, border_under);
              ok = s.ok;
              fewer = omega (arith, put_room next s.ok room, s.ok);
            }

        pub copy_on : (f' : Filled) (d' : List ℕ) → f' ≡ put_result w r t f → d' ≡ put_buffer w r t f d → Copying w a r β end d' f' (i + 1)
        copy_on f' d' u v =
            record {
              j = x.j + 1;
              within = omega (arith, more);
              i_is = omega (arith, x.i_is);
              end_is = x.end_is;
              storing = rw (u, v) (put_next next s.ok room);
            }

    pub copy_done : end ≤ i → StateMade w r f a d
    unfolding kept dropped
    copy_done h =
        let past : arrows w β ≤ x.j = omega (arith, x.end_is, x.i_is) in
        let none : drop x.j (back_targets w β) ≡ [] = drop_of_length-le (back_targets w β) past in
        let u : Storing w r a d f [] = rw none at x.storing in
        let all : u.have ≡ targets_below w (suc r) = sym (append-nil u.have) ∙ u.all in
        record { filling = rw all at u.filling; stored_is = u.stored_is ∙ ap length all; border_is = u.border_is }
