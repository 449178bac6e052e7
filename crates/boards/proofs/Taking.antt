-- The loop over a piece: the bytes taken and the hits written so far come before what is fed of the rest. Assumes nothing.
use mathlib.Core.Path.{◌≡◌, refl, sym, ap, ◌∙◌}
use mathlib.Core.Bool.{true, false}
use mathlib.Core.List.{List, [], ◌++◌, map}
use Prim.Native.Nat.{ℕ, ◌+◌, ◌*◌, ◌-◌, ◌≤◌, ◌<◌, min}
use native.Mathlib.Nat.{add-zero}
use native.Mathlib.Omega.{arith}
use lib.Dec.{leb}
use lib.ListN.{length, get_or, drop, length-append, length-map}
use borrow.Author.Tests.{leb-true, leb-false}
use borrow.Table.Elements.{map_app}
use Rattle.runs.specs.Reading.{longest_text, fed, fed_more, ending, Ended, PieceDone, ListFull}
use Rattle.runs.proofs.Feeds.{Taking, taking_start, taking_more, taking_done, taking_full, ending_list, ending_done}
use Rattle.starts.specs.Starts.{code, start}
use Rattle.starts.specs.Hits.{Hit, hits_at}
use Rattle.starts.proofs.States.{state_within}
use Rattle.starts.proofs.Codes.{is_code_at, code_known, none_empty, number_at}
use Rattle.boards.specs.declared.fronts.Fronts.{Fronts as FrontLists}
use Rattle.boards.specs.declared.links.Links.{Links as LinkLists}
use Rattle.boards.specs.declared.tree.Tree.{Tree as TreeLists}
use Rattle.boards.specs.declared.Watch.{Watch}
use Rattle.boards.specs.Board.{cut}
use Rattle.boards.specs.Tables.{Good, Linked, AllLinked}
use Rattle.boards.specs.Written.{Spliced}
use Rattle.boards.specs.Fronts.{Fronts}
use Rattle.boards.specs.Feed.{feeder, feed}
use Rattle.boards.specs.Entry.{lent, room}
use Rattle.boards.specs.Inside.{Boarded, Hitting, OnHits, Wrote, WritesHits, Advancing, OnAdvance, Advanced, Ready, Took}
use Rattle.boards.proofs.Cuts.{cut_length, cut_code_length}
use Rattle.boards.proofs.Splices.{spliced_none, spliced_then, spliced_front}
use Rattle.boards.proofs.Watching.{start_is_known, hits_at_few, Fit, fit_is}

-- the links of all starts are those of starts up to any length
all_links : {ws : List (List ℕ)} {l : LinkLists} (n : ℕ) → AllLinked ws l → Linked ws n l.links
all_links n a = record { to = λ u k h. (a.done u k).link; size = λ u k h. (a.done u k).size; long = a.blank.links_long }

-- the test for free spots, whatever number has the room
pub spots_free : (k r n : ℕ) → r ≡ n → leb k r ≡ true → k ≤ n
spots_free k r n e t = omega (arith, e, leb-true k r t)

pub spots_taken : (k r n : ℕ) → r ≡ n → leb k r ≡ false → n < k
spots_taken k r n e t = omega (arith, e, leb-false k r t)

-- WHAT EVERY TURN READS: the board's lists, the watch at the beginning, the piece, and those words
pub record FeedsFrom (ls bs : List ℕ) (t : TreeLists) (l : LinkLists) (x : Watch) (piece : List ℕ) (f : FrontLists) : Type 0 where
  pub good : Good ls bs
  pub boarded : Boarded (cut ls bs) t l
  pub ready : Ready (cut ls bs) x (length piece)
  pub fronts : Fronts (cut ls bs) f
  pub bytes : (i : ℕ) → get_or piece i 0 < 256

-- a watch i bytes and k hits further on, in state g
abbrev pub further : Watch → (g i k : ℕ) → Watch
further x g i k = record { state = g; taken = x.taken + i; hits = x.hits + k }

-- i bytes are taken from watch x on, which led to state g, and k hits are written to lists that were a and p
pub record TakeLoop (ls bs : List ℕ) (t : TreeLists) (l : LinkLists) (x : Watch) (piece : List ℕ) (f : FrontLists) (a b p q : List ℕ) (g i k : ℕ)
    : Type 0 where
  pub lists : FeedsFrom ls bs t l x piece f
  pub told : List Hit
  pub taking : Taking (feeder (cut ls bs)) x piece (room (lent piece a p)) (further x g i k) i told
  pub count : k ≡ length told
  pub places_are : Spliced 0 (map (λ (h : Hit). h.place) told) a b
  pub numbers_are : Spliced 0 (map (λ (h : Hit). h.number) told) p q
  pub fits : Fit (cut ls bs) (further x g i k)

pub loop_start : {ls bs : List ℕ} {t : TreeLists} {l : LinkLists} {x : Watch} {piece : List ℕ} {w : FrontLists} (a p : List ℕ) →
    FeedsFrom ls bs t l x piece w → TakeLoop ls bs t l x piece w a a p p x.state 0 0
loop_start {ls} {bs} {x = x} {piece} a p f =
    record {
      lists = f;
      told = [];
      taking = rw (add-zero x.taken, add-zero x.hits) (taking_start (feeder (cut ls bs)) x piece (room (lent piece a p)));
      count = refl;
      places_are = spliced_none 0 a;
      numbers_are = spliced_none 0 p;
      fits = rw (add-zero x.taken, add-zero x.hits) (fit_is (cut ls bs) x f.ready.fits);
    }

module _ {ls bs : List ℕ} {t : TreeLists} {l : LinkLists} {x : Watch} {piece : List ℕ} {f : FrontLists} {a b p q : List ℕ}
    {g i k : ℕ} (v : TakeLoop ls bs t l x piece f a b p q g i k) where
  abbrev ws : List (List ℕ)
  ws = cut ls bs

  abbrev good : Good ls bs
  good = v.lists.good

  -- what the casts and sums need
  pub loop_bounds : (i ≤ length piece) × (x.taken + i ≤ longest_text) × (x.hits + k ≤ 64 * (x.taken + i)) × (g ≤ 2000) × (length ls ≤ 64)
  loop_bounds =
      let within : i ≤ length piece = v.taking.within in (
        within,
        omega (arith, v.lists.ready.few),
        v.fits.few,
        omega (arith, v.fits.state_is, state_within ws (start ws g) (start_is_known ws g), v.lists.boarded.is_tree.few),
        good.codes,
      )

  pub loop_long : (length b ≡ length a) × (length q ≡ length p)
  loop_long = (v.places_are.long, v.numbers_are.long)

  -- THE END: with the piece, or with the lists
  took : (e : Ended) → feed ws piece (room (lent piece a p)) x ≡ fed (further x g i k) i v.told →
      e ≡ ending (length ws) piece (room (lent piece a p)) (fed (further x g i k) i v.told) →
      Took ws x (lent piece a p) (record { watch = further x g i k; taken = i; written = k; ending = e }) (lent piece b q)
  took e f h =
      record {
        is =
            rw f
            (λ j.
            record {
              answer = record { watch = further x g i k; taken = i; written = v.count j; ending = h j };
              left = lent piece (spliced_front v.places_are j) (spliced_front v.numbers_are j);
            });
      }

  pub answer_done : (e : Ended) → e ≡ PieceDone → length piece ≤ i →
      Took ws x (lent piece a p) (record { watch = further x g i k; taken = i; written = k; ending = e }) (lent piece b q)
  answer_done e d h =
      took e (taking_done v.taking h)
      (d ∙ sym (ending_done (length ws) piece (room (lent piece a p)) (fed (further x g i k) i v.told) h))

  pub answer_full : (e : Ended) → e ≡ ListFull → i < length piece → min (length a) (length p) < k + length ls →
      Took ws x (lent piece a p) (record { watch = further x g i k; taken = i; written = k; ending = e }) (lent piece b q)
  unfolding room
  answer_full e d h m =
      let none : room (lent piece a p) - length v.told < length ws = omega (arith, cut_length ls bs, v.count) in
      took e (taking_full v.taking none)
      (d ∙ sym (ending_list (length ws) piece (room (lent piece a p)) (fed (further x g i k) i v.told) none h))

  -- A TURN: what the next bytes need
  pub turn_advancing : i < length piece → Advancing ws (start ws g) t l.links f g piece i
  turn_advancing inside =
      record {
        is_tree = v.lists.boarded.is_tree;
        linked = λ n. all_links n v.lists.boarded.linked;
        fronts = v.lists.fronts;
        known_is = start_is_known ws g;
        state_is = v.fits.state_is;
        inside = inside;
        bytes = v.lists.bytes;
      }

  pub turn_needs : i < length piece → OnAdvance t l.links f g piece i
  turn_needs inside =
      record { ws = ws; u = start ws g; advancing = turn_advancing inside }

  -- and that they lead to state h, up to index j
  module _ {h j : ℕ} (led : Advanced ws (start ws g) piece g i h j) where
    next_start : length (start ws h) ≤ x.taken + j
    next_start = omega (arith, led.short, v.fits.reached, led.onward)

    pub next_bounds : (h < length l.nearest) × (i < j) × (j ≤ length piece)
    next_bounds =
        let b = v.lists.boarded in (
          omega (arith, led.state_is, state_within ws (start ws h) (start_is_known ws h), b.is_tree.few, b.linked.blank.nearest_long),
          led.onward,
          led.within,
        )

    -- the hits of the last of them: enough spots are free
    module _ (free : k + length ls ≤ min (length a) (length p)) (o : ℕ) (o_is : o ≡ get_or l.nearest h 0) where
      hitting : Hitting ws (start ws h) ls l.shorter o (x.taken + j) k (length b) (length q)
      hitting =
          let all = v.lists.boarded.linked in
          let size : length ws ≡ length ls = cut_length ls bs in
          record {
            lengths = λ i n. sym (cut_code_length ls bs i (omega (arith, good.sums)) (omega arith));
            lengths_long = sym size;
            shorts = λ i n. (all.done (code ws i) (code_known ws (code ws i) (is_code_at ws i n))).short i (number_at ws i v.lists.boarded.once n);
            shorts_long = omega (arith, good.codes, all.blank.shorter_long);
            codes_few = omega (arith, good.codes);
            filled = none_empty ws (λ i n. let f = v.lists.fronts in omega (arith, f.some, f.within i n));
            nearest_is = o_is ∙ ap (λ (s : ℕ). get_or l.nearest s 0) (sym led.state_is) ∙ (all.done (start ws h) (start_is_known ws h)).near;
            reached = next_start;
            places_room = omega (arith, loop_long.0);
            numbers_room = omega (arith, loop_long.1);
          }

      pub hits_needs : OnHits ls l.shorter o (x.taken + j) k (length b) (length q)
      hits_needs = record { ws = ws; u = start ws h; hitting = hitting }

      -- they are written, and the bytes are taken
      module _ (n : ℕ) (b' q' : List ℕ) (writes : WritesHits ls l.shorter o (x.taken + j) k n b b' q q') where
        abbrev hs : List Hit
        hs = hits_at ws (start ws h) (x.taken + j)

        wrote : Wrote hs k n b b' q q'
        wrote = writes ws (start ws h) hitting

        reads : feed ws (drop i piece) (room (lent piece a p) - length v.told) (further x g i k)
            ≡ fed_more (j - i) hs (feed ws (drop j piece) (room (lent piece a p) - length v.told - length hs) (further x h j n))
        unfolding room
        reads =
            let at : x.taken + i + (j - i) ≡ x.taken + j = omega (arith, led.onward) in
            let count : x.hits + k + length hs ≡ x.hits + n = omega (arith, wrote.end_is) in
            rw (at, count) at (led.reads (further x g i k) (min (length a) (length p) - length v.told) refl (omega (arith, cut_length ls bs, v.count)))

        pub turn_taken : TakeLoop ls bs t l x piece f a b' p q' h j n
        turn_taken =
            record {
              lists = v.lists;
              told = v.told ++ hs;
              taking = taking_more v.taking j (further x h j n) hs (omega (arith, led.onward)) led.within reads;
              count = omega (arith, v.count, wrote.end_is, length-append v.told hs);
              places_are =
                  rw (map_app (λ (z : Hit). z.place) v.told hs)
                  (spliced_then v.places_are (omega (arith, v.count, length-map v.told (λ (z : Hit). z.place))) wrote.places_are);
              numbers_are =
                  rw (map_app (λ (z : Hit). z.number) v.told hs)
                  (spliced_then v.numbers_are (omega (arith, v.count, length-map v.told (λ (z : Hit). z.number))) wrote.numbers_are);
              fits =
                  record {
                    state_is = led.state_is;
                    reached = next_start;
                    few =
                        omega (
                          arith,
                          v.fits.few,
                          wrote.end_is,
                          hits_at_few ws (start ws h) (x.taken + j),
                          cut_length ls bs,
                          good.codes,
                          led.onward,
                        );
                  };
            }
