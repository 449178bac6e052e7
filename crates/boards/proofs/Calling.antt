-- A call of feeding by what it finds: the refusals in their order, and a call without one. Assumes nothing.
use mathlib.Core.Path.{◌≡◌, refl, sym, ◌∙◌}
use mathlib.Core.Bool.{Bool, true, false, ◌&&◌}
use mathlib.Core.List.{List}
use Prim.Native.Nat.{ℕ, suc, ◌+◌, ◌≤◌, ◌<◌, min}
use native.Mathlib.Omega.{arith}
use lib.Dec.{leb}
use lib.ListN.{length, take}
use borrow.Author.Tests.{lt-ltb, le-ltb}
use Rattle.std.specs.Prelude.{Err}
use Rattle.runs.specs.declared.Refusal.{Refusal}
use Rattle.runs.specs.declared.Refusal.TheVariants.{NotPrepared, UnfitWatch, ShortList, LongText}
use Rattle.runs.specs.Refusals.{refusal_number}
use Rattle.runs.specs.Answers.{Answer, answer_of}
use Rattle.words.specs.Words.{same}
use Rattle.words.proofs.Tests.{fails}
use Rattle.runs.specs.Reading.{longest_text}
use Rattle.codes.specs.Refusals.{refused_if, first_refusal}
use Rattle.boards.specs.declared.given.Codes.{Codes}
use Rattle.boards.specs.declared.links.Links.{Links as LinkLists}
use Rattle.boards.specs.declared.tree.Tree.{Tree as TreeLists}
use Rattle.boards.specs.declared.Watch.{Watch}
use Rattle.boards.specs.Board.{begins}
use Rattle.boards.specs.Tables.{codes_of}
use Rattle.boards.specs.Feed.{fit}
use Rattle.boards.specs.Written.{BoardMade}
use Rattle.boards.specs.Naming.{OnNamed}
use Rattle.boards.specs.Entry.{Lent, room, call_refusal, feed_refusal, call_by, feed_call, FeedSays}
use Rattle.boards.specs.Inside.{Took, Boarded, LinkedFor}
use Rattle.boards.proofs.Listing.{good_of}
use Rattle.boards.proofs.Cuts.{cut_length, cut_total}
use Rattle.boards.proofs.Naming.{named_by, codes_named, begins_as}

-- A REFUSED CALL, and the first refusal: it begins with no board
module _ (buffer : List ℕ) (x : Watch) (l : Lent) where
  -- what a refusal is to a caller
  abbrev refusal : (s : Refusal) → Answer Watch
  refusal s = answer_of x (Err s)

  says_refused : (s : Refusal) (n : ℕ) → feed_refusal buffer x l ≡ suc n → refusal_number s ≡ suc n → FeedSays buffer x l (refusal s) l
  unfolding feed_call call_by
  says_refused s n e is = record { is = rw (is, e) refl }

  pub says_none : (begins buffer ≡ true → ⊥) → FeedSays buffer x l (refusal NotPrepared) l
  unfolding feed_refusal first_refusal refused_if
  says_none f = says_refused NotPrepared 3 (rw (fails (begins buffer) f)) refl

-- THE OTHER REFUSALS, each after those before it passed, and a call without one
module _ {buffer : List ℕ} {c : Codes} (o : OnNamed buffer c) (b : begins buffer ≡ true) (x : Watch) (l : Lent) where
  pub says_unfit : fit (codes_of c) x ≡ false → FeedSays buffer x l (refusal buffer x l UnfitWatch) l
  unfolding feed_refusal first_refusal refused_if
  says_unfit f = says_refused buffer x l UnfitWatch 4 (rw (b, ← codes_named (named_by o), f)) refl

  module _ (f : fit (codes_of c) x ≡ true) {k : ℕ} (e : k ≡ min (length l.places) (length l.numbers)) where
    pub says_full : k < length c.lengths.now → FeedSays buffer x l (refusal buffer x l ShortList) l
    unfolding feed_refusal call_refusal first_refusal refused_if room
    says_full h = says_refused buffer x l ShortList 5 (rw (b, ← codes_named (named_by o), f, cut_length c.lengths.now c.bytes.now, ← e, lt-ltb k (length c.lengths.now) h)) refl

    module _ (h : length c.lengths.now ≤ k) where
      pub says_over : longest_text < x.taken + length l.piece → FeedSays buffer x l (refusal buffer x l LongText) l
      unfolding feed_refusal call_refusal first_refusal refused_if room
      says_over g =
          says_refused buffer x l LongText 6
          (rw (b, ← codes_named (named_by o), f, cut_length c.lengths.now c.bytes.now, ← e, le-ltb k (length c.lengths.now) h, lt-ltb longest_text (x.taken + length l.piece) g))
          refl

      passes : x.taken + length l.piece ≤ longest_text → feed_refusal buffer x l ≡ 0
      unfolding feed_refusal call_refusal first_refusal refused_if room
      passes g = rw (b, ← codes_named (named_by o), f, cut_length c.lengths.now c.bytes.now, ← e, le-ltb k (length c.lengths.now) h, le-ltb longest_text (x.taken + length l.piece) g)

      pub says_took : {r : Answer Watch} {after : Lent} → x.taken + length l.piece ≤ longest_text → Took (codes_of c) x l r after → FeedSays buffer x l r after
      unfolding feed_call call_by
      says_took g t = record { is = rw (passes g, ← codes_named (named_by o)) t.is }

-- FITNESS is told by the links
pub links_for : (c : Codes) {t : TreeLists} {k : LinkLists} → Boarded (codes_of c) t k → LinkedFor (codes_of c) k.links (length c.bytes.now)
links_for c u =
    let g = good_of c.lengths.now c.bytes.now c.listed in
    record {
      size = λ v n. (u.linked.done v n).size;
      none = λ i f. (u.linked.blank.none i f).1;
      bytes = sym (cut_total c.lengths.now c.bytes.now (omega (arith, g.sums)) ∙ g.sums);
      long = omega (arith, c.bytes_few, u.linked.blank.links_long);
    }

-- THE BOARD built afresh is compared with the buffer's front
pub board_same : {buffer : List ℕ} (c : Codes) {t : TreeLists} {k : LinkLists} {size : ℕ} {a area : List ℕ} {r : Bool} → OnNamed buffer c →
    Boarded (codes_of c) t k → BoardMade (codes_of c) size a area → r ≡ leb size (length area) && same (take size buffer) (take size area) →
    r ≡ begins buffer
board_same c {a = a} o u m e = begins_as (named_by o) a u.once m.size_is m.front e
