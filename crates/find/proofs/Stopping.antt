-- Bytes that came before a read or a write failed, and reads one behind another. Assumes nothing.
use mathlib.Core.Path.{◌≡◌, refl, ap, ◌∙◌}
use mathlib.Core.List.{List, [], ◌++◌, append_assoc}
use Prim.Native.Nat.{ℕ, ◌+◌, ◌≤◌}
use lib.ListN.{length, take}
use lib.Seq.{length-take-le, take-append-add, take-append-le}
use Rattle.streams.specs.Receipts.{Came, Sent, Broken, Moved}
use Rattle.streams.specs.Streams.{Brought, SomeCame}
use Rattle.streams.proofs.Moving.{moved_none, moved_join}
use Rattle.find.specs.Program.{StoppedIn}

-- STOPPED where some bytes came and nothing was sent, and behind what came and was sent before
pub stopped_here : (prints : List ℕ → List ℕ) {at from after to : ℕ} → SomeCame at after → Broken from to → StoppedIn prints at from after to
stopped_here prints {from = from} c e =
    record {
      via = from;
      bytes = c.bytes;
      out = [];
      came = c.came;
      sent = moved_none Sent from;
      broken = e;
      starts = λ rest. record { rest = prints (c.bytes ++ rest); is = refl };
    }

pub stopped_behind : {before prints : List ℕ → List ℕ} {at mid after from via to : ℕ} {xs ys : List ℕ} →
    Moved Came at mid xs → Moved Sent from via ys → ((rest : List ℕ) → before (xs ++ rest) ≡ ys ++ prints rest) →
    StoppedIn prints mid via after to → StoppedIn before at from after to
stopped_behind {xs = xs} {ys} came sent then g =
    record {
      via = g.via;
      bytes = xs ++ g.bytes;
      out = ys ++ g.out;
      came = moved_join came g.came;
      sent = moved_join sent g.sent;
      broken = g.broken;
      starts = λ rest.
          let b = g.starts rest in
          record { rest = b.rest; is = rw (append_assoc xs g.bytes rest, append_assoc ys g.out, ← b.is) (then (g.bytes ++ rest)) };
    }

-- ONE MORE READ behind the first n bytes of a buffer xs, into a part ys that reaches to its end
take_behind : (n k : ℕ) (xs ys zs : List ℕ) → n ≤ length xs → k ≤ length ys → take (n + k) (take n xs ++ (ys ++ zs)) ≡ take n xs ++ take k ys
take_behind n k xs ys zs h l =
    let size : length (take n xs) ≡ n = length-take-le n xs h in
    rw size at (take-append-add (take n xs) (ys ++ zs) k) ∙ ap (λ (r : List ℕ). take n xs ++ r) (take-append-le k ys zs l)

module _
    (xs ys zs : List ℕ) {at mid after : ℕ} (n k : ℕ) (h : n ≤ length xs) (m : Moved Came at mid (take n xs))
    {full : ℕ} (r : Brought full mid k after ys) where
  pub came_behind : Moved Came at after (take (n + k) (take n xs ++ (ys ++ zs)))
  came_behind = rw (take_behind n k xs ys zs h r.within) (moved_join m r.came)
