-- What is said, one call after another, and bytes gathered behind others. Assumes nothing.
use mathlib.Core.Path.{◌≡◌, refl, sym, ap, ◌∙◌}
use mathlib.Core.Bool.{true≢false}
use mathlib.Core.List.{List, [], ◌++◌, append-nil, append_assoc}
use Prim.Native.Nat.{ℕ, ◌≤◌}
use native.Mathlib.Omega.{arith}
use Rattle.std.specs.Prelude.{Result, Ok, Err, IsErr}
use Rattle.forms.specs.Text.{PutWithin}
use Rattle.forms.proofs.Paging.{put_all}
use Rattle.streams.specs.declared.NotComplete.{NotComplete}
use Rattle.streams.specs.Receipts.{unmoved}
use Rattle.streams.specs.Streams.{SentOrTold}
use Rattle.streams.proofs.Moving.{moved_join}
use Rattle.sweep.specs.declared.says.Printer.{Printer}
use Rattle.sweep.specs.Saying.{Said, Cut, Says, Made}

-- CUT SHORT, whatever would have followed; and nothing more is said
pub cut_more : (n : ℕ) (all more : List ℕ) → Cut n all → Cut n (all ++ more)
cut_more n all more c =
    record {
      via = c.via;
      front = c.front;
      moved = c.moved;
      broken = c.broken;
      starts = record { rest = c.starts.rest ++ more; is = rw c.starts.is (append_assoc c.front c.starts.rest more) };
    }

pub said_cut : (p : Printer) (all : List ℕ) → Said p all → Cut p.output all
said_cut p all s =
    record { via = p.output; front = s.front; moved = s.moved; broken = unmoved _ _ refl; starts = record { rest = p.page; is = sym s.whole } }

-- ONE CALL AFTER ANOTHER
pub says_none : {A : Type 0} {x : A} (p : Printer) → Says p [] (Ok x) p
says_none p = record { says = λ all s. rw append-nil s }

pub says_join : {A B : Type 0} {x : A} {p q s : Printer} {r : Result B NotComplete} {xs ys : List ℕ} →
    Says p xs (Ok x) q → Says q ys r s → Says p (xs ++ ys) r s
says_join {xs = xs} {ys} f g = record { says = λ all s. rw (← append_assoc all xs ys) (g.says (all ++ xs) (f.says all s)) }

-- what was said does not rest on what else is answered
pub says_ok : {A B : Type 0} {x : A} {y : B} {p q : Printer} {bytes : List ℕ} → Says p bytes (Ok x) q → Says p bytes (Ok y) q
says_ok f = record { says = f.says }

pub says_err : {A B : Type 0} {e : NotComplete} {p q : Printer} {bytes : List ℕ} (r : Result B NotComplete) → IsErr r →
    Says {A = A} p bytes (Err e) q → Says p bytes r q
says_err (Ok x) i f = absurd (true≢false (sym i))
says_err (Err d) i f = record { says = f.says }

-- WHAT IS GATHERED is sent
pub gathered_sent : (r : Result (Unit {0}) NotComplete) (p : Printer) {m : ℕ} → SentOrTold p.output p.page r m → Says p [] r (record { output = m; page = [] })
gathered_sent (Ok u) p f =
    record {
      says = λ all s. record { front = s.front ++ p.page; moved = moved_join s.moved f; whole = ap (λ (l : List ℕ). l ++ []) s.whole };
    }
gathered_sent (Err e) p f =
    record {
      says = λ all s. (
        f.0,
        record {
          via = p.output;
          front = s.front;
          moved = s.moved;
          broken = f.1;
          starts = record { rest = p.page; is = append-nil all ∙ sym s.whole };
        },
      );
    }

-- ROOM is made
pub room_made : {p q : Printer} {most : ℕ} {r : Result (Unit {0}) NotComplete} → most ≤ 200704 → Says p [] r q × (q.page ≡ []) → Made p most r q
room_made h f = record { fits = rw f.1 (omega arith); says = λ all s. rw append-nil at (f.0.says all s) }

-- and bytes written there are said; or it could not be made
pub room_used : {p q : Printer} {most : ℕ} {x y : Unit {0}} {bytes page : List ℕ} → Made p most (Ok x) q → PutWithin most bytes 200704 q.page page →
    Says p bytes (Ok y) (record { output = q.output; page = page })
room_used {q = q} {bytes = bytes} f w =
    record {
      says = λ all s.
          let v = f.says all s in
          record {
            front = v.front;
            moved = v.moved;
            whole = rw (put_all w.0 (omega (arith, f.fits, w.1)), ← append_assoc v.front q.page bytes, v.whole);
          };
    }

pub room_not : {p q : Printer} {most : ℕ} {e : NotComplete} {bytes : List ℕ} (r : Result (Unit {0}) NotComplete) → IsErr r → Made p most (Err e) q → Says p bytes r q
room_not (Ok x) i f = absurd (true≢false (sym i))
room_not {q = q} {bytes = bytes} (Err d) i f = record { says = λ all s. let t = f.says all s in (t.0, cut_more q.output all bytes t.1) }
