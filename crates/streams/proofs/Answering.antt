-- What a read answered, and the bytes that so came. Assumes nothing.
use Rattle.std.proofs.Common.{◌≡◌, ℕ, ◌≤◌, ◌<◌, min, List, length, take, Result, Ok, Err, IfSome, arith}
use Rattle.std.specs.Result.{result_ok}
use Rattle.std.specs.Io.{ReadsAtMost}
use lib.Seq.{length-take-le, get_or-take}
use Rattle.words.specs.Words.{byte}
use Rattle.streams.specs.declared.NotComplete.{NotComplete}
use Rattle.streams.specs.Receipts.{Answered, AllSent, CountedOn, Moved, unmoved}
use Rattle.streams.specs.Streams.{DoneOrTold, SentOrTold}

-- A READ that is handed a buffer moves no more bytes than have room. The receipts are made where the system is called
pub answered : {E : Type 0} {P : ℕ → ℕ → Type 0} {Over : ℕ → Type 0} (at : ℕ) (r : Result ℕ E) (b : List ℕ) →
    ReadsAtMost r b → ((i c : ℕ) → P i c) → ((m : ℕ) → Over m) → IfSome (result_ok r) (λ n. Answered P Over at n b)
answered at (Ok n) b within came over = record { within = within.0; bytes = λ i h. came _ _; ends = λ z h. over _ }
answered at (Err e) b within came over = tt

byte_of_front : (n : ℕ) (b : List ℕ) (i : ℕ) → i < n → byte (take n b) i ≡ byte b i
unfolding byte
byte_of_front n b i h = get_or-take n b i 0 h

-- SO MANY BYTES as it brought, and the end where that is none
pub record GotBytes (P : ℕ → ℕ → Type 0) (E : ℕ → Type 0) (at n after : ℕ) (buffer : List ℕ) : Type 0 where
  pub within : n ≤ length buffer
  pub moved : Moved P at after (take n buffer)
  pub ends : n ≡ 0 → 1 ≤ length buffer → E after

pub got_bytes : {P : ℕ → ℕ → Type 0} {E : ℕ → Type 0} {at n after : ℕ} {b : List ℕ} →
    Answered P E at n b → CountedOn at n after → GotBytes P E at n after b
got_bytes {P} {E} {at} {n} {after} {b} a t =
    let long : length (take n b) ≡ n = length-take-le n b a.within in
    record {
      within = a.within;
      moved = record { counted = rw long t; each = λ i h. let l : i < n = omega arith in rw (byte_of_front n b i l) (a.bytes i l) };
      ends = λ z h. let same : after ≡ at = omega (arith, t.exact) in rw same (a.ends z h);
    }

-- fewer than one, where there is room for one, are none
pub got_none : {P : ℕ → ℕ → Type 0} {E : ℕ → Type 0} {at n after m : ℕ} {b : List ℕ} → GotBytes P E at n after b → m ≡ length b → n < min 1 m → E after
got_none {n = n} {m = m} {b = b} g same h = g.ends (omega arith) (omega (arith, same))

-- BYTES THAT WERE WRITTEN, if they could be counted
pub sent_counted : (at after : ℕ) (bs : List ℕ) (r : Result (Unit {0}) NotComplete) →
    AllSent at bs → DoneOrTold r (λ _. CountedOn at (length bs) after) (after ≡ at) → SentOrTold at bs r after
sent_counted at after bs (Ok v) all t = record { counted = t; each = all }
sent_counted at after bs (Err e) all t = (t.0, unmoved _ _ t.1)
