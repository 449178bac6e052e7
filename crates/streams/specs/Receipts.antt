-- RECEIPTS for what the system did. No contract can say which bytes a call reads or writes, so these are shut names: anyone can state one, and its maker
-- below makes it. Each maker is for one proof of this crate, as tests/receipts sees, of a function that does nothing but call the system: make_came and
-- make_ended for `read_input`, make_sent for `write_output`, make_heard for `write_error`.
use Rattle.std.specs.Prelude.{◌≡◌, List, [], ℕ, ◌+◌, ◌^◌, ◌≤◌, ◌<◌, length}
use Rattle.words.specs.Words.{byte}
use Rattle.forms.specs.Ascii.{ascii}

-- byte i of the input is c: a read brought it when i bytes had come before it
pub Came : (i c : ℕ) → Type 0
Came i c = Unit {0}

pub make_came : (i c : ℕ) → Came i c
unfolding Came
make_came i c = tt

-- the input has n bytes: a read that had room brought none when so many had come
pub Ended : (n : ℕ) → Type 0
Ended n = Unit {0}

pub make_ended : (n : ℕ) → Ended n
unfolding Ended
make_ended n = tt

-- byte i of the output is c: it was written when i bytes had been written before it
pub Sent : (i c : ℕ) → Type 0
Sent i c = Unit {0}

pub make_sent : (i c : ℕ) → Sent i c
unfolding Sent
make_sent i c = tt

-- these bytes were handed to standard error, whether or not anybody hears it
pub Heard : (bytes : List ℕ) → Type 0
Heard bs = Unit {0}

pub make_heard : (bytes : List ℕ) → Heard bytes
unfolding Heard
make_heard bs = tt

-- standard error is told that the search is not complete
abbrev pub Told : Type 0
Told = Heard (ascii "not complete: ")

-- WHAT A READ ANSWERS, into a buffer, when `at` bytes had come, if it did not fail: k, the bytes that it brought; none, if there is room for one, where the
-- input ended
pub record Answered (Byte : ℕ → ℕ → Type 0) (End : ℕ → Type 0) (at k : ℕ) (buffer : List ℕ) : Type 0 where
  pub within : k ≤ length buffer
  pub bytes : (i : ℕ) → i < k → Byte (at + i) (byte buffer i)
  pub ends : k ≡ 0 → 1 ≤ length buffer → End at

-- all bytes of a list were written when `at` bytes had been written before them
abbrev pub AllSent : (at : ℕ) → (bytes : List ℕ) → Type 0
AllSent at bs = (i : ℕ) → i < length bs → Sent (at + i) (byte bs i)

-- the count of bytes sent went from `at` to `after`, and no write between them is known to be whole. Shut, so that no proof goes on behind it
pub Broken : (at after : ℕ) → Type 0
Broken at after = after ≡ at

pub unmoved : (at after : ℕ) → after ≡ at → Broken at after
unfolding Broken
unmoved at after e = e

-- n more were counted, from `at` to `after`, in 64 bits
pub record CountedOn (at n after : ℕ) : Type 0 where
  pub exact : after ≡ at + n
  pub fits : 1 ≤ n → after < 2 ^ 64

-- these bytes were moved, one by one, while the count of bytes moved went from `at` to `after`
pub record Moved (Receipt : ℕ → ℕ → Type 0) (at after : ℕ) (bytes : List ℕ) : Type 0 where
  pub counted : CountedOn at (length bytes) after
  pub each : (i : ℕ) → i < length bytes → Receipt (at + i) (byte bytes i)

-- what may still come where n bytes have come: nothing, if the input has ended there
unfoldable pub MayFollow : (n : ℕ) → (rest : List ℕ) → Type 0
MayFollow n rest = Ended n → rest ≡ []
