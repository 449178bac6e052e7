-- Watches, and feeding byte by byte. Assumes nothing: these are definitions.
use Rattle.std.specs.Prelude.{Bool, ◌&&◌, List, ℕ, suc, ◌+◌, ◌*◌, ◌-◌, leb, eqb, length}
use Rattle.automaton.specs.Arrows.{stepped}
use Rattle.runs.specs.Reading.{place_if, Reader, Fed}
use Rattle.runs.specs.Reading as reading
use Rattle.finder.specs.declared.Watch.{Watch}

-- A WATCH just opened
abbrev pub opened : Watch
opened = record { state = 0; taken = 0; hits = 0; compares = 0 }

-- whether a watch is fit for a code of m bytes
unfoldable pub fit : (m : ℕ) → Watch → Bool
fit m x =
    (leb x.state m && leb x.state x.taken) && (leb x.hits x.taken && leb x.compares (2 * x.taken))

-- the place that is complete in a state after so many bytes: the offset of the code's first byte, a list of none or one
unfoldable pub completed : (m state taken : ℕ) → List ℕ
completed m q n = place_if (eqb q m) (n - m)

-- what is reported when byte c is taken
unfoldable pub reported : (w : List ℕ) → (c : ℕ) → Watch → List ℕ
reported w c x = completed (length w) (stepped w x.state c).state (suc x.taken)

-- ONE BYTE: the step's state and cost, and what is reported
unfoldable pub with_byte : (w : List ℕ) → (c : ℕ) → Watch → Watch
with_byte w c x =
    record {
      state = (stepped w x.state c).state;
      taken = suc x.taken;
      hits = x.hits + length (reported w c x);
      compares = x.compares + (stepped w x.state c).cost;
    }

-- FEEDING: a reader that needs one free spot in the list before a byte
abbrev pub spots : ℕ
spots = 1

abbrev pub feeder : (w : List ℕ) → Reader Watch ℕ
feeder w = record { byte = with_byte w; tells = reported w; needs = spots }

abbrev pub feed : (w piece : List ℕ) → (room : ℕ) → Watch → Fed Watch ℕ
feed w cs k x = reading.feed (feeder w) cs k x
