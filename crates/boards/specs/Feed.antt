-- A board's watch, and feeding byte by byte. Assumes nothing: these are definitions.
use Rattle.std.specs.Prelude.{Bool, ◌&&◌, List, [], ◌∷◌, ◌++◌, ℕ, suc, ◌+◌, ◌*◌, leb, length}
use Rattle.runs.specs.Reading.{Reader, Fed}
use Rattle.runs.specs.Reading as reading
use Rattle.starts.specs.Starts.{state, start, is_state, reached}
use Rattle.starts.specs.Hits.{Hit, hits_at, hits}
use Rattle.boards.specs.declared.Watch.{Watch}

-- A WATCH just opened
abbrev pub opened : Watch
opened = record { state = 0; taken = 0; hits = 0 }

-- whether a watch is fit for the board of some codes
unfoldable pub fit : (ws : List (List ℕ)) → Watch → Bool
fit ws x =
    (is_state ws x.state && leb (length (start ws x.state)) x.taken) && leb x.hits (64 * x.taken)

-- the state after byte c: that of the longest start that the state's own and the byte end with
unfoldable pub stepped : (ws : List (List ℕ)) → (g c : ℕ) → ℕ
stepped ws g c = state ws (reached ws (start ws g ++ (c ∷ [])))

-- the hits when byte c is taken, longer codes first
unfoldable pub reported : (ws : List (List ℕ)) → (c : ℕ) → Watch → List Hit
reported ws c x = hits_at ws (start ws (stepped ws x.state c)) (suc x.taken)

-- ONE BYTE
unfoldable pub with_byte : (ws : List (List ℕ)) → (c : ℕ) → Watch → Watch
with_byte ws c x =
    record { state = stepped ws x.state c; taken = suc x.taken; hits = x.hits + length (reported ws c x) }

-- FEEDING: a reader that needs as many free spots before a byte as there are codes
abbrev pub feeder : (ws : List (List ℕ)) → Reader Watch Hit
feeder ws = record { byte = with_byte ws; tells = reported ws; needs = length ws }

abbrev pub feed : (ws : List (List ℕ)) → (piece : List ℕ) → (room : ℕ) → Watch → Fed Watch Hit
feed ws cs k x = reading.feed (feeder ws) cs k x

-- the watch that belongs to a text, whatever the pieces in which it came
abbrev pub watch_of : (ws : List (List ℕ)) → (text : List ℕ) → Watch
watch_of ws ts = record { state = state ws (reached ws ts); taken = length ts; hits = length (hits ws ts) }
