-- Document 01's bench samples that are marked P, and a run of calls worked out by hand, as one table. Assumes nothing: these are definitions.
use Rattle.std.specs.Prelude.{List, [], ◌∷◌, ◌++◌, map, ℕ, suc, length}
use Rattle.automaton.specs.Ceilings.{byte_ceiling, total_ceiling}
use Rattle.automaton.specs.Costs.{costs}
use Rattle.automaton.specs.Samples.{Sample, Agree, A, B, C, Z, abaab}
use Rattle.sheets.specs.Sheet.{sheet}
use Rattle.runs.specs.Reading.{Fed, ending, ending_full}
use Rattle.finder.specs.declared.Watch.{Watch}
use Rattle.finder.specs.Feed.{opened, spots, feed}
use Rattle.finder.specs.Machine.{machine_start, machine_refusals}
use Rattle.finder.specs.Texts.{places, watch_of}
use Rattle.finder.specs.Entry.{Lent, lent, feed_run, told_places, told_refusal, plain}

-- the sheet of a code
unfoldable pub preparing : (code bytes : List ℕ) → Sample
preparing w bs = record { found = sheet w ∷ []; expected = bs ∷ [] }

-- a text fed as one piece from an opening on, with room for all its places
unfoldable pub fed_whole : (code text : List ℕ) → Fed Watch ℕ
fed_whole w ts = feed w ts (suc (length ts)) opened

-- the places of a code in a text; the bytes taken, the places reported, the comparisons and the total ceiling
unfoldable pub searching : (code text places : List ℕ) → (bytes hits compares ceiling : ℕ) → Sample
searching w ts ps n h k c =
    let f = fed_whole w ts in
    record {
      found = f.told ∷ (f.taken ∷ f.after.hits ∷ f.after.compares ∷ total_ceiling (length w) (length ts) ∷ []) ∷ [];
      expected = ps ∷ (n ∷ h ∷ k ∷ c ∷ []) ∷ [];
    }

-- the costs of a text's bytes, one by one; the byte ceiling
unfoldable pub costing : (code text each : List ℕ) → (ceiling : ℕ) → Sample
costing w ts ks n = record { found = costs w ts ∷ (byte_ceiling w ∷ []) ∷ []; expected = ks ∷ (n ∷ []) ∷ [] }

-- one call with a list of so many places: the places written; the watch's four numbers; the bytes taken, and 1 for list full
unfoldable pub calling : (code piece : List ℕ) → (room : ℕ) → (places watch : List ℕ) → (taken full : ℕ) → Sample
calling w cs k ps ws n e =
    let f = feed w cs k opened in
    let x = f.after in
    record {
      found = f.told ∷ (x.state ∷ x.taken ∷ x.hits ∷ x.compares ∷ []) ∷ (f.taken ∷ ending_full (ending spots cs k f) ∷ []) ∷ [];
      expected = ps ∷ ws ∷ (n ∷ e ∷ []) ∷ [];
    }

-- a run of calls of `feed` on a sheet with a byte behind it: the places written, and those of the bytes taken; these bytes; the watch's four numbers, and
-- those of the watch of these bytes; the refusals, and those of the plain machine
abbrev four_numbers : Watch → List ℕ
four_numbers x = x.state ∷ x.taken ∷ x.hits ∷ x.compares ∷ []

unfoldable pub running : (code : List ℕ) → (calls : List Lent) → (places bytes watch refusals : List ℕ) → Sample
running w ls ps bs ws rs =
    let a = sheet w ++ (Z ∷ []) in
    let r = feed_run told_places a ls in
    record {
      found =
          r.told ∷ places w r.bytes ∷ r.bytes ∷ four_numbers r.after ∷ four_numbers (watch_of w r.bytes)
          ∷ (feed_run told_refusal a ls).told ∷ machine_refusals w (map plain ls) machine_start ∷ [];
      expected = ps ∷ ps ∷ bs ∷ ws ∷ ws ∷ rs ∷ rs ∷ [];
    }

-- THE TABLE
unfoldable pub call_samples : List Sample
call_samples =
    preparing (A ∷ []) (1 ∷ 97 ∷ 0 ∷ 1 ∷ 1 ∷ [])
    ∷ preparing (A ∷ A ∷ A ∷ []) (3 ∷ 97 ∷ 97 ∷ 97 ∷ 0 ∷ 0 ∷ 0 ∷ 1 ∷ 3 ∷ [])
    ∷ preparing (A ∷ A ∷ B ∷ []) (3 ∷ 97 ∷ 97 ∷ 98 ∷ 0 ∷ 0 ∷ 1 ∷ 2 ∷ 2 ∷ 1 ∷ [])
    ∷ preparing abaab (5 ∷ 97 ∷ 98 ∷ 97 ∷ 97 ∷ 98 ∷ 0 ∷ 1 ∷ 1 ∷ 2 ∷ 3 ∷ 4 ∷ 1 ∷ 2 ∷ 1 ∷ 3 ∷ [])
    ∷ searching (A ∷ A ∷ []) (A ∷ A ∷ A ∷ A ∷ []) (0 ∷ 1 ∷ 2 ∷ []) 4 3 4 6
    ∷ searching (A ∷ B ∷ []) (A ∷ B ∷ A ∷ B ∷ []) (0 ∷ 2 ∷ []) 4 2 6 6
    ∷ searching (A ∷ B ∷ A ∷ C ∷ []) (A ∷ B ∷ A ∷ Z ∷ []) [] 4 0 7 7
    ∷ costing (A ∷ B ∷ A ∷ C ∷ []) (A ∷ B ∷ A ∷ Z ∷ []) (1 ∷ 2 ∷ 1 ∷ 3 ∷ []) 3
    ∷ searching abaab (A ∷ B ∷ A ∷ A ∷ B ∷ A ∷ B ∷ A ∷ A ∷ B ∷ []) (0 ∷ 5 ∷ []) 10 2 15 18
    ∷ calling (A ∷ A ∷ []) (A ∷ A ∷ A ∷ A ∷ []) 1 (0 ∷ []) (2 ∷ 2 ∷ 1 ∷ 2 ∷ []) 2 1
    ∷ searching abaab [] [] 0 0 0 0
    ∷ running (A ∷ B ∷ []) (lent (A ∷ B ∷ A ∷ []) (Z ∷ []) ∷ lent (A ∷ []) [] ∷ lent (A ∷ B ∷ B ∷ []) (Z ∷ Z ∷ Z ∷ []) ∷ [])
    (0 ∷ 2 ∷ []) (A ∷ B ∷ A ∷ B ∷ B ∷ []) (0 ∷ 5 ∷ 2 ∷ 7 ∷ []) (0 ∷ 6 ∷ 0 ∷ [])
    ∷ []

-- all its rows agree: what is found is what is expected
unfoldable pub CallSamplesHold : Type 0
CallSamplesHold = Agree call_samples
