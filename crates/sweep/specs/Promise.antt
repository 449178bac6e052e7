-- What is promised of the program beyond its contract `Ran`: what a complete run says is settled by its input and its files. Each statement is a type;
-- docs/PROOFS.md names its proof. Assumes nothing.
use Rattle.std.specs.Prelude.{◌≡◌, true, false, List, [], ◌∷◌, ◌++◌, map, ◌≢◌, ◌↔◌, ℕ, suc, ◌≤◌, ◌<◌, length, take, drop}
use Rattle.words.specs.Words.{member, Rising}
use Rattle.runs.specs.Reading.{longest_text}
use Rattle.starts.specs.Starts.{code}
use Rattle.starts.specs.Hits.{hits, places_of, EveryHit, Ordered}
use Rattle.finder.specs.Texts.{places}
use Rattle.forms.specs.Ascii.{ascii}
use Rattle.forms.specs.Text.{refused_form}
use Rattle.boards.specs.Board.{accepted}
use Rattle.streams.specs.Receipts.{MayFollow}
use Rattle.sweep.specs.Files.{longest_path}
use Rattle.sweep.specs.Looking.{piece_most}
use Rattle.sweep.specs.Head.{head_form, AllPaired, NoHead, head_refusal}
use Rattle.sweep.specs.Swept.{Plan, listing, AllNamed, sweep_form}
use Rattle.sweep.specs.Program.{AllSwept, Complete}

-- AN INPUT HAS ONE HEAD at most: two lists of codes head it only if they are equal, and then so is what is behind the head
unfoldable pub HeadsUnique : Type 0
HeadsUnique =
    (ws vs : List (List ℕ)) (list rest : List ℕ) → AllPaired ws → AllPaired vs → head_form ws ++ list ≡ head_form vs ++ rest →
    (ws ≡ vs) × (list ≡ rest)

-- A LIST IS CUT IN ONE WAY into paths
abbrev pub paths : List Plan → List (List ℕ)
paths ps = map (λ (p : Plan). p.path) ps

unfoldable pub ListsUnique : Type 0
ListsUnique = (ps qs : List Plan) → AllNamed ps → AllNamed qs → listing ps ≡ listing qs → paths ps ≡ paths qs

-- WHAT A COMPLETE RUN ANSWERS to its whole input, which is what came and whatever may follow that. Where the input is a head and a list, codes that are
-- refused get their number; of others, the files of the list are read right, and the output is all that is printed for them. Where it has no head, 8
unfoldable pub RunsAnswer : Type 0
RunsAnswer =
    (after to : ℕ) (run : Complete after to) (rest : List ℕ) → MayFollow after rest →
    let input = run.bytes ++ rest in
    ((ws : List (List ℕ)) (list : List ℕ) → AllPaired ws → input ≡ head_form ws ++ list →
    (run.refusal ≡ head_refusal ws)
    × (head_refusal ws ≢ 0 → run.out ≡ refused_form (head_refusal ws))
    × (head_refusal ws ≡ 0 → AllSwept ws list run.out))
    × (NoHead input → run.out ≡ refused_form 8)

-- the heads whose codes are not refused are those of accepted codes
unfoldable pub HeadsAccepted : Type 0
HeadsAccepted = (ws : List (List ℕ)) → (head_refusal ws ≡ 0) ↔ (accepted ws ≡ true)

-- THE HITS in a text of accepted codes: each has the number of a code, from 1; those with a code's number are exactly the places that a search for this code
-- alone finds; and they come by rising last byte, longer codes first, so none twice
unfoldable pub HitsSeparate : Type 0
HitsSeparate =
    (ws : List (List ℕ)) (text : List ℕ) → accepted ws ≡ true →
    EveryHit (λ h. (1 ≤ h.number) × (h.number ≤ length ws)) (hits ws text)
    × ((j : ℕ) → j < length ws → (places_of (suc j) (hits ws text) ≡ places (code ws j) text))
    × Ordered ws (hits ws text)

-- so the places of a code's number rise, and i is one of them exactly when the bytes of the text from i on are the code
unfoldable pub HitsStand : Type 0
HitsStand =
    (ws : List (List ℕ)) (text : List ℕ) (j : ℕ) → accepted ws ≡ true → j < length ws →
    let ps = places_of (suc j) (hits ws text) in
    let w = code ws j in
    Rising ps × ((i : ℕ) → (member i ps ≡ true) ↔ (take (length w) (drop i text) ≡ w))

-- A SAMPLE: a head and a list of two paths, and what is printed for them, where only the first two bytes of the second file could be read; and a refusal
abbrev pub sample_codes : List (List ℕ)
sample_codes = ascii "abaab" ∷ ascii "ab" ∷ []

abbrev pub sample_plans : List Plan
sample_plans =
    record { path = ascii "first"; text = ascii "abaababaab"; whole = true } ∷ record { path = ascii "x"; text = ascii "ab"; whole = false } ∷ []

unfoldable pub SampleSwept : Type 0
SampleSwept =
    (head_form sample_codes ≡ ascii "(code abaab)\n(code ab)\n\n")
    × (head_refusal sample_codes ≡ 0)
    × (listing sample_plans ≡ ascii "first" ++ 0 ∷ ascii "x" ++ 0 ∷ [])
    × (sweep_form sample_codes sample_plans
    ≡ ascii
    "(hit 0 0 2)\n(hit 0 0 1)\n(hit 0 3 2)\n(hit 0 5 2)\n(hit 0 5 1)\n(hit 0 8 2)\n(hit 1 0 2)\n(unread 1)\n(end (files 2) (unread 1) (bytes 12) (hits 7))\n")
    × (refused_form 8 ≡ ascii "(refused 8)\n")

-- THE LIMITS, in the documents' numbers: the longest text and path, and the bytes that are read at once
unfoldable pub LimitsTold : Type 0
LimitsTold = (longest_text ≡ 4294967295) × (longest_path ≡ 4095) × (piece_most ≡ 262144)
