-- What is promised of boards. Each statement is a type; docs/PROOFS.md names its proof. Assumes nothing.
use Rattle.std.specs.Prelude.{◌≡◌, true, false, List, [], ◌∷◌, ◌++◌, map, ◌≢◌, ◌↔◌, ℕ, suc, ◌+◌, ◌*◌, ◌/◌, ◌%◌, ◌≤◌, ◌<◌, length, take, drop}
use Rattle.words.specs.Words.{Every, in_front}
use Rattle.runs.specs.Reading.{ending_refusal}
use Rattle.automaton.specs.Costs.{sum}
use Rattle.codes.specs.Refusals.{answer_refusal, answer_value, Answer}
use Rattle.sheets.specs.Sheet as sheet
use Rattle.starts.specs.Starts.{code, known, total, state, shorter}
use Rattle.boards.specs.declared.Watch.{Watch}
use Rattle.boards.specs.Board.{cut, bytes_of, accepted, link, nearest_at, rows_below, board, named, begins}
use Rattle.boards.specs.Feed.{fit}
use Rattle.boards.specs.Entry.{prepare_refusal, prepare_answer, prepare_buffer, PrepareSays, Lent, feed_refusal, feed_call}

-- THE LAYOUT: the number of codes in one byte; the length of each in two, the high byte first; the codes; for each the number of the longest shorter code that
-- it ends with; and a row for 0 and for each byte of the codes: its failure link in two bytes, and the number of the longest code that its start ends with
unfoldable pub BoardLaid : Type 0
BoardLaid =
    (ws : List (List ℕ)) →
    (board ws
    ≡ (length ws ∷ sheet.numbers 2 (map length ws)) ++ bytes_of ws ++ map (shorter ws) ws ++ rows_below ws (suc (total ws)))
    × ((v : ℕ) → sheet.number 2 v ≡ v / 256 ∷ v % 256 ∷ [])
    × ((g : ℕ) → g ≤ total ws →
    take 3 (drop (1 + 3 * length ws + total ws + 3 * g) (board ws)) ≡ link ws g / 256 ∷ link ws g % 256 ∷ nearest_at ws g ∷ [])

-- its size; of accepted codes it is at most 8196, within the 32768 that are asked for
unfoldable pub BoardSized : Type 0
BoardSized =
    (ws : List (List ℕ)) →
    (length (board ws) ≡ 4 + 3 * length ws + 4 * total ws) × (accepted ws ≡ true → length (board ws) ≤ 8196)

-- a board tells its codes (`board` is injective): two lists of codes have one board only if they are equal
unfoldable pub BoardTells : Type 0
BoardTells = (ws vs : List (List ℕ)) (xs ys : List ℕ) → board ws ++ xs ≡ board vs ++ ys → ws ≡ vs

-- THE CODES of lengths and bytes: no length is 0; none is over 4000; there are 1 to 64 lengths, and at most 2000 bytes, which the lengths add up to; no byte is
-- below 32; and no two of the codes are equal
abbrev pub Filled : (lengths : List ℕ) → Type 0
Filled ls = Every (λ l. 1 ≤ l) ls

abbrev pub Short : (lengths : List ℕ) → Type 0
Short ls = Every (λ l. l ≤ 4000) ls

abbrev pub Boardable : (lengths bytes : List ℕ) → Type 0
Boardable ls bs = (1 ≤ length ls) × (length ls ≤ 64) × (length bs ≤ 2000) × (sum ls ≡ length bs)

abbrev pub Clean : (bytes : List ℕ) → Type 0
Clean bs = Every (λ v. 32 ≤ v) bs

abbrev pub Different : (ws : List (List ℕ)) → Type 0
Different ws = (i j : ℕ) → i < j → j < length ws → code ws i ≢ code ws j

-- the accepted lists are those of 1 to 64 different codes of at most 2000 bytes together, each of 1 to 4000 bytes, none of them below 32
unfoldable pub BoardsAccepted : Type 0
BoardsAccepted =
    (ws : List (List ℕ)) →
    (accepted ws ≡ true)
    ↔ ((1 ≤ length ws)
    × (length ws ≤ 64)
    × (total ws ≤ 2000)
    × ((j : ℕ) → j < length ws → (1 ≤ length (code ws j)) × (length (code ws j) ≤ 4000) × Clean (code ws j))
    × Different ws)

-- WHAT PREPARING REFUSES, and with which number: the first of the conditions that does not hold gives it, and 0 says that all do
unfoldable pub RefusalsTold : Type 0
RefusalsTold =
    (ls bs : List ℕ) (k : ℕ) → let n = prepare_refusal ls bs k in
    ((n ≡ 1) ↔ ¬ Filled ls)
    × ((n ≡ 2) ↔ (Filled ls × (¬ Short ls)))
    × ((n ≡ 10) ↔ (Filled ls × (Short ls × (¬ Boardable ls bs))))
    × ((n ≡ 13) ↔ (Filled ls × (Short ls × (Boardable ls bs × (¬ Clean bs)))))
    × ((n ≡ 11) ↔ (Filled ls × (Short ls × (Boardable ls bs × (Clean bs × (¬ Different (cut ls bs)))))))
    × ((n ≡ 3) ↔ (Filled ls × (Short ls × (Boardable ls bs × (Clean bs × (Different (cut ls bs) × (k < 32768)))))))
    × ((n ≡ 0) ↔ (Filled ls × (Short ls × (Boardable ls bs × (Clean bs × (Different (cut ls bs) × (32768 ≤ k)))))))

-- ACCEPTANCE: a buffer that begins with the board of some codes, whatever stands behind it, names those codes and is accepted exactly if they are. And no
-- other buffer is accepted
unfoldable pub BeginsRight : Type 0
BeginsRight =
    ((ws : List (List ℕ)) (rest : List ℕ) → (named (board ws ++ rest) ≡ ws) × (begins (board ws ++ rest) ≡ accepted ws))
    × ((bs : List ℕ) → begins bs ≡ true → (accepted (named bs) ≡ true) × (bs ≡ in_front (board (named bs)) bs))

-- preparing that is not refused leaves such a buffer, of the codes that it was given, and changes no byte behind the board
unfoldable pub PrepareMakes : Type 0
PrepareMakes =
    (ls bs a : List ℕ) → prepare_refusal ls bs (length a) ≡ 0 →
    let ws = cut ls bs in
    (accepted ws ≡ true) × (prepare_buffer ls bs a ≡ board ws ++ drop (length (board ws)) a)

-- WHAT PREPARING ANSWERS: the refusal's number, and the buffer is as it was; or the board's length, 4 + 3k + 4N. The codes are those handed over, one after the
-- other. That, and the buffer left so, is just what `prepare` promises of a call
unfoldable pub PreparingAnswers : Type 0
PreparingAnswers =
    (ls bs a : List ℕ) → let n = prepare_refusal ls bs (length a) in let r = prepare_answer ls bs (length a) in
    (answer_refusal r ≡ n)
    × (n ≡ 0 → (answer_value r ≡ 4 + 3 * length ls + 4 * length bs) × (map length (cut ls bs) ≡ ls) × (bytes_of (cut ls bs) ≡ bs))
    × (n ≢ 0 → prepare_buffer ls bs a ≡ a)
    × ((q : Answer) (b : List ℕ) → PrepareSays ls bs q a b ↔ ((q ≡ r) × (b ≡ prepare_buffer ls bs a)))

-- number 4 comes up exactly where the buffer does not begin with the board of accepted codes; of the boards of codes, exactly for those that are not accepted
unfoldable pub BoardsTold : Type 0
BoardsTold =
    (x : Watch) (l : Lent) →
    ((buffer : List ℕ) →
    (ending_refusal (feed_call buffer x l).answer.ending ≡ 4)
    ↔ ((ws : List (List ℕ)) (rest : List ℕ) → accepted ws ≡ true → buffer ≢ board ws ++ rest))
    × ((ws : List (List ℕ)) (rest : List ℕ) →
    (ending_refusal (feed_call (board ws ++ rest) x l).answer.ending ≡ 4) ↔ (accepted ws ≡ false))

-- a watch is fit for the board of some codes exactly if its state is that of one of their starts, of no more bytes than were taken, and its hits are at most 64
-- times those bytes
pub record StandsFor (ws : List (List ℕ)) (g taken : ℕ) : Type 0 where
  pub start : List ℕ
  pub known_is : known ws start ≡ true
  pub state_is : state ws start ≡ g
  pub short : length start ≤ taken

abbrev pub FitFor : (ws : List (List ℕ)) → Watch → Type 0
FitFor ws x = StandsFor ws x.state x.taken × (x.hits ≤ 64 * x.taken)

unfoldable pub WatchesFit : Type 0
WatchesFit =
    (ws : List (List ℕ)) (x : Watch) → (fit ws x ≡ true) ↔ FitFor ws x

-- WHAT FEEDING REFUSES, whatever the buffer, the watch and the lists, and with which number: the first of the conditions that does not hold gives it. A buffer
-- begins with the board of the codes that it names; the watch is fit; either list has a spot for each code; and no more than 4294967295 bytes would be taken
abbrev pub Spots : (ws : List (List ℕ)) → Lent → Type 0
Spots ws l = (length ws ≤ length l.places) × (length ws ≤ length l.numbers)

unfoldable pub FeedingRefused : Type 0
FeedingRefused =
    (bs : List ℕ) (x : Watch) (l : Lent) → let n = feed_refusal bs x l in let ws = named bs in
    ((n ≡ 4) ↔ (begins bs ≡ false))
    × ((n ≡ 5) ↔ ((begins bs ≡ true) × (¬ FitFor ws x)))
    × ((n ≡ 6) ↔ ((begins bs ≡ true) × (FitFor ws x × (¬ Spots ws l))))
    × ((n ≡ 7) ↔ ((begins bs ≡ true) × (FitFor ws x × (Spots ws l × (4294967295 < x.taken + length l.piece)))))
    × ((n ≡ 0) ↔ ((begins bs ≡ true) × (FitFor ws x × (Spots ws l × (x.taken + length l.piece ≤ 4294967295)))))
