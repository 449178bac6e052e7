-- What is promised of the first line. Each statement is a type; docs/PROOFS.md names its proof. Assumes nothing.
use Rattle.std.specs.Prelude.{◌≡◌, true, cond, List, [], ◌∷◌, ◌++◌, ◌≢◌, ◌↔◌, ℕ, ◌+◌, ◌-◌, ◌^◌, ◌≤◌, min, eqb, length, take}
use Rattle.std.proofs.lemmas.List.Edits.{sets}
use Rattle.words.specs.Words.{Every}
use Rattle.forms.specs.declared.Line.TheVariants.{Opening, Done, Wrong}
use Rattle.forms.specs.Line.{opening, closing_bracket, line_feed, pairs, read}

-- how often a byte stands among others
unfoldable pub count : (byte : ℕ) → List ℕ → ℕ
count b [] = 0
count b (x ∷ xs) = cond (eqb x b) 1 0 + count b xs

-- BRACKETS THAT PAIR, by counting them, 40 for an opening and 41 for a closing one: up to each place no more are closed than were opened, so none of them
-- closes the one before `code`; in the whole as many, so the next one does. No more are open than 64 bits count, and no line feed (10) stands among them
pub record Balanced (code : List ℕ) : Type 0 where
  pub none_early : (i : ℕ) → count 41 (take i code) ≤ count 40 (take i code)
  pub none_left : count 40 code ≡ count 41 code
  pub none_deep : (i : ℕ) → count 40 (take i code) ≤ count 41 (take i code) + (2 ^ 64 - 1)
  pub one_line : Every (λ b. b ≢ 10) code

-- these are the codes that pair by depth
unfoldable pub PairsBalance : Type 0
PairsBalance = (code : List ℕ) → (pairs 0 code ≡ true) ↔ Balanced code

-- an input whose first line is of its form, with the code and the text behind the line
pub record OfForm (input code text : List ℕ) : Type 0 where
  pub whole : input ≡ opening ++ (code ++ closing_bracket ∷ line_feed ∷ text)
  pub paired : pairs 0 code ≡ true

-- it is read up to the text; the code's bytes are kept, as many as have room
unfoldable pub LinesRead : Type 0
LinesRead =
    (input code text kept : List ℕ) → OfForm input code text →
    read (Opening 0) kept input ≡ record { line = Done (min (length code) (length kept)); kept_bytes = sets kept 0 code; rest = text }

-- any other input is not of the form
unfoldable pub OthersRefused : Type 0
OthersRefused =
    (input kept : List ℕ) → ((code text : List ℕ) → OfForm input code text → ⊥) → (read (Opening 0) kept input).line ≡ Wrong
