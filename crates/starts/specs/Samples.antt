-- Four codes worked out by hand, those of Aho and Corasick's paper: he, she, hers and his. Their bytes are counted through from 1 to 12; the text is ushers.
-- Assumes nothing: these are definitions.
use Rattle.std.specs.Prelude.{◌≡◌, List, [], ◌∷◌, ℕ}
use Rattle.starts.specs.Starts.{state, fallback}
use Rattle.starts.specs.Hits.{hit, hits}

-- the letters
abbrev E : ℕ
E = 101

abbrev H : ℕ
H = 104

abbrev I : ℕ
I = 105

abbrev R : ℕ
R = 114

abbrev S : ℕ
S = 115

abbrev U : ℕ
U = 117

abbrev he : List ℕ
he = H ∷ E ∷ []

abbrev she : List ℕ
she = S ∷ he

abbrev hers : List ℕ
hers = H ∷ E ∷ R ∷ S ∷ []

abbrev his : List ℕ
his = H ∷ I ∷ S ∷ []

abbrev four : List (List ℕ)
four = he ∷ she ∷ hers ∷ his ∷ []

-- the states of their starts, each counted in the first code that has it; a failure link; and the hits: she at 1, he and hers at 2
unfoldable pub CodeSamplesHold : Type 0
CodeSamplesHold =
    (state four (H ∷ []) ≡ 1)
    × (state four he ≡ 2)
    × (state four (S ∷ []) ≡ 3)
    × (state four (S ∷ H ∷ []) ≡ 4)
    × (state four she ≡ 5)
    × (state four (H ∷ E ∷ R ∷ []) ≡ 8)
    × (state four hers ≡ 9)
    × (state four (H ∷ I ∷ []) ≡ 11)
    × (state four his ≡ 12)
    × (fallback four she ≡ he)
    × (hits four (U ∷ S ∷ H ∷ E ∷ R ∷ S ∷ []) ≡ hit 1 2 ∷ hit 2 1 ∷ hit 2 3 ∷ [])
