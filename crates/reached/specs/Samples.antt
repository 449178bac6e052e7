-- The words that cost most, small ones, and what they cost, worked out by hand as one table. Assumes nothing: these are definitions.
use Rattle.std.specs.Prelude.{List, [], ◌∷◌, ◌++◌, ℕ, ◌+◌}
use Prim.Native.String.{String}
use Rattle.automaton.specs.Ceilings.{log2, byte_ceiling, total_ceiling}
use Rattle.automaton.specs.Costs.{costs, sum}
use Rattle.automaton.specs.Samples.{Sample, Agree, A, B}
use Rattle.forms.specs.Ascii.{ascii}
use Rattle.reached.specs.declared.Figures.{Figures}
use Rattle.reached.specs.Words.{costly_code, costly_text, steep_code, steep_text, steep_byte}
use Rattle.reached.specs.Figures.{figures_form}

-- of m and n: the code, the text, the costs of its bytes; their sum and the total ceiling, which are the same
unfoldable pub together : (m n : ℕ) → (code text each : List ℕ) → (total : ℕ) → Sample
together m n w ts ks c =
    record {
      found =
          costly_code m ∷ costly_text m n ∷ costs (costly_code m) (costly_text m n)
          ∷ (sum (costs (costly_code m) (costly_text m n)) ∷ total_ceiling m n ∷ []) ∷ [];
      expected = w ∷ ts ∷ ks ∷ (c ∷ c ∷ []) ∷ [];
    }

-- of m: the code; the text and the next byte, and their costs; 1 + log2 m and the byte ceiling, which are the same
unfoldable pub alone : (m : ℕ) → (code text each : List ℕ) → (ceiling : ℕ) → Sample
alone m w ts ks c =
    let us = steep_text m ++ (steep_byte m ∷ []) in
    record {
      found = steep_code m ∷ us ∷ costs (steep_code m) us ∷ ((1 + log2 m) ∷ byte_ceiling (steep_code m) ∷ []) ∷ [];
      expected = w ∷ ts ∷ ks ∷ (c ∷ c ∷ []) ∷ [];
    }

-- the form of some figures
unfoldable pub showing : Figures → (form : String) → Sample
showing f s = record { found = figures_form (ascii "(total (m ") f ∷ []; expected = ascii s ∷ [] }

-- THE TABLE
unfoldable pub reached_samples : List Sample
reached_samples =
    together 1 4 (A ∷ []) (A ∷ A ∷ A ∷ A ∷ []) (1 ∷ 1 ∷ 1 ∷ 1 ∷ []) 4
    ∷ together 2 3 (A ∷ B ∷ []) (A ∷ B ∷ A ∷ []) (1 ∷ 2 ∷ 1 ∷ []) 4
    ∷ together 3 8 (A ∷ B ∷ B ∷ []) (A ∷ B ∷ B ∷ A ∷ B ∷ B ∷ A ∷ B ∷ []) (1 ∷ 2 ∷ 2 ∷ 1 ∷ 2 ∷ 2 ∷ 1 ∷ 2 ∷ []) 13
    ∷ alone 1 (32 ∷ []) (32 ∷ []) (1 ∷ []) 1
    ∷ alone 2 (32 ∷ 33 ∷ []) (32 ∷ 33 ∷ []) (1 ∷ 2 ∷ []) 2
    ∷ alone 6 (32 ∷ 33 ∷ 32 ∷ 34 ∷ 32 ∷ 33 ∷ []) (32 ∷ 33 ∷ 32 ∷ 34 ∷ []) (1 ∷ 2 ∷ 1 ∷ 3 ∷ []) 3
    ∷ showing (record { m = 1; n = 20; cost = 30; ceiling = 4 }) "(total (m 1) (n 20) (cost 30) (ceiling 4))\n"
    ∷ []

-- all its rows agree
unfoldable pub ReachedSamplesHold : Type 0
ReachedSamplesHold = Agree reached_samples
