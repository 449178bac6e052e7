-- What the program's functions promise: lines in which the cost is the ceiling. Assumes nothing: these are definitions.
use Rattle.std.specs.Prelude.{List, ◌++◌, ℕ, ◌+◌}
use Rattle.automaton.specs.Ceilings.{log2, total_ceiling}
use Rattle.forms.specs.Ascii.{ascii}
use Rattle.forms.specs.Text.{decimal, with_number}
use Rattle.reached.specs.declared.Figures.{Figures}

-- WHAT IS SHOWN of m and n: the total ceiling, or the byte ceiling, twice, once as what was counted and once as what the library answers
abbrev pub reaching : (m n ceiling : ℕ) → Figures
reaching m n c = record { m = m; n = n; cost = c; ceiling = c }

abbrev pub total_figures : (m n : ℕ) → Figures
total_figures m n = reaching m n (total_ceiling m n)

abbrev pub byte_figures : (m n : ℕ) → Figures
byte_figures m n = reaching m n (1 + log2 m)

-- the form of some figures, by what is before them
unfoldable pub figures_form : (start : List ℕ) → Figures → List ℕ
figures_form s f =
    s ++ decimal f.m ++ with_number ") (n " f.n ++ with_number ") (cost " f.cost ++ with_number ") (ceiling " f.ceiling ++ ascii "))\n"

abbrev pub total_form : (m n : ℕ) → List ℕ
total_form m n = figures_form (ascii "(total (m ") (total_figures m n)

abbrev pub byte_form : (m n : ℕ) → List ℕ
byte_form m n = figures_form (ascii "(byte (m ") (byte_figures m n)
