-- A quoted text as bytes. Assumes nothing: this is a definition.
use mathlib.Core.List as L
use Rattle.std.specs.Prelude.{ℕ}
use Prim.Native.Char.{code}
use Prim.Native.String.{String, [], ◌∷◌}

abbrev pub ascii : String → L.List ℕ
ascii [] = L.[]
ascii (c ∷ cs) = L.◌∷◌ (code c) (ascii cs)
