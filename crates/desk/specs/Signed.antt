-- An answer as one signed number, as C reads it. Assumes nothing: these are definitions.
use Rattle.std.specs.Prelude.{ℤ, pos, neg_ℤ}
use Rattle.codes.specs.Refusals.{Answer, Value, Refused}

-- the value, or minus the refusal's number
unfoldable pub signed : Answer → ℤ
signed (Value v) = pos v
signed (Refused n) = neg_ℤ (pos n)
