-- Laws of refusals: each has a number, and no two have the same. Assumes nothing.
use mathlib.Core.Path.{◌≡◌, refl, sym, ap, ◌∙◌}
use mathlib.Core.Logic.{◌≢◌}
use mathlib.Core.Bool.{cond}
use Prim.Native.Nat.{ℕ}
use lib.Dec.{eqb}
use native.Mathlib.Omega.{arith}
use Rattle.runs.specs.declared.Refusal.{Refusal}
use Rattle.runs.specs.declared.Refusal.TheVariants.{EmptyCode, LongCode, ShortBuffer, NotPrepared, UnfitWatch, ShortList, LongText, WrongLine}
use Rattle.runs.specs.declared.Refusal.TheVariants.{UnfitCodes, CodeTwice, ControlByte}
use Rattle.runs.specs.Refusals.{refusal_number}

pub number_some : (r : Refusal) → refusal_number r ≢ 0
number_some EmptyCode e = absurd (omega arith)
number_some LongCode e = absurd (omega arith)
number_some ShortBuffer e = absurd (omega arith)
number_some NotPrepared e = absurd (omega arith)
number_some UnfitWatch e = absurd (omega arith)
number_some ShortList e = absurd (omega arith)
number_some LongText e = absurd (omega arith)
number_some WrongLine e = absurd (omega arith)
number_some UnfitCodes e = absurd (omega arith)
number_some CodeTwice e = absurd (omega arith)
number_some ControlByte e = absurd (omega arith)

-- the refusal of a number
numbered : ℕ → Refusal
numbered n =
    cond (eqb n 1) EmptyCode (cond (eqb n 2) LongCode (cond (eqb n 3) ShortBuffer (cond (eqb n 4) NotPrepared (cond (eqb n 5) UnfitWatch (
    cond (eqb n 6) ShortList (cond (eqb n 7) LongText (cond (eqb n 8) WrongLine (cond (eqb n 10) UnfitCodes (cond (eqb n 11) CodeTwice ControlByte)))))))))

number_back : (r : Refusal) → numbered (refusal_number r) ≡ r
unfolding numbered
number_back EmptyCode = refl
number_back LongCode = refl
number_back ShortBuffer = refl
number_back NotPrepared = refl
number_back UnfitWatch = refl
number_back ShortList = refl
number_back LongText = refl
number_back WrongLine = refl
number_back UnfitCodes = refl
number_back CodeTwice = refl
number_back ControlByte = refl

pub number_tells : (r s : Refusal) → refusal_number r ≡ refusal_number s → r ≡ s
number_tells r s e = sym (number_back r) ∙ ap numbered e ∙ number_back s
