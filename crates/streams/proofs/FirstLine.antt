-- The first line: what each byte that comes makes of it, and what the loop over them keeps. Assumes nothing.
use mathlib.Core.Path.{◌≡◌, refl, sym, ap, ◌∙◌}
use mathlib.Core.Bool.{true, true≢false}
use mathlib.Core.List.{List, [], ◌∷◌, ◌++◌, append_assoc}
use mathlib.Core.Logic.{◌≢◌}
use Prim.Native.Nat.{ℕ, zero, suc, ◌≤◌}
use native.Mathlib.Omega.{arith}
use lib.ListN.{length, get_or, take}
use Rattle.forms.specs.declared.Line.{Line}
use Rattle.forms.specs.declared.Line.TheVariants.{Wrong}
use Rattle.forms.specs.Line.{line_after, kept_after, goes_on}
use Rattle.forms.proofs.Lines.{read_on, read_end}
use Rattle.streams.specs.Receipts.{Came, Moved, MayFollow}
use Rattle.streams.specs.Streams.{LineOn, LineStopped, Rises, Brought}
use Rattle.streams.proofs.Moving.{moved_none, moved_join}

-- a line that goes on is not wrong
goes_not_wrong : (l : Line) → goes_on l ≡ true → l ≢ Wrong
goes_not_wrong l g e = true≢false (sym g ∙ ap goes_on e)

-- WHERE THE LINE HAS COME TO: no byte of it was read
pub line_none : (l : Line) (a : List ℕ) (at : ℕ) → LineOn l a at l a at
line_none l a at = record { bytes = []; came = moved_none Came at; reads = λ rest f. refl }

-- a turn, with room for one byte: the input has ended, a byte came, or the read failed
pub one_byte : (k : ℕ) (b : List ℕ) → length b ≡ 1 → k ≤ length b → k ≢ 0 → take k b ≡ get_or b 0 0 ∷ []
one_byte k [] e h n = absurd (omega arith)
one_byte k (x ∷ y ∷ b) e h n = absurd (omega arith)
one_byte zero (x ∷ []) e h n = absurd (n refl)
one_byte (suc k) (x ∷ []) e h n = let z : k ≡ 0 = omega arith in rw z

module _ (l : Line) (a : List ℕ) (g : goes_on l ≡ true) {at k after : ℕ} {b : List ℕ} where
  pub line_ended : Brought 1 at k after b → k ≡ 0 → LineOn l a at Wrong a after
  unfolding MayFollow
  line_ended r z = record { bytes = []; came = rw z at r.came; reads = λ rest f. rw (f refl (r.ends (omega arith))) (read_end l a g) }

  pub line_next : (next : Line) (c : List ℕ) → Brought 1 at k after b → length b ≡ 1 → k ≢ 0 →
      next ≡ line_after (length a) l (get_or b 0 0) → c ≡ kept_after l (get_or b 0 0) a → LineOn l a at next c after × Rises (goes_on next) at after
  line_next next c r one n e f =
      let came : Moved Came at after (get_or b 0 0 ∷ []) = rw (one_byte k b one r.within n) at r.came in (
        record { bytes = get_or b 0 0 ∷ []; came = came; reads = λ rest _. read_on (get_or b 0 0) rest a l next c g (e, f) },
        λ _. (omega (arith, came.counted.exact), came.counted.fits (omega arith)),
      )

pub line_failed : (l : Line) (a : List ℕ) (at after : ℕ) → after ≡ at → LineStopped l a at a after
line_failed l a at after e = record { next = l; on = rw e (line_none l a at) }

-- TURN AFTER TURN
pub line_join : {l k n : Line} {a b c : List ℕ} {at mid after : ℕ} → goes_on k ≡ true →
    LineOn l a at k b mid → LineOn k b mid n c after → LineOn l a at n c after
line_join {k = k} g f h =
    record {
      bytes = f.bytes ++ h.bytes;
      came = moved_join f.came h.came;
      reads = λ rest p.
          rw append_assoc
          (f.reads (h.bytes ++ rest) (λ e. absurd (goes_not_wrong k g e)) ∙ h.reads rest p);
    }

pub line_stopped : {l k : Line} {a b c : List ℕ} {at mid after : ℕ} → goes_on k ≡ true →
    LineOn l a at k b mid → LineStopped k b mid c after → LineStopped l a at c after
line_stopped g f s = record { next = s.next; on = line_join g f s.on }
