-- `read_sheet` meets its contract. Assumes nothing.
use mathlib.Core.Path.{refl, sym, ◌∙◌}
use mathlib.Core.Bool.{true, false}
use mathlib.Core.List.{List}
use Prim.Native.Nat.{ℕ, ◌+◌, ◌-◌}
use native.Mathlib.Omega.{arith}
use lib.ListN.{take, drop}
use Rattle.sheets.proofs.Entries.{err_refused, ok_passed, too_short, too_small, not_accepted, compared, code_named}
use Rattle.sheets.proofs.read_sheet.Goals as goal

-- the part of a buffer from `start` on that is tested as a code of m bytes
abbrev part : (buffer : List ℕ) → (m start : ℕ) → List ℕ
part b m s = take (s + m - s) (drop s b)

pub returns-then-buffer-lt3 : goal.returns-then-buffer-lt3
returns-then-buffer-lt3 c = sym (too_small c.args.buffer.now c.if-buffer-lt3.true)

pub overflow_add-end : goal.overflow_add-end
overflow_add-end c = omega (arith, c.named_length-m.ensures.1)

pub returns-then-buffer-end : goal.returns-then-buffer-end
returns-then-buffer-end c =
    let m = c.named_length-m in
    sym (too_short c.args.buffer.now (rw (← m.ensures.0, ← c.code_start-start.ensures.0) c.if-buffer-end.true))

pub returns-then-is_err : goal.returns-then-is_err
returns-then-is_err c =
    let b = c.args.buffer.now in
    let m = c.named_length-m in
    let s = c.code_start-start in
    sym
    (not_accepted b (part b m.result s.result) m.result s.result m.ensures.0 s.ensures.0 refl
    (λ e. err_refused _ c.if-is_err.ensures.value (c.check_code.ensures ∙ e)))

pub is_fresh-requires : goal.is_fresh-requires
is_fresh-requires c = sym c.check_code.ensures ∙ ok_passed _ c.if-is_err.ensures.value

pub returns-then-not-is_fresh : goal.returns-then-not-is_fresh
returns-then-not-is_fresh c =
    let b = c.args.buffer.now in
    let m = c.named_length-m in
    let s = c.code_start-start in
    let none = sym c.check_code.ensures ∙ ok_passed _ c.if-is_err.ensures.value in
    sym (compared b (part b m.result s.result) m.result s.result m.ensures.0 s.ensures.0 refl none false c.if-not-is_fresh.ensures)

pub returns : goal.returns
returns c =
    let b = c.args.buffer.now in
    let m = c.named_length-m in
    let s = c.code_start-start in
    let none = sym c.check_code.ensures ∙ ok_passed _ c.if-is_err.ensures.value in (
      sym (compared b (part b m.result s.result) m.result s.result m.ensures.0 s.ensures.0 refl none true c.if-not-is_fresh.ensures),
      code_named b (part b m.result s.result) m.result s.result m.ensures.0 s.ensures.0 refl,
    )
