-- `add_codes` meets its contract. The loop keeps what the lists hold after j codes. Assumes nothing.
use mathlib.Core.Path.{refl, ap, ◌∙◌}
use Prim.Native.Nat.{ℕ}
use lib.ListN.{length, replicate, length-replicate}
use native.Mathlib.Omega.{arith}
use borrow.Author.Rules.{rules}
use Rattle.codes.specs.Refusals.{refused_if}
use Rattle.boards.specs.declared.tree.Tree.{Tree}
use Rattle.boards.proofs.Listing.{good_of}
use Rattle.boards.proofs.Added.{so_far_start, so_far_end, more_fits, more_adding, more_new, more_old}
use Rattle.boards.proofs.tree.Tree.add_codes.Goals as goal

pub loop-j-init : goal.loop-j-init
loop-j-init c =
    so_far_start c.requires.0 c.requires.1 (search rules)
    (c.fill.ensures.after (λ y e. e) ∙ ap (λ (n : ℕ). replicate n 256) (ap (λ (t : Tree). length t.next) c.requires.0 ∙ length-replicate {A = ℕ} 2001 0))

pub overflow_add-end : goal.overflow_add-end
overflow_add-end c =
    let good = good_of _ _ c.args.codes.listed in
    omega (arith, more_fits good c.loop-j.invariant (omega arith) refl, good.bytes)

pub slice_bounds-add_code-end : goal.slice_bounds-add_code-end
slice_bounds-add_code-end c = more_fits (good_of _ _ c.args.codes.listed) c.loop-j.invariant (omega arith) refl

pub add_code-requires : goal.add_code-requires
add_code-requires c = record { ws = _; adding = more_adding (good_of _ _ c.args.codes.listed) c.loop-j.invariant (omega arith) refl }

pub bounds-starts-j : goal.bounds-starts-j
bounds-starts-j c = omega (arith, (good_of _ _ c.args.codes.listed).codes)

pub returns-then-not-add_code : goal.returns-then-not-add_code
unfolding refused_if
returns-then-not-add_code c =
    let good = good_of _ _ c.args.codes.listed in
    let adding = more_adding good c.loop-j.invariant (omega arith) refl in
    let old = more_old good c.loop-j.invariant (omega arith) refl (c.add_code.ensures _ adding) c.if-not-add_code.true in
    record { refusal = rw old refl; added = tt }

pub loop-j-preserved : goal.loop-j-preserved
loop-j-preserved c =
    let good = good_of _ _ c.args.codes.listed in
    let adding = more_adding good c.loop-j.invariant (omega arith) refl in
    more_new good c.loop-j.invariant (omega arith) refl (c.add_code.ensures _ adding) c.if-not-add_code.false

pub returns : goal.returns
unfolding refused_if
returns c =
    let all = so_far_end c.loop-j.invariant (omega arith) in
    record { refusal = rw all.0 refl; added = all.1 }
