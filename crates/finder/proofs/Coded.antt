-- A sheet and its code: what the readers of the sheet need and tell of it. Assumes nothing.
use mathlib.Core.Path.{◌≡◌, sym, ap, ◌∙◌}
use mathlib.Core.List.{List}
use mathlib.Core.Logic.{◌≢◌}
use Prim.Native.Nat.{ℕ, zero, suc, ◌+◌, ◌*◌, ◌≤◌, ◌<◌}
use native.Mathlib.Omega.{arith}
use lib.ListN.{length, get_or, take, drop}
use Rattle.automaton.specs.Arrows.{arrows_below, back_arrows}
use Rattle.automaton.specs.Promise.{FewArrows}
use Rattle.automaton.proofs.Counts.{below_rises}
use Rattle.automaton.proofs.FewArrows.{few_arrows}
use Rattle.codes.specs.Codes.{longest_code}
use Rattle.sheets.specs.Sheet.{number, longest_short, number_width, count_place, target_place, named}
use Rattle.sheets.proofs.Sheets.{begins_bounds, begins_count, begins_target, begins_room}
use Rattle.sheets.proofs.Widths.{short_width, wide_width, one_byte, two_bytes, short_count, wide_count, short_target, wide_target, target_rises}
use Rattle.sheets.proofs.Widths.{read_one, read_two}
use Rattle.finder.specs.Inside.{Coded, target_of}

-- THE SHEET of a code
module _ {bs w : List ℕ} (q : Coded bs w) where
  pub coded_bounds : (1 ≤ length w) × (length w ≤ longest_code)
  coded_bounds = rw q.code_is (begins_bounds bs q.on)

  pub coded_room : (target_place (length w) (back_arrows w) ≤ length bs) × (back_arrows w ≤ length w)
  unfolding FewArrows
  coded_room = rw q.code_is (begins_room bs q.on, few_arrows (named bs))

  pub few_counts : (s : ℕ) → s ≤ length w + 1 → arrows_below w s ≤ longest_code
  few_counts s l = omega (arith, coded_bounds, coded_room, below_rises w s (suc (length w)) (omega arith))

  count_there : (p : ℕ) → p ≤ length w →
      take (number_width (length w)) (drop (count_place (length w) p) bs) ≡ number (number_width (length w)) (arrows_below w (suc p))
  count_there p h = rw q.code_is (begins_count bs q.on p (omega (arith, ap length q.code_is)))

  target_there : (l : ℕ) → l < back_arrows w →
      take (number_width (length w)) (drop (target_place (length w) l) bs) ≡ number (number_width (length w)) (target_of w l)
  target_there l h = rw q.code_is (begins_target bs q.on l (rw q.code_is at h))

  -- ITS COUNTS AND TARGETS, by the bytes of a number
  module _ {width : ℕ} (width_is : width ≡ number_width (length w)) where
    -- one
    module _ (e : width ≡ 1) where
      abbrev h : length w ≤ longest_short
      h = one_byte (length w) (sym width_is ∙ e)

      pub short_count_room : (s : ℕ) → 1 ≤ s → s ≤ length w + 1 → length w + s < length bs
      short_count_room s some l =
          omega (arith, coded_room.0, short_target (length w) h 0, target_rises (length w) 0 (back_arrows w) (omega arith))

      pub short_count_is : (s r : ℕ) → 1 ≤ s → s ≤ length w + 1 → r ≡ get_or bs (length w + s) 0 → r ≡ arrows_below w s
      short_count_is zero r some l f = absurd (omega arith)
      short_count_is (suc p) r some l f =
          let at : length w + suc p ≡ count_place (length w) p = omega (arith, short_count (length w) h p) in
          f ∙ rw at (read_one bs (count_place (length w) p) (arrows_below w (suc p)) (rw (short_width (length w) h) at (count_there p (omega arith))))

      pub short_target_room : (l : ℕ) → l < back_arrows w → 2 * length w + 2 + l < length bs
      short_target_room l g = omega (arith, coded_room.0, short_target (length w) h (back_arrows w))

      pub short_target_is : (l r : ℕ) → l < back_arrows w → r ≡ get_or bs (2 * length w + 2 + l) 0 → r ≡ target_of w l
      short_target_is l r g f =
          f
          ∙ rw (← short_target (length w) h l)
          (read_one bs (target_place (length w) l) (target_of w l) (rw (short_width (length w) h) at (target_there l g)))

    -- two
    module _ (n : width ≢ 1) where
      abbrev k : longest_short < length w
      k = two_bytes (length w) (λ e. n (width_is ∙ e))

      pub wide_count_room : (s : ℕ) → 1 ≤ s → s ≤ length w + 1 → length w + 1 + 2 * s + 1 < length bs
      wide_count_room s some l =
          omega (arith, coded_room.0, wide_target (length w) k 0, target_rises (length w) 0 (back_arrows w) (omega arith))

      pub wide_count_is : (s r : ℕ) → 1 ≤ s → s ≤ length w + 1 →
          r ≡ 256 * get_or bs (length w + 1 + 2 * s) 0 + get_or bs (length w + 1 + 2 * s + 1) 0 → r ≡ arrows_below w s
      wide_count_is zero r some l f = absurd (omega arith)
      wide_count_is (suc p) r some l f =
          let at : length w + 1 + 2 * suc p ≡ count_place (length w) p = omega (arith, wide_count (length w) k p) in
          f ∙ rw at (read_two bs (count_place (length w) p) (arrows_below w (suc p)) (rw (wide_width (length w) k) at (count_there p (omega arith))))

      pub wide_target_room : (l : ℕ) → l < back_arrows w → 3 * length w + 5 + 2 * l + 1 < length bs
      wide_target_room l g = omega (arith, coded_room.0, wide_target (length w) k (back_arrows w))

      pub wide_target_is : (l r : ℕ) → l < back_arrows w →
          r ≡ 256 * get_or bs (3 * length w + 5 + 2 * l) 0 + get_or bs (3 * length w + 5 + 2 * l + 1) 0 → r ≡ target_of w l
      wide_target_is l r g f =
          f
          ∙ rw (← wide_target (length w) k l)
          (read_two bs (target_place (length w) l) (target_of w l) (rw (wide_width (length w) k) at (target_there l g)))
