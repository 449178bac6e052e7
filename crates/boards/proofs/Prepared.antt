-- What preparing a board answers, by refusal. Assumes nothing.
use mathlib.Core.Path.{◌≡◌, refl, sym}
use mathlib.Core.Bool.{true, false}
use mathlib.Core.List.{List, [], ◌∷◌}
use mathlib.Core.Logic.{◌≢◌}
use Prim.Native.Nat.{ℕ, ◌≤◌, ◌<◌}
use native.Mathlib.Omega.{arith}
use lib.Dec.{ltb}
use lib.ListN.{length}
use borrow.Author.Tests.{ne_eqb, lt-ltb, le-ltb}
use Rattle.codes.specs.Refusals.{refused_if, first_refusal, Value, Refused}
use Rattle.codes.proofs.Refusals.{first_here, answered_value, answered_refusal}
use Rattle.starts.specs.Starts.{twice}
use Rattle.boards.specs.Board.{cut, list_refusal, codes_refusal, board, board_room}
use Rattle.boards.specs.Entry.{prepare_refusal, prepare_answer, prepare_buffer, PrepareSays}
use Rattle.boards.specs.Written.{BoardMade}
use Rattle.boards.proofs.Listing.{refuses_first, refuses_11, codes_none}

-- THE ANSWER
module _ (ls bs a : List ℕ) where
  refusing : (n : ℕ) → n ≢ 0 → prepare_refusal ls bs (length a) ≡ n → PrepareSays ls bs (Refused n) a a
  unfolding prepare_answer prepare_buffer
  refusing n h e = record { answers = rw e (sym (answered_refusal n (length (board (cut ls bs))) h)); leaves = rw (e, ne_eqb n 0 h) refl }

  by_codes : (n : ℕ) → n ≢ 0 → codes_refusal ls bs ≡ n → PrepareSays ls bs (Refused n) a a
  unfolding prepare_refusal
  by_codes n h e = refusing n h (rw e (first_here n (refused_if 3 (ltb (length a) board_room) ∷ []) h))

  pub says_listed : (n : ℕ) → n ≡ list_refusal ls bs → n ≢ 0 → PrepareSays ls bs (Refused n) a a
  says_listed n e h = by_codes n h (rw e (refuses_first ls bs (rw e at h)))

  module _ (none : list_refusal ls bs ≡ 0) where
    pub says_twice : twice (cut ls bs) ≡ true → PrepareSays ls bs (Refused 11) a a
    says_twice t = by_codes 11 (λ e. omega arith) (refuses_11 ls bs none t)

    module _ (once : twice (cut ls bs) ≡ false) where
      pub says_small : length a < board_room → PrepareSays ls bs (Refused 3) a a
      unfolding prepare_refusal first_refusal refused_if
      says_small h = refusing 3 (λ e. omega arith) (rw (codes_none ls bs none once, lt-ltb (length a) board_room h))

      module _ (room : board_room ≤ length a) where
        passes : prepare_refusal ls bs (length a) ≡ 0
        unfolding prepare_refusal first_refusal refused_if
        passes = rw (codes_none ls bs none once, le-ltb (length a) board_room room)

        pub says_prepared : (n : ℕ) (b : List ℕ) → BoardMade (cut ls bs) n a b → PrepareSays ls bs (Value n) a b
        unfolding prepare_answer prepare_buffer
        says_prepared n b m =
            record { answers = rw (passes, m.size_is) (sym (answered_value 0 (length (board (cut ls bs))) refl)); leaves = rw passes m.front }
