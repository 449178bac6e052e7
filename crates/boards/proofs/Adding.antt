-- Adding one code: the lists of the tree by whether it branches off or not, its own state, and the numbers at the states. Assumes nothing.
use mathlib.Core.Path.{◌≡◌, refl, sym, ap, ◌∙◌}
use mathlib.Core.Bool.{true, false, not, or-true}
use mathlib.Core.List.{List, [], ◌∷◌, ◌++◌}
use mathlib.Core.Logic.{◌≢◌}
use Prim.Native.Nat.{ℕ, suc, ◌+◌, ◌≤◌, ◌<◌}
use native.Mathlib.Omega.{arith}
use lib.Dec.{ltb}
use lib.ListN.{length, get_or, set, take, length-set}
use lib.Seq.{take_all, take-length, get_or-set_same, get_or-set_other}
use borrow.Author.Tests.{lt-ltb, le-ltb}
use Rattle.words.specs.Words.{byte, same}
use Rattle.words.proofs.Tests.{by_test, never_both}
use Rattle.words.proofs.Lists.{same_eq, eq_same}
use Rattle.bits.specs.Bits.{holds, WithBit}
use Rattle.starts.specs.Starts.{is_start, known, total, state, is_code, number}
use Rattle.starts.proofs.States.{start_test, known_nil, known_more, known_kept, state_within, state_one, state_kept, state_new}
use Rattle.starts.proofs.Codes.{code_known, number_code, number_none, number_new, number_other}
use Rattle.boards.specs.declared.tree.Tree.{Tree as TreeLists}
use Rattle.boards.specs.Tables.{tree, Tree, Labelled, Went, Ended, Adding, Added}
use Rattle.boards.proofs.Grown.{known_shorter, bit_none, bit_put, Grown, tree_more}

-- READY: the tree has the new code too, and `end` is its state
pub record Ready (ws : List (List ℕ)) (w : List ℕ) (t : TreeLists) (end : ℕ) : Type 0 where
  pub is_tree : Tree (ws ++ (w ∷ [])) t
  pub end_is : end ≡ state (ws ++ (w ∷ [])) w

own : (ws : List (List ℕ)) (w : List ℕ) → known (ws ++ (w ∷ [])) w ≡ true
own ws w = rw (known_more ws w w, start_test w w (take-length w)) (or-true (known ws w))

pub ready_inside : (ws : List (List ℕ)) (w : List ℕ) (t : TreeLists) (end : ℕ) → Ready ws w t end → end ≤ 2000
ready_inside ws w t end x = omega (arith, x.end_is, state_within (ws ++ (w ∷ [])) w (own ws w), x.is_tree.few)

-- THE TWO WAYS: the code was followed to its end, or it branches off
module _ (ws : List (List ℕ)) (t : TreeLists) (ends w : List ℕ) (j s : ℕ) (adding : Adding ws t ends w j s) (next : List ℕ)
    (labelled : Labelled s w t.next next) (g d : ℕ) (went : Went ws w g d) where
  label : (i : ℕ) → 1 ≤ i → i < length w → get_or next (total ws + i) 0 ≡ byte w i
  unfolding byte
  label i some h =
      let at : s + i ≡ total ws + i = omega (arith, adding.offset_is) in
      rw (← at) (labelled.inner i some h)

  labels_behind : (x : ℕ) → total ws + length w ≤ x → get_or next x 0 ≡ get_or t.next x 0
  labels_behind x h = labelled.behind x (omega (arith, h, adding.offset_is))

  labels_before : (x : ℕ) → x ≤ total ws → get_or next x 0 ≡ get_or t.next x 0
  labels_before x h = labelled.before x (omega (arith, h, adding.offset_is))

  few_bits : (xs : List ℕ) → ((x q : ℕ) → holds (get_or xs x 0) q ≡ true → q < length ws) → (x q : ℕ) → holds (get_or xs x 0) q ≡ true → q < j
  few_bits xs f x q h = omega (arith, f x q h, adding.number_is)

  -- the state where it branches off is within the lists
  pub followed_low : g ≤ 2000
  followed_low = omega (arith, went.state_is, state_within ws (take d w) went.known_is, adding.is_tree.few)

  grown_none : length w ≤ d → Grown ws w t (tree next t.forks t.keys t.heads) g d
  grown_none h =
      let no : ltb d (length w) ≡ false = le-ltb d (length w) (omega arith) in
      record {
        labels = label;
        before = labels_before;
        behind = labels_behind;
        next_long = labelled.long;
        forks = rw no (bit_none t.forks g (length ws) adding.is_tree.numbers);
        keys = rw no (bit_none t.keys (byte w d) (length ws) adding.is_tree.keyed);
        head = λ (i : d < length w). absurd (omega arith);
        heads = λ q n. refl;
        heads_long = refl;
      }

  grown_fork : (c m n : ℕ) → d < length w → c ≡ get_or w d 0 → c < 256 → WithBit (get_or t.forks g 0) j m → WithBit (get_or t.keys c 0) j n →
      Grown ws w t (tree next (set t.forks g m) (set t.keys c n) (set t.heads j (s + d + 1))) g d
  unfolding byte
  grown_fork c m n h is small fork key =
      let room = adding.is_tree.roomy in
      let yes : ltb d (length w) ≡ true = lt-ltb d (length w) (omega arith) in
      record {
        labels = label;
        before = labels_before;
        behind = labels_behind;
        next_long = labelled.long;
        forks =
            rw (yes, ← adding.number_is)
            (bit_put t.forks g j (few_bits t.forks adding.is_tree.numbers) m adding.codes_few
            (omega (arith, followed_low, room.forks_long)) fork);
        keys =
            rw (yes, ← adding.number_is, ← is)
            (bit_put t.keys c j (few_bits t.keys adding.is_tree.keyed) n adding.codes_few (omega (arith, room.keys_long)) key);
        head =
            λ i.
            let at : s + d + 1 ≡ total ws + suc d = omega (arith, adding.offset_is) in
            rw (← adding.number_is) (get_or-set_same t.heads j (s + d + 1) 0 (omega (arith, room.heads_long, adding.codes_few)) ∙ at);
        heads = λ (q : ℕ) (o : q ≢ length ws). get_or-set_other t.heads j q (s + d + 1) 0 (λ e. o (e ∙ adding.number_is));
        heads_long = length-set t.heads j (s + d + 1);
      }

  -- the code's own state
  end_old : length w ≤ d → g ≡ state (ws ++ (w ∷ [])) w
  end_old h =
      let all : take d w ≡ w = take_all d w (omega arith) in
      went.state_is ∙ ap (state ws) all ∙ sym (state_kept ws (w ∷ []) w (rw all at went.known_is))

  end_new : d < length w → s + length w ≡ state (ws ++ (w ∷ [])) w
  end_new h =
      let none : known ws w ≡ false =
      by_test (known ws w)
      (λ k. absurd (never_both (known_shorter ws w (suc d) (omega arith) k) (went.stops (omega arith))))
      (λ k. k) in
      omega (arith, state_new ws w w none (start_test w w (take-length w)), adding.offset_is)

  room_left : total ws + length w ≤ 2000
  room_left = omega (arith, adding.offset_is, adding.few)

  codes_left : length ws < 64
  codes_left = omega (arith, adding.number_is, adding.codes_few)

  pub ready_none : length w ≤ d → Ready ws w (tree next t.forks t.keys t.heads) g
  ready_none h =
      record {
        is_tree = tree_more ws w t _ g d adding.is_tree went (grown_none h) room_left codes_left;
        end_is = end_old h;
      }

  pub ready_fork : (c m n : ℕ) → d < length w → c ≡ get_or w d 0 → c < 256 → WithBit (get_or t.forks g 0) j m → WithBit (get_or t.keys c 0) j n →
      Ready ws w (tree next (set t.forks g m) (set t.keys c n) (set t.heads j (s + d + 1))) (s + length w)
  ready_fork c m n h is small fork key =
      record {
        is_tree = tree_more ws w t _ g d adding.is_tree went (grown_fork c m n h is small fork key) room_left codes_left;
        end_is = end_new h;
      }

-- only the empty word has no byte, and it is known
unknown_some : (ws : List (List ℕ)) (u : List ℕ) → known ws u ≡ false → 1 ≤ length u
unknown_some ws [] n = absurd (never_both (known_nil ws) n)
unknown_some ws (c ∷ u) n = omega arith

-- ONE MORE: the numbers of the codes before it stand at their states also among all; at a new start's state stands 0
module _ (ws : List (List ℕ)) (w : List ℕ) (ends : List ℕ) (ended : Ended ws ends) where
  ended_still : (u : List ℕ) → known (ws ++ (w ∷ [])) u ≡ true → get_or ends (state (ws ++ (w ∷ [])) u) 0 ≡ number ws u
  ended_still u k =
      by_test (known ws u)
      (λ (o : known ws u ≡ true). ap (λ (x : ℕ). get_or ends x 0) (state_kept ws (w ∷ []) u o) ∙ ended.numbers u o)
      (λ (n : known ws u ≡ false).
      let is : is_start u w ≡ true = rw (known_more ws w u, n) at k in
      let none : is_code ws u ≡ false = by_test (is_code ws u) (λ c. absurd (never_both (code_known ws u c) n)) (λ c. c) in
      ended.none (state (ws ++ (w ∷ [])) u)
      (λ v o e. absurd (omega (arith, e, state_within ws v o, state_new ws w u n is, unknown_some ws u n)))
      ∙ sym (number_none ws u none))

  module _ (t : TreeLists) (end : ℕ) (ready : Ready ws w t end) where
    here : get_or ends end 0 ≡ number ws w
    here = ap (λ (x : ℕ). get_or ends x 0) ready.end_is ∙ ended_still w (own ws w)

    -- so what stands at the code's state tells whether it is one of them
    is_new : get_or ends end 0 ≡ 0 → is_code ws w ≡ false
    is_new z = by_test (is_code ws w) (λ c. absurd (omega (arith, z, here, number_code ws w c))) (λ c. c)

    is_old : get_or ends end 0 ≢ 0 → is_code ws w ≡ true
    is_old n = by_test (is_code ws w) (λ c. c) (λ c. absurd (n (here ∙ number_none ws w c)))

    ended_more : is_code ws w ≡ false → Ended (ws ++ (w ∷ [])) (set ends end (suc (length ws)))
    ended_more new =
        let inside : end < length ends = omega (arith, ready_inside ws w t end ready, ended.long) in
        record {
          numbers =
              λ (u : List ℕ) (k : known (ws ++ (w ∷ [])) u ≡ true).
              by_test (same w u)
              (λ (e : same w u ≡ true).
              let at : w ≡ u = same_eq w u e in
              rw (← at, ← ready.end_is) (get_or-set_same ends end (suc (length ws)) 0 inside ∙ sym (number_new ws w new)))
              (λ (e : same w u ≡ false).
              let other : w ≢ u = λ q. never_both (eq_same q) e in
              get_or-set_other ends end (state (ws ++ (w ∷ [])) u) (suc (length ws)) 0
              (λ q. other (sym (state_one (ws ++ (w ∷ [])) u w k (own ws w) (q ∙ ready.end_is))))
              ∙ ended_still u k
              ∙ sym (number_other ws w u other));
          none =
              λ (g : ℕ) (f : (u : List ℕ) → known (ws ++ (w ∷ [])) u ≡ true → state (ws ++ (w ∷ [])) u ≢ g).
              get_or-set_other ends end g (suc (length ws)) 0 (λ e. f w (own ws w) (sym (e ∙ ready.end_is)))
              ∙ ended.none g (λ u k e. f u (known_kept ws (w ∷ []) u k) (state_kept ws (w ∷ []) u k ∙ e));
          long = omega (arith, ended.long, length-set ends end (suc (length ws)));
        }

    pub added_new : (j : ℕ) → j ≡ length ws → get_or ends end 0 ≡ 0 → Added ws w t (set ends end (j + 1)) true
    added_new j at z =
        let next : j + 1 ≡ suc (length ws) = omega arith in
        record {
          new = sym (ap not (is_new z));
          is_tree = λ e. ready.is_tree;
          ended = λ e. rw next (ended_more (is_new z));
        }

    pub added_old : get_or ends end 0 ≢ 0 → Added ws w t ends false
    added_old n =
        record { new = sym (ap not (is_old n)); is_tree = λ e. absurd (never_both e refl); ended = λ e. absurd (never_both e refl) }
