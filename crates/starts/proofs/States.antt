-- Starts of codes: when a word is a start of one, the first code that has it, its state, the start of a state, what more codes at the end change, and what the
-- first codes tell. Assumes nothing.
use mathlib.Core.Path.{◌≡◌, refl, sym, ap, ◌∙◌}
use mathlib.Core.Bool.{true, false, ◌||◌, or-true, or_assoc}
use mathlib.Core.List.{List, [], ◌∷◌, ◌++◌}
use Prim.Native.Nat.{ℕ, zero, suc, ◌+◌, ◌-◌, ◌≤◌, ◌<◌}
use native.Mathlib.Omega.{arith}
use lib.ListN.{length, take, drop, length-take, take-append-drop}
use lib.Seq.{take-suc, get_or-take, length-take-le}
use borrow.Author.Tests.{le-leb, lt-leb, eq-eqb}
use Rattle.words.specs.Words.{byte, same}
use Rattle.words.proofs.Tests.{by_test, by_le, never_both, fails}
use Rattle.words.proofs.Lists.{same_refl, same_eq, eq_same, not_same, length_snoc, snoc_front, snoc_last}
use Rattle.starts.specs.Starts.{code, is_start, known, total, offset, state, start, is_state}

-- STARTS: u is a start of w where the first bytes of w are u
pub start_is : (u w : List ℕ) → is_start u w ≡ true → take (length u) w ≡ u
unfolding is_start
start_is u w e = same_eq (take (length u) w) u e

pub start_test : (u w : List ℕ) → take (length u) w ≡ u → is_start u w ≡ true
unfolding is_start
start_test u w e = eq_same e

pub start_fits : (u w : List ℕ) → is_start u w ≡ true → length u ≤ length w
start_fits u w e = omega (arith, length-take (length u) w, ap length (start_is u w e))

pub is_start_nil : (w : List ℕ) → is_start [] w ≡ true
is_start_nil w = start_test [] w refl

pub is_start_take : (n : ℕ) (w : List ℕ) → n ≤ length w → is_start (take n w) w ≡ true
is_start_take n w h = start_test (take n w) w (ap (λ (k : ℕ). take k w) (length-take-le n w h))

-- one byte more
module _ (u w : List ℕ) (c : ℕ) where
  module _ (e : is_start (u ++ (c ∷ [])) w ≡ true) where
    pub start_inside : length u < length w
    start_inside = omega (arith, start_fits (u ++ (c ∷ [])) w e, length_snoc u c)

    parts : take (length u) w ++ (byte w (length u) ∷ []) ≡ u ++ (c ∷ [])
    unfolding byte
    parts =
        sym (take-suc w (length u) 0 start_inside) ∙ ap (λ (k : ℕ). take k w) (sym (length_snoc u c))
        ∙ start_is (u ++ (c ∷ [])) w e

    pub start_front : is_start u w ≡ true
    start_front = start_test u w (snoc_front (take (length u) w) u (byte w (length u)) c parts)

    pub start_byte : byte w (length u) ≡ c
    start_byte = snoc_last (take (length u) w) u (byte w (length u)) c parts

  pub start_longer : is_start u w ≡ true → length u < length w → byte w (length u) ≡ c → is_start (u ++ (c ∷ [])) w ≡ true
  unfolding byte
  start_longer e h b =
      start_test (u ++ (c ∷ [])) w (rw (length_snoc u c, take-suc w (length u) 0 h, start_is u w e, b))

-- KNOWN starts: what the first code decides
known_here : (w u : List ℕ) (ws : List (List ℕ)) → is_start u w ≡ true → known (w ∷ ws) u ≡ true
unfolding known
known_here w u ws t = rw t

known_later : (w u : List ℕ) (ws : List (List ℕ)) → is_start u w ≡ false → known (w ∷ ws) u ≡ known ws u
unfolding known
known_later w u ws t = rw t

known_behind : (w u : List ℕ) (ws : List (List ℕ)) → known ws u ≡ true → known (w ∷ ws) u ≡ true
unfolding known
known_behind w u ws k = rw (k, or-true (is_start u w))

pub known_none : (u : List ℕ) → 1 ≤ length u → known [] u ≡ false
unfolding known
known_none u h = not_same u [] (λ e. absurd (omega (arith, ap length e)))

pub known_nil : (ws : List (List ℕ)) → known ws [] ≡ true
unfolding known
known_nil [] = same_refl []
known_nil (w ∷ ws) = rw (is_start_nil w)

-- a start of any code is known
pub known_at : (ws : List (List ℕ)) (u : List ℕ) (j : ℕ) → j < length ws → is_start u (code ws j) ≡ true → known ws u ≡ true
unfolding code
known_at [] u j h t = absurd (omega arith)
known_at (w ∷ ws) u zero h t = known_here w u ws t
known_at (w ∷ ws) u (suc j) h t = known_behind w u ws (known_at ws u j (omega arith) t)

pub known_code : (ws : List (List ℕ)) (j n : ℕ) → j < length ws → n ≤ length (code ws j) → known ws (take n (code ws j)) ≡ true
known_code ws j n h l = known_at ws (take n (code ws j)) j h (is_start_take n (code ws j) l)

-- THE BYTES of the codes, counted through: the first codes and one more, and a code within the whole
pub total_append : (ws vs : List (List ℕ)) → total (ws ++ vs) ≡ total ws + total vs
unfolding total
total_append [] vs = omega arith
total_append (w ∷ ws) vs = omega (arith, total_append ws vs)

pub total_more : (ws : List (List ℕ)) (w : List ℕ) → total (ws ++ (w ∷ [])) ≡ total ws + length w
unfolding total
total_more ws w = omega (arith, total_append ws (w ∷ []))

pub take_more : (ws : List (List ℕ)) (j : ℕ) → j < length ws → take (suc j) ws ≡ take j ws ++ (code ws j ∷ [])
unfolding code
take_more ws j h = take-suc ws j [] h

pub offset_zero : (ws : List (List ℕ)) → offset ws 0 ≡ 0
unfolding offset total
offset_zero ws = refl

pub offset_more : (ws : List (List ℕ)) (j : ℕ) → j < length ws → offset ws (suc j) ≡ offset ws j + length (code ws j)
unfolding offset
offset_more ws j h = ap total (take_more ws j h) ∙ total_more (take j ws) (code ws j)

pub offset_within : (ws : List (List ℕ)) (j : ℕ) → offset ws j ≤ total ws
unfolding offset
offset_within ws j = omega (arith, total_append (take j ws) (drop j ws), ap total (take-append-drop j ws))

pub offset_fits : (ws : List (List ℕ)) (j : ℕ) → j < length ws → offset ws j + length (code ws j) ≤ total ws
offset_fits ws j h = omega (arith, offset_more ws j h, offset_within ws (suc j))

pub code_take : (ws : List (List ℕ)) (i j : ℕ) → i < j → code (take j ws) i ≡ code ws i
unfolding code
code_take ws i j h = get_or-take j ws i [] h

-- THE FIRST code that has a start, and the state there
state_here : (w u : List ℕ) (ws : List (List ℕ)) → is_start u w ≡ true → state (w ∷ ws) u ≡ length u
unfolding state
state_here w u ws t = rw t

state_later : (w u : List ℕ) (ws : List (List ℕ)) → is_start u w ≡ false → state (w ∷ ws) u ≡ length w + state ws u
unfolding state
state_later w u ws t = rw t

pub record First (ws : List (List ℕ)) (u : List ℕ) : Type 0 where
  pub at : ℕ
  pub below : at < length ws
  pub has : is_start u (code ws at) ≡ true
  pub state_is : state ws u ≡ offset ws at + length u
  pub earlier : known (take at ws) u ≡ false

pub known_first : (ws : List (List ℕ)) (u : List ℕ) → known ws u ≡ true → 1 ≤ length u → First ws u
unfolding code offset total
known_first [] u k h = absurd (never_both k (known_none u h))
known_first (w ∷ ws) u k h =
    by_test (is_start u w)
    (λ t. record { at = 0; below = omega arith; has = t; state_is = omega (arith, state_here w u ws t); earlier = known_none u h })
    (λ t.
    let f = known_first ws u (sym (known_later w u ws t) ∙ k) h in
    record {
      at = suc f.at;
      below = omega (arith, f.below);
      has = f.has;
      state_is = omega (arith, state_later w u ws t, f.state_is);
      earlier = known_later w u (take f.at ws) t ∙ f.earlier;
    })

pub known_front : (ws : List (List ℕ)) (u : List ℕ) (c : ℕ) → known ws (u ++ (c ∷ [])) ≡ true → known ws u ≡ true
known_front ws u c k =
    let f = known_first ws (u ++ (c ∷ [])) k (omega (arith, length_snoc u c)) in
    known_at ws u f.at f.below (start_front u (code ws f.at) c f.has)

-- STATES: 0 for the empty start; at least the length of the start, at most all bytes
pub state_nil : (ws : List (List ℕ)) → state ws [] ≡ 0
unfolding state
state_nil [] = refl
state_nil (w ∷ ws) = rw (is_start_nil w)

pub state_some : (ws : List (List ℕ)) (u : List ℕ) → known ws u ≡ true → length u ≤ state ws u
state_some ws u k =
    by_le 1 (length u)
    (λ (h : 1 ≤ length u). omega (arith, (known_first ws u k h).state_is))
    (λ (h : length u < 1). omega arith)

pub state_within : (ws : List (List ℕ)) (u : List ℕ) → known ws u ≡ true → state ws u ≤ total ws
state_within ws [] k = omega (arith, state_nil ws)
state_within ws (c ∷ u) k =
    let f = known_first ws (c ∷ u) k (omega arith) in
    omega (arith, f.state_is, start_fits (c ∷ u) (code ws f.at) f.has, offset_fits ws f.at f.below)

-- the start that ends with byte n of code number j has that code's first n bytes; each is known, and a known start is the one of its state
start_here : (w : List ℕ) (ws : List (List ℕ)) (g : ℕ) → g ≤ length w → start (w ∷ ws) g ≡ take g w
unfolding start
start_here w ws g h = rw (le-leb g (length w) h)

start_later : (w : List ℕ) (ws : List (List ℕ)) (g : ℕ) → length w < g → start (w ∷ ws) g ≡ start ws (g - length w)
unfolding start
start_later w ws g h = rw (lt-leb g (length w) h)

pub start_nil : (ws : List (List ℕ)) → start ws 0 ≡ []
unfolding start
start_nil [] = refl
start_nil (w ∷ ws) = rw (le-leb 0 (length w) (omega arith))

pub start_at : (ws : List (List ℕ)) (j n : ℕ) → j < length ws → 1 ≤ n → n ≤ length (code ws j) →
    start ws (offset ws j + n) ≡ take n (code ws j)
unfolding code offset total
start_at [] j n h a b = absurd (omega arith)
start_at (w ∷ ws) zero n h a b = let at : 0 + n ≡ n = omega arith in ap (start (w ∷ ws)) at ∙ start_here w ws n b
start_at (w ∷ ws) (suc j) n h a b =
    let at : length w + total (take j ws) + n - length w ≡ total (take j ws) + n = omega arith in
    start_later w ws (length w + total (take j ws) + n) (omega arith)
    ∙ ap (start ws) at
    ∙ start_at ws j n (omega arith) a b

pub start_state : (ws : List (List ℕ)) (u : List ℕ) → known ws u ≡ true → start ws (state ws u) ≡ u
start_state ws [] k = ap (start ws) (state_nil ws) ∙ start_nil ws
start_state ws (c ∷ u) k =
    let f = known_first ws (c ∷ u) k (omega arith) in
    ap (start ws) f.state_is
    ∙ start_at ws f.at (length (c ∷ u)) f.below (omega arith) (start_fits (c ∷ u) (code ws f.at) f.has)
    ∙ start_is (c ∷ u) (code ws f.at) f.has

pub start_known : (ws : List (List ℕ)) (g : ℕ) → g ≤ total ws → known ws (start ws g) ≡ true
unfolding total
start_known [] g h = let at : g ≡ 0 = omega arith in rw (at, start_nil []) (known_nil [])
start_known (w ∷ ws) g h =
    by_le g (length w)
    (λ (l : g ≤ length w). rw (start_here w ws g l) (known_here w (take g w) ws (is_start_take g w l)))
    (λ (l : length w < g).
    rw (start_later w ws g l) (known_behind w (start ws (g - length w)) ws (start_known ws (g - length w) (omega arith))))

-- two starts with one state are one, and a state is the state of its start
pub state_one : (ws : List (List ℕ)) (u v : List ℕ) → known ws u ≡ true → known ws v ≡ true → state ws u ≡ state ws v → u ≡ v
state_one ws u v k l e = sym (start_state ws u k) ∙ ap (start ws) e ∙ start_state ws v l

pub state_is_state : (ws : List (List ℕ)) (u : List ℕ) → known ws u ≡ true → is_state ws (state ws u) ≡ true
unfolding is_state
state_is_state ws u k = eq-eqb (state ws (start ws (state ws u))) (state ws u) (ap (state ws) (start_state ws u k))

-- MORE CODES at the end: what was known stays known, with its state, and new starts follow
pub known_append : (ws vs : List (List ℕ)) (u : List ℕ) → known (ws ++ vs) u ≡ known ws u || known vs u
unfolding known
known_append [] vs u =
    by_test (same u []) (λ t. rw t (ap (known vs) (same_eq u [] t) ∙ known_nil vs)) (λ t. rw t)
known_append (w ∷ ws) vs u = rw (known_append ws vs u, or_assoc (is_start u w) (known ws u) (known vs u))

known_one : (w u : List ℕ) → known (w ∷ []) u ≡ is_start u w
unfolding known
known_one w u =
    by_test (is_start u w)
    (λ t. rw t)
    (λ t. rw t (not_same u [] (λ e. never_both (is_start_nil w) (rw e at t))))

pub known_more : (ws : List (List ℕ)) (w u : List ℕ) → known (ws ++ (w ∷ [])) u ≡ known ws u || is_start u w
known_more ws w u = rw (known_append ws (w ∷ []) u, known_one w u)

module _ (ws vs : List (List ℕ)) (u : List ℕ) where
  pub known_kept : known ws u ≡ true → known (ws ++ vs) u ≡ true
  known_kept k = rw (known_append ws vs u, k)

  pub known_new : known vs u ≡ true → known (ws ++ vs) u ≡ true
  known_new k = rw (known_append ws vs u, k, or-true (known ws u))

pub state_kept : (ws vs : List (List ℕ)) (u : List ℕ) → known ws u ≡ true → state (ws ++ vs) u ≡ state ws u
unfolding known
state_kept [] vs u k = rw (same_eq u [] k) (state_nil vs ∙ sym (state_nil []))
state_kept (w ∷ ws) vs u k =
    by_test (is_start u w)
    (λ t. state_here w u (ws ++ vs) t ∙ sym (state_here w u ws t))
    (λ t. rw (state_later w u (ws ++ vs) t, state_later w u ws t, state_kept ws vs u (sym (known_later w u ws t) ∙ k)))

state_behind : (ws vs : List (List ℕ)) (u : List ℕ) → known ws u ≡ false → state (ws ++ vs) u ≡ total ws + state vs u
unfolding total
state_behind [] vs u k = omega arith
state_behind (w ∷ ws) vs u k =
    by_test (is_start u w)
    (λ t. absurd (never_both (known_here w u ws t) k))
    (λ t. omega (arith, state_later w u (ws ++ vs) t, state_behind ws vs u (sym (known_later w u ws t) ∙ k)))

pub state_new : (ws : List (List ℕ)) (w u : List ℕ) → known ws u ≡ false → is_start u w ≡ true →
    state (ws ++ (w ∷ [])) u ≡ total ws + length u
state_new ws w u k t = rw (state_behind ws (w ∷ []) u k, state_here w u [] t)

-- THE FIRST j CODES: a start that they know has its state among their bytes, so one with a later state they do not know
module _ (ws : List (List ℕ)) (j : ℕ) (u : List ℕ) where
  module _ (k : known (take j ws) u ≡ true) where
    pub known_take : known ws u ≡ true
    known_take = ap (λ (l : List (List ℕ)). known l u) (sym (take-append-drop j ws)) ∙ known_kept (take j ws) (drop j ws) u k

    pub state_take : state ws u ≡ state (take j ws) u
    state_take = ap (λ (l : List (List ℕ)). state l u) (sym (take-append-drop j ws)) ∙ state_kept (take j ws) (drop j ws) u k

    pub state_shared : state ws u ≤ offset ws j
    unfolding offset
    state_shared = rw state_take (state_within (take j ws) u k)

  pub state_unshared : offset ws j < state ws u → known (take j ws) u ≡ false
  state_unshared h = fails (known (take j ws) u) (λ k. omega (arith, state_shared k))

-- a start of code number j that they do not know has its state in that code
pub state_first : (ws : List (List ℕ)) (j : ℕ) (u : List ℕ) → j < length ws → is_start u (code ws j) ≡ true →
    known (take j ws) u ≡ false → state ws u ≡ offset ws j + length u
unfolding offset
state_first ws j u h t k =
    let more = take_more ws j h in
    let new : known (take (suc j) ws) u ≡ true =
    rw more (known_new (take j ws) (code ws j ∷ []) u (known_here (code ws j) u [] t)) in
    state_take ws (suc j) u new ∙ ap (λ (l : List (List ℕ)). state l u) more ∙ state_new (take j ws) (code ws j) u k t

pub state_own : (ws : List (List ℕ)) (j n : ℕ) → j < length ws → n ≤ length (code ws j) →
    known (take j ws) (take n (code ws j)) ≡ false → state ws (take n (code ws j)) ≡ offset ws j + n
state_own ws j n h l k =
    state_first ws j (take n (code ws j)) h (is_start_take n (code ws j) l) k
    ∙ ap (λ (i : ℕ). offset ws j + i) (length-take-le n (code ws j) l)
