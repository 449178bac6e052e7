-- Reading the first line: what each byte does, and that exactly the inputs of its form are read to the line's end. Assumes nothing.
use mathlib.Core.Path.{◌≡◌, refl, sym, ap, ◌∙◌}
use mathlib.Core.Bool.{Bool, true, false, ◌&&◌, cond}
use mathlib.Core.List.{List, [], ◌∷◌, ◌++◌}
use mathlib.Core.Logic.{◌≢◌, ◌⊎◌, inl, inr}
use Prim.Native.Nat.{ℕ, zero, suc, ◌+◌, ◌≤◌, ◌<◌, min, zero-le}
use native.Mathlib.Nat.{zero-add}
use native.Mathlib.Numerals.{add-one}
use native.Mathlib.Omega.{arith}
use borrow.Author.Tests.{lt-ltb, le-ltb, ltb-false, eq-eqb, ne_eqb, eqb-true}
use lib.Dec.{ltb, eqb}
use lib.ListN.{length, get_or, set, drop, length-set}
use lib.Seq.{sets, set_out, drop-cons}
use Rattle.words.proofs.Tests.{by_test, by_le, by_eq, and_left, and_right}
use Rattle.forms.specs.declared.Line.{Line}
use Rattle.forms.specs.declared.Line.TheVariants.{Opening, Code, Closed, Done, Wrong}
use Rattle.forms.specs.Line.{opening, closing_bracket, line_feed, of_code, depth_after, pairs, line_after, kept_after, goes_on, Read, read}
use Rattle.forms.specs.Promise.{OfForm, LinesRead, OthersRefused}
use Rattle.forms.proofs.Writing.{sets_out}
use Rattle.forms.proofs.Pairs.{of_code_closing}

-- so far into the code
abbrev code_at : (kept depth : ℕ) → Line
code_at n d = Code (record { kept = n; depth = d })

-- ONE BYTE of the opening
pub opening_more : (k n b : ℕ) → n < 5 → get_or opening n 0 ≡ b → line_after k (Opening n) b ≡ Opening (n + 1)
unfolding line_after
opening_more k n b h e = rw (lt-ltb n 6 (omega arith), eq-eqb (get_or opening n 0) b e, ne_eqb n 5 (λ e. omega (arith, e))) refl

pub opening_last : (k n b : ℕ) → n ≡ 5 → get_or opening n 0 ≡ b → line_after k (Opening n) b ≡ code_at 0 0
unfolding line_after
opening_last k n b h e = rw (lt-ltb n 6 (omega arith), eq-eqb (get_or opening n 0) b e, eq-eqb n 5 h) refl

pub opening_wrong : (k n b : ℕ) → get_or opening n 0 ≢ b → line_after k (Opening n) b ≡ Wrong
unfolding line_after
opening_wrong k n b h = rw (ne_eqb (get_or opening n 0) b h) (go (ltb n 6))
  where
    go : (t : Bool) → cond (t && false) (cond (eqb n 5) (code_at 0 0) (Opening (n + 1))) Wrong ≡ Wrong
    go true = refl
    go false = refl

pub opening_past : (k n b : ℕ) → 6 ≤ n → line_after k (Opening n) b ≡ Wrong
unfolding line_after
opening_past k n b h = rw (le-ltb n 6 h) refl

-- one byte of the code: kept, or without room for it; the bracket that closes it; a byte that may not stand there
abbrev After : (line : Line) → (b : ℕ) → (a : List ℕ) → (after : Line) → (kept : List ℕ) → Type 0
After l b a m c = (m ≡ line_after (length a) l b) × (c ≡ kept_after l b a)

module _ (n d b : ℕ) (a : List ℕ) where
  abbrev kept_more : ℕ
  kept_more = cond (ltb n (length a)) (n + 1) n

  code_more : of_code d b ≡ true → After (code_at n d) b a (code_at kept_more (depth_after d b)) (set a n b)
  unfolding line_after kept_after
  code_more t = rw t (refl, refl)

  pub code_kept : (e : ℕ) → of_code d b ≡ true → e ≡ depth_after d b → n < length a → After (code_at n d) b a (code_at (n + 1) e) (set a n b)
  code_kept e t g h = rw (lt-ltb n (length a) h, ← g) at (code_more t)

  pub code_full : (e : ℕ) → of_code d b ≡ true → e ≡ depth_after d b → length a ≤ n → After (code_at n d) b a (code_at n e) a
  code_full e t g h = rw (le-ltb n (length a) h, set_out a n b h, ← g) at (code_more t)

  pub code_closed : of_code d b ≡ false → b ≡ closing_bracket → After (code_at n d) b a (Closed n) a
  unfolding line_after kept_after
  code_closed t e = rw (t, eq-eqb b closing_bracket e) (refl, refl)

  pub code_wrong : of_code d b ≡ false → b ≢ closing_bracket → After (code_at n d) b a Wrong a
  unfolding line_after kept_after
  code_wrong t h = rw (t, ne_eqb b closing_bracket h) (refl, refl)

-- behind the closing bracket
pub line_done : (n b : ℕ) (a : List ℕ) → b ≡ line_feed → After (Closed n) b a (Done n) a
unfolding line_after kept_after
line_done n b a e = rw e (refl, refl)

pub line_wrong : (n b : ℕ) (a : List ℕ) → b ≢ line_feed → After (Closed n) b a Wrong a
unfolding line_after kept_after
line_wrong n b a h = rw (ne_eqb b line_feed h) (refl, refl)

-- a line that was read, or is wrong
pub line_over : (l : Line) (b : ℕ) (a : List ℕ) → ((n : ℕ) × (l ≡ Done n)) ⊎ (l ≡ Wrong) → After l b a l a
unfolding line_after kept_after
line_over l b a (inl p) = rw p.1 (refl, refl)
line_over l b a (inr e) = rw e (refl, refl)

-- READING: one byte more or the input's end, while the line goes on; a line that is read stays as it is
pub read_on : (b : ℕ) (bs a : List ℕ) (l m : Line) (c : List ℕ) → goes_on l ≡ true → After l b a m c → read l a (b ∷ bs) ≡ read m c bs
unfolding read
read_on b bs a l m c t h = rw (t, h.0, h.1) refl

pub read_end : (l : Line) (a : List ℕ) → goes_on l ≡ true → read l a [] ≡ read Wrong a []
unfolding read
read_end l a t = rw t refl

pub read_over : (l : Line) (a bs : List ℕ) → goes_on l ≡ false → read l a bs ≡ record { line = l; kept_bytes = a; rest = bs }
unfolding read
read_over l a [] t = rw t refl
read_over l a (b ∷ bs) t = rw t refl

stays_wrong : (a bs : List ℕ) → (read Wrong a bs).line ≡ Wrong
stays_wrong a bs = ap (λ (r : Read). r.line) (read_over Wrong a bs refl)

ends_wrong : (l : Line) (a : List ℕ) → goes_on l ≡ true → (read l a []).line ≡ Wrong
ends_wrong l a t = ap (λ (r : Read). r.line) (read_end l a t) ∙ stays_wrong a []

-- THE CODE and the line's end are read
abbrev read_to : (n : ℕ) → (kept text : List ℕ) → Read
read_to n a ts = record { line = Done n; kept_bytes = a; rest = ts }

code_read : (code text a : List ℕ) (n d : ℕ) → n ≤ length a → pairs d code ≡ true →
    read (code_at n d) a (code ++ closing_bracket ∷ line_feed ∷ text) ≡ read_to (min (n + length code) (length a)) (sets a n code) text
unfolding pairs
code_read [] text a n d h t =
    let none : of_code d closing_bracket ≡ false = rw (eqb-true d 0 t) (of_code_closing 0 closing_bracket refl) in
    let e : n ≡ min (n + 0) (length a) = omega arith in
    read_on closing_bracket (line_feed ∷ text) a (code_at n d) (Closed n) a refl (code_closed n d closing_bracket a none refl)
    ∙ read_on line_feed text a (Closed n) (Done n) a refl (line_done n line_feed a refl)
    ∙ read_over (Done n) a text refl
    ∙ ap (λ (k : ℕ). read_to k a text) e
code_read (b ∷ bs) text a n d h t =
    let stands : of_code d b ≡ true = and_left (of_code d b) (pairs (depth_after d b) bs) t in
    let others : pairs (depth_after d b) bs ≡ true = and_right (of_code d b) (pairs (depth_after d b) bs) t in
    by_le (length a) n
    (λ (l : length a ≤ n).
    let e : min (n + length bs) (length a) ≡ min (n + suc (length bs)) (length a) = omega arith in
    let s : sets a n bs ≡ sets (set a n b) (suc n) bs =
    sets_out a n bs l ∙ sym (ap (λ (c : List ℕ). sets c (suc n) bs) (set_out a n b l) ∙ sets_out a (suc n) bs (omega arith)) in
    read_on b (bs ++ closing_bracket ∷ line_feed ∷ text) a (code_at n d) (code_at n (depth_after d b)) a refl (code_full n d b a (depth_after d b) stands refl l)
    ∙ code_read bs text a n (depth_after d b) h others
    ∙ rw (e, s) refl)
    (λ (l : n < length a).
    let e : min ((n + 1) + length bs) (length (set a n b)) ≡ min (n + suc (length bs)) (length a) = omega (arith, length-set a n b) in
    read_on b (bs ++ closing_bracket ∷ line_feed ∷ text) a (code_at n d) (code_at (n + 1) (depth_after d b)) (set a n b) refl (code_kept n d b a (depth_after d b) stands refl l)
    ∙ code_read bs text (set a n b) (n + 1) (depth_after d b) (omega (arith, length-set a n b)) others
    ∙ rw (e, add-one n) refl)

opening_read : (a bs : List ℕ) → read (Opening 0) a (opening ++ bs) ≡ read (code_at 0 0) a bs
unfolding read line_after kept_after
opening_read a bs = refl

pub lines_read : LinesRead
unfolding LinesRead
lines_read input code text kept f =
    rw f.whole
    (opening_read kept (code ++ closing_bracket ∷ line_feed ∷ text)
    ∙ code_read code text kept 0 0 zero-le f.paired
    ∙ ap (λ (k : ℕ). read_to (min k (length kept)) (sets kept 0 code) text) (zero-add (length code)))

-- NOTHING ELSE is. CASES: a line has its line feed behind the bracket, its code, its opening and so its form, or it is read to be wrong
by_closed : {G : Type 0} (n : ℕ) (a bs : List ℕ) →
    ((text : List ℕ) → bs ≡ line_feed ∷ text → G) → ((read (Closed n) a bs).line ≡ Wrong → G) → G
by_closed n a [] f w = w (ends_wrong (Closed n) a refl)
by_closed n a (b ∷ bs) f w =
    by_eq b line_feed
    (λ (e : b ≡ line_feed). f bs (ap (λ (c : ℕ). c ∷ bs) e))
    (λ (e : b ≢ line_feed). w (ap (λ (r : Read). r.line) (read_on b bs a (Closed n) Wrong a refl (line_wrong n b a e)) ∙ stays_wrong a bs))

by_code : {G : Type 0} (n d : ℕ) (a bs : List ℕ) →
    ((code text : List ℕ) → pairs d code ≡ true → bs ≡ code ++ closing_bracket ∷ line_feed ∷ text → G) →
    ((read (code_at n d) a bs).line ≡ Wrong → G) → G
unfolding pairs
by_code n d a [] f w = w (ends_wrong (code_at n d) a refl)
by_code {G} n d a (b ∷ bs) f w =
    by_test (of_code d b)
    (λ (t : of_code d b ≡ true).
    by_code (kept_more n d b a) (depth_after d b) (set a n b) bs (λ code text g e. f (b ∷ code) text (rw t g) (ap (λ (c : List ℕ). b ∷ c) e))
    (goes (code_at (kept_more n d b a) (depth_after d b)) (set a n b) (code_more n d b a t)))
    (λ (t : of_code d b ≡ false). by_eq b closing_bracket (closes t) (λ e. goes Wrong a (code_wrong n d b a t e) (stays_wrong a bs)))
  where
    goes : (m : Line) (c : List ℕ) → After (code_at n d) b a m c → (read m c bs).line ≡ Wrong → G
    goes m c h e = w (ap (λ (r : Read). r.line) (read_on b bs a (code_at n d) m c refl h) ∙ e)

    closes : of_code d b ≡ false → b ≡ closing_bracket → G
    closes t e =
        let none : d ≤ 0 = ltb-false 0 d (sym (of_code_closing d b e) ∙ t) in
        by_closed n a bs (λ text g. f [] text (eq-eqb d 0 (omega arith)) (rw (e, g) refl)) (goes (Closed n) a (code_closed n d b a t e))

-- a byte of the opening, and what is behind it
opening_split : (n b : ℕ) (bs rest : List ℕ) → n < 6 → get_or opening n 0 ≡ b → bs ≡ drop (suc n) opening ++ rest → b ∷ bs ≡ drop n opening ++ rest
opening_split n b bs rest h e f = rw (drop-cons opening n 0 h, e, f) refl

opening_goes : (n b : ℕ) (a bs : List ℕ) (m : Line) → line_after (length a) (Opening n) b ≡ m → (read (Opening n) a (b ∷ bs)).line ≡ (read m a bs).line
unfolding kept_after
opening_goes n b a bs m e = ap (λ (r : Read). r.line) (read_on b bs a (Opening n) m a refl (sym e, refl))

opening_breaks : (n b : ℕ) (a bs : List ℕ) → get_or opening n 0 ≢ b → (read (Opening n) a (b ∷ bs)).line ≡ Wrong
opening_breaks n b a bs e = opening_goes n b a bs Wrong (opening_wrong (length a) n b e) ∙ stays_wrong a bs

by_opening : {G : Type 0} (k n : ℕ) (a bs : List ℕ) → n + suc k ≡ 6 →
    ((rest : List ℕ) → bs ≡ drop n opening ++ rest → G) → ((read (Opening n) a bs).line ≡ Wrong → G) → G
by_opening k n a [] m f w = w (ends_wrong (Opening n) a refl)
by_opening zero n a (b ∷ bs) m f w =
    let last : n ≡ 5 = omega arith in
    by_eq (get_or opening n 0) b
    (λ (e : get_or opening n 0 ≡ b). f bs (opening_split n b bs bs (omega arith) e (rw last refl)))
    (λ (e : get_or opening n 0 ≢ b). w (opening_breaks n b a bs e))
by_opening (suc k) n a (b ∷ bs) m f w =
    by_eq (get_or opening n 0) b
    (λ (e : get_or opening n 0 ≡ b).
    by_opening k (n + 1) a bs (omega arith) (λ rest g. f rest (opening_split n b bs rest (omega arith) e (rw (add-one n) at g)))
    (λ h. w (opening_goes n b a bs (Opening (n + 1)) (opening_more (length a) n b (omega arith) e) ∙ h)))
    (λ (e : get_or opening n 0 ≢ b). w (opening_breaks n b a bs e))

pub by_form : {G : Type 0} (input kept : List ℕ) →
    ((code text : List ℕ) → OfForm input code text → G) → ((read (Opening 0) kept input).line ≡ Wrong → G) → G
by_form input kept f w =
    by_opening 5 0 kept input refl
    (λ rest e.
    by_code 0 0 kept rest
    (λ code text t g. f code text (record { whole = e ∙ ap (λ (l : List ℕ). opening ++ l) g; paired = t }))
    (λ h. w (ap (λ (l : List ℕ). (read (Opening 0) kept l).line) e ∙ ap (λ (r : Read). r.line) (opening_read kept rest) ∙ h)))
    w

pub others_refused : OthersRefused
unfolding OthersRefused
others_refused input kept h = by_form input kept (λ code text f. absurd (h code text f)) (λ e. e)
