-- An input has one head and a list one cut, so a complete run has one answer. Assumes nothing.
use mathlib.Core.Path.{◌≡◌, refl, sym, ap, ◌∙◌}
use mathlib.Core.Bool.{true}
use mathlib.Core.List.{List, [], ◌∷◌, ◌++◌, map, append-nil}
use mathlib.Core.Logic.{◌≢◌}
use Prim.Native.Nat.{ℕ, ◌+◌, ◌≤◌, min}
use native.Mathlib.Omega.{arith}
use borrow.Author.Tests.{eq-eqb, eqb-true}
use lib.ListN.{length, take, drop, length-append}
use lib.Seq.{sets, sets-eq, take-append_seam}
use Rattle.words.proofs.Tests.{by_eq}
use Rattle.starts.specs.Starts.{code}
use Rattle.starts.specs.Hits.{hits}
use Rattle.starts.proofs.Hits.{every_hit_map, hits_coded, hits_ordered}
use Rattle.finder.proofs.Places.{places_stand_in}
use Rattle.forms.specs.declared.Line.TheVariants.{Done}
use Rattle.forms.specs.Line.{pairs, Read}
use Rattle.forms.specs.Text.{refused_form}
use Rattle.forms.specs.Promise.{OfForm, LinesRead}
use Rattle.forms.proofs.Lines.{lines_read}
use Rattle.boards.specs.Board.{bytes_of, codes_refusal, accepted}
use Rattle.boards.specs.Promise.{BoardsAccepted}
use Rattle.boards.proofs.Accepting.{roomy, boards_accepted}
use Rattle.boards.proofs.Running.{apart}
use Rattle.streams.specs.Receipts.{MayFollow}
use Rattle.sweep.specs.Head.{code_line, code_lines, head_form, AllPaired, NoHead, head_refusal}
use Rattle.sweep.specs.Swept.{listing, NoZero, AllNamed}
use Rattle.sweep.specs.Program.{AllSwept, Complete}
use Rattle.sweep.specs.Promise.{HeadsUnique, ListsUnique, RunsAnswer, HeadsAccepted, HitsSeparate, HitsStand}
use Rattle.sweep.proofs.Lines.{of_line, same_behind, head_split}

-- THE CODE of a line: two that one input begins with are equal, as reading with room for both keeps them
kept_front : (code kept : List ℕ) → length code ≤ length kept → take (length code) (sets kept 0 code) ≡ code
kept_front code kept h = rw (sets-eq code kept 0 (omega arith)) (take-append_seam code (drop (0 + length code) kept))

same_code : (v w xs ys : List ℕ) → pairs 0 v ≡ true → pairs 0 w ≡ true → code_line v ++ xs ≡ code_line w ++ ys → v ≡ w
unfolding LinesRead
same_code v w xs ys t s e =
    let f : OfForm (code_line v ++ xs) w ys = rw e (of_line w ys s) in
    let two = sym (lines_read _ v xs (v ++ w) (of_line v xs t)) ∙ lines_read _ w ys (v ++ w) f in
    let line : Done (min (length v) (length (v ++ w))) ≡ Done (min (length w) (length (v ++ w))) = ap (λ (r : Read). r.line) two in
    let size : min (length v) (length (v ++ w)) ≡ min (length w) (length (v ++ w)) = cc in
    let same : length v ≡ length w = omega (arith, length-append v w) in
    sym (kept_front v (v ++ w) (omega (arith, length-append v w)))
    ∙ ap (λ (r : Read). take (length v) r.kept_bytes) two
    ∙ ap (λ (n : ℕ). take n (sets (v ++ w) 0 w)) same
    ∙ kept_front w (v ++ w) (omega (arith, length-append v w))

-- a code's line is not empty
line_some : (w xs ys : List ℕ) → head_form [] ++ xs ≡ code_line w ++ ys → ⊥
unfolding head_form code_lines code_line
line_some w xs ys e = let first : ◌≡◌ {A = ℕ} 10 40 = cc e in omega arith

pub heads_unique : HeadsUnique
unfolding HeadsUnique AllPaired
heads_unique [] [] list rest p q e = (refl, unfold head_form code_lines in cc e)
heads_unique [] (v ∷ vs) list rest p q e = absurd (line_some v list _ (e ∙ head_split v vs rest))
heads_unique (w ∷ ws) [] list rest p q e = absurd (line_some w rest _ (sym e ∙ head_split w ws list))
heads_unique (w ∷ ws) (v ∷ vs) list rest p q e =
    let lines : code_line w ++ (head_form ws ++ list) ≡ code_line v ++ (head_form vs ++ rest) = sym (head_split w ws list) ∙ e ∙ head_split v vs rest in
    let on = heads_unique ws vs list rest p.1 q.1 (same_behind w v _ _ p.0 q.0 lines) in
    (rw (same_code w v _ _ p.0 q.0 lines, on.0) refl, on.1)

-- A PATH ends at the first byte 0
same_path : (a b xs ys : List ℕ) → NoZero a → NoZero b → a ++ 0 ∷ xs ≡ b ++ 0 ∷ ys → (a ≡ b) × (xs ≡ ys)
same_path [] [] xs ys p q e = (refl, cc e)
same_path [] (c ∷ b) xs ys p q e = let first : c ≡ 0 = cc e in absurd (q.0 first)
same_path (c ∷ a) [] xs ys p q e = let first : c ≡ 0 = cc e in absurd (p.0 first)
same_path (c ∷ a) (d ∷ b) xs ys p q e =
    let first : c ≡ d = cc e in
    let behind : a ++ 0 ∷ xs ≡ b ++ 0 ∷ ys = cc e in
    let on = same_path a b xs ys p.1 q.1 behind in
    (rw (first, on.0) refl, on.1)

path_some : (a xs : List ℕ) → [] ≡ a ++ 0 ∷ xs → ⊥
path_some a xs e = omega (arith, ap length e, length-append a (0 ∷ xs))

pub lists_unique : ListsUnique
unfolding ListsUnique AllNamed listing
lists_unique [] [] p q e = refl
lists_unique [] (d ∷ qs) p q e = absurd (path_some d.path (listing qs) e)
lists_unique (c ∷ ps) [] p q e = absurd (path_some c.path (listing ps) (sym e))
lists_unique (c ∷ ps) (d ∷ qs) p q e =
    let on = same_path c.path d.path (listing ps) (listing qs) p.0 q.0 e in
    rw (on.0, lists_unique ps qs p.1 q.1 on.1) refl

-- A COMPLETE RUN that is not refused with 8: its whole input has a head, whose codes lead to the refusal, or the list behind it was swept
record HasHead (input out : List ℕ) (refusal : ℕ) : Type 0 where
  codes : List (List ℕ)
  list : List ℕ
  form : input ≡ head_form codes ++ list
  paired : AllPaired codes
  is : refusal ≡ head_refusal codes
  all : refusal ≡ 0 → AllSwept codes list out

module _ {after to : ℕ} (run : Complete after to) (rest : List ℕ) (f : MayFollow after rest) where
  abbrev input : List ℕ
  input = run.bytes ++ rest

  all_came : run.refusal ≡ 0 → input ≡ run.bytes
  unfolding MayFollow
  all_came z = rw (f (run.swept z).0) (append-nil run.bytes)

  has_head : run.refusal ≢ 8 → HasHead input run.out run.refusal
  has_head n =
      by_eq run.refusal 0
      (λ (z : run.refusal ≡ 0).
      let s = (run.swept z).1 in
      record { codes = s.codes; list = s.list; form = all_came z ∙ s.form; paired = s.paired; is = z ∙ sym s.accepted; all = λ _. s.all })
      (λ (h : run.refusal ≢ 0).
      let c = run.codes h n in
      record { codes = c.codes; list = rest; form = ap (λ (bs : List ℕ). bs ++ rest) c.form; paired = c.paired; is = c.is; all = λ z. absurd (h z) })

  answer_headed : (ws : List (List ℕ)) (list : List ℕ) → AllPaired ws → input ≡ head_form ws ++ list →
      (run.refusal ≡ head_refusal ws)
      × (head_refusal ws ≢ 0 → run.out ≡ refused_form (head_refusal ws))
      × (head_refusal ws ≡ 0 → AllSwept ws list run.out)
  unfolding NoHead HeadsUnique
  answer_headed ws list p e =
      by_eq run.refusal 8
      (λ (w : run.refusal ≡ 8). absurd (run.wrong w rest f ws list p e))
      (λ (n : run.refusal ≢ 8).
      let h = has_head n in
      let u = heads_unique h.codes ws h.list list h.paired p (sym h.form ∙ e) in
      let is : run.refusal ≡ head_refusal ws = rw u.0 at h.is in
      (is, λ r. rw is at (run.refused (λ z. r (sym is ∙ z))), λ z. rw (u.0, u.1) at (h.all (is ∙ z))))

  answer_headless : NoHead input → run.out ≡ refused_form 8
  unfolding NoHead
  answer_headless none =
      by_eq run.refusal 8
      (λ (w : run.refusal ≡ 8). rw w at (run.refused (λ z. omega arith)))
      (λ (n : run.refusal ≢ 8). let h = has_head n in absurd (none h.codes h.list h.paired h.form))

pub runs_answer : RunsAnswer
unfolding RunsAnswer
runs_answer after to run rest f = (answer_headed run rest f, answer_headless run rest f)

-- THE CODES of a head that is not refused: there is room for their board
pub heads_accepted : HeadsAccepted
unfolding HeadsAccepted accepted
heads_accepted ws =
    let ls : List ℕ = map length ws in
    let bs : List ℕ = bytes_of ws in
    (λ z. eq-eqb (codes_refusal ls bs) 0 (sym (roomy ls bs) ∙ z), λ t. roomy ls bs ∙ eqb-true (codes_refusal ls bs) 0 t)

-- THE HITS
pub hits_separate : HitsSeparate
unfolding HitsSeparate
hits_separate ws text good =
    (every_hit_map (hits ws text) (λ h s. (s.some, s.listed)) (hits_coded ws text), λ j h. apart ws good j h text, hits_ordered ws text)

pub hits_stand : HitsStand
unfolding HitsStand BoardsAccepted
hits_stand ws text j good h = rw (apart ws good j h text) (places_stand_in (code ws j) text (((boards_accepted ws).0 good).3 j h).0)
