-- What the program counts: the watch after a text is that of the text, and the two costs are the ceilings. Assumes nothing.
use mathlib.Core.Path.{◌≡◌, refl, sym, ap, ◌∙◌}
use mathlib.Core.List.{List, [], ◌∷◌, ◌++◌}
use Prim.Native.Nat.{ℕ, ◌+◌, ◌^◌, ◌≤◌, ◌<◌}
use native.Mathlib.Omega.{arith}
use native.Mathlib.Numerals.{add-one}
use lib.Dec.{lit≤}
use borrow.Author.Tests.{ne_eqb, le-ltb, le-leb}
use mathlib.Core.Bool.{true}
use lib.ListN.{length, take, drop, length-append}
use lib.Seq.{take-suc}
use Rattle.words.specs.Words.{byte}
use Rattle.std.specs.Prelude.{Result, Ok, Err, IsOk}
use Rattle.runs.specs.declared.Refusal.{Refusal}
use Rattle.runs.specs.declared.Feeding.{Feeding}
use Rattle.runs.specs.Reading.{ending_refusal}
use Rattle.runs.specs.Answers.{answer_of}
use Rattle.runs.specs.Calls.{Outcome, run}
use Rattle.runs.proofs.Refusals.{number_some}
use Rattle.automaton.specs.Ceilings.{log2, total_ceiling}
use Rattle.automaton.specs.Costs.{cost_after, costs, sum}
use Rattle.automaton.proofs.Costs.{costs_snoc}
use Rattle.codes.specs.Refusals.{Value, told, answered, refused_if, first_refusal}
use Rattle.codes.specs.Codes.{accepted}
use Rattle.codes.specs.Entry.{byte_answer, total_answer}
use Rattle.sheets.specs.Sheet.{sheet, named}
use Rattle.sheets.specs.Entry.{prepare_refusal, prepare_answer, prepare_buffer, PrepareSays}
use Rattle.sheets.specs.Promise.{PrepareMakes}
use Rattle.sheets.proofs.Sheets.{sheet_begins}
use Rattle.sheets.proofs.Entries.{prepare_makes}
use Rattle.finder.specs.declared.Watch.{Watch}
use Rattle.finder.specs.Feed.{opened, fit}
use Rattle.finder.specs.Texts.{watch_of}
use Rattle.finder.specs.Entry.{lent, feed_refusal, FeedSays, told_places}
use Rattle.finder.specs.Promise.{RunsGrow}
use Rattle.finder.proofs.Entries.{says_fed, runs_grow}
use Rattle.forms.specs.Ascii.{ascii}
use Rattle.forms.specs.Text.{decimal, with_number}
use Rattle.forms.proofs.Decimals.{with_number_short}
use Rattle.reached.specs.declared.Figures.{Figures}
use Rattle.reached.specs.Words.{spaced, costly_code, costly_text, steep_code, steep_text, steep_byte}
use Rattle.reached.specs.Figures.{total_figures, byte_figures, figures_form}
use Rattle.reached.proofs.TotalReached.{spaced_length, total_exact}
use Rattle.reached.proofs.ByteReached.{ruler_length, steep_length, steep_shorter, steep_begins, steep_label, byte_exact}
use Rattle.reached.proofs.Reached.{prepares, call_watch, costly_is, steep_is, total_answered, byte_answered}

-- WHAT IS TOLD AS A VALUE is answered, and so is what is told without a refusal
pub value_ok : {r : Result ℕ Refusal} {v : ℕ} → told r ≡ Value v → r ≡ Ok v
value_ok {r = Ok u} e = cc
value_ok {r = Err s} e = absurd (cc)

pub some_ok : {A : Type 0} {r : Result A Refusal} {v : A} → r ≡ Ok v → IsOk r
some_ok {r = Ok u} e = refl
some_ok {r = Err s} e = absurd (cc)

fed_ok : (x : Watch) (q : Result (Feeding Watch ℕ) Refusal) → ending_refusal (answer_of x q).ending ≡ 0 → IsOk q
fed_ok x (Ok f) e = refl
fed_ok x (Err s) e = absurd (number_some s e)

-- ONE CALL from preparing on, by the contracts of `prepare` and `feed`: it is not refused, and the watch is that of the text
module _ (w text list buffer : List ℕ) (good : accepted w ≡ true) (room : 20005 ≤ length buffer) (few : length text ≤ 10007) (places : length text < length list) where
  prepares_here : prepare_refusal w (length buffer) ≡ 0
  prepares_here = prepares w good (length buffer) room

  answers_here : prepare_answer w (length buffer) ≡ Value (length (sheet w))
  unfolding prepare_answer answered
  answers_here = rw prepares_here refl

  pub prepared : (r : Result ℕ Refusal) {after : List ℕ} → PrepareSays w (told r) buffer after → IsOk r
  prepared r p = some_ok (value_ok (p.answers ∙ answers_here))

  accepts : feed_refusal (prepare_buffer w buffer) opened (length text) (length list) ≡ 0
  unfolding feed_refusal refused_if first_refusal fit PrepareMakes
  accepts =
      let made = (prepare_makes w buffer prepares_here).1 in
      let bs : List ℕ = sheet w ++ drop (length (sheet w)) buffer in
      rw (made, sheet_begins w (drop (length (sheet w)) buffer) good, le-leb 0 (length (named bs)) (omega arith), ne_eqb (length list) 0 (λ e. omega arith), le-ltb 4294967295 (0 + length text) (omega arith)) refl

  module _ {x : Watch} (q : Result (Feeding Watch ℕ) Refusal) {after left : List ℕ} (p : after ≡ prepare_buffer w buffer) (o : x ≡ opened)
      (f : FeedSays after x (lent text list) (answer_of x q) (lent text left)) where
    says : FeedSays (prepare_buffer w buffer) opened (lent text list) (answer_of opened q) (lent text left)
    says = rw (p, o) at f

    pub feeds : IsOk q
    feeds = fed_ok opened q ((says_fed says).refusal ∙ accepts)

    watch_here : (answer_of opened q).watch ≡ watch_of w text
    unfolding RunsGrow run
    watch_here =
        sym (ap (λ (y : Outcome Watch ℕ). y.after) ((runs_grow told_places (prepare_buffer w buffer)).1 [] (lent text list) (answer_of opened q) (lent text left) says))
        ∙ call_watch w text list buffer prepares_here (omega arith) places

    pub counted : {r : Feeding Watch ℕ} → q ≡ Ok r → r.watch ≡ watch_of w text
    counted {r = r} e = sym (ap (λ (z : Result (Feeding Watch ℕ) Refusal). (answer_of opened z).watch) e) ∙ watch_here

-- ONE BYTE: the first n + 1 bytes cost as much more than the first n
module _ (w : List ℕ) (n : ℕ) where
  pub counted_more : {x y : Watch} → n < length w → x ≡ watch_of w (take n w) → y ≡ watch_of w (take (n + 1) w) →
      y.compares ≡ x.compares + cost_after w (take n w) (byte w n)
  unfolding byte
  counted_more inside e f =
      let longer : take (n + 1) w ≡ take n w ++ (byte w n ∷ []) = rw (add-one n) (take-suc w n 0 inside) in
      ap (λ (z : Watch). z.compares) f
      ∙ ap (λ (ts : List ℕ). sum (costs w ts)) longer
      ∙ costs_snoc w (take n w) (byte w n)
      ∙ ap (λ (k : ℕ). k + cost_after w (take n w) (byte w n)) (sym (ap (λ (z : Watch). z.compares) e))

-- WHAT WAS WRITTEN has the bytes that were asked for
pub costly_made : (m n k : ℕ) {w : List ℕ} → w ≡ spaced m k → k ≡ n → w ≡ spaced m n
costly_made m n k e size = e ∙ ap (spaced m) size

pub steep_made : (m k : ℕ) {w : List ℕ} → w ≡ steep_code k → k ≡ m → w ≡ steep_code m
steep_made m k e size = e ∙ ap steep_code size

-- THE TWO CEILINGS, of words that were written into what was lent
module _ (m n : ℕ) (some : 1 ≤ m) (short : m ≤ 4000) {w text : List ℕ} (code : w ≡ costly_code m) (is : text ≡ costly_text m n) where
  pub costly_good : accepted w ≡ true
  costly_good = rw code (costly_is m some short).good

  pub text_few : n ≤ 10007 → length text ≤ 10007
  text_few few = omega (arith, ap length is, spaced_length m n)

  module _ {x : Watch} (a : Result ℕ Refusal) (e : x ≡ watch_of w text) (f : told a ≡ total_answer m x.taken) where
    taken_is : x.taken ≡ n
    taken_is = ap (λ (y : Watch). y.taken) e ∙ ap length is ∙ spaced_length m n

    total_is : a ≡ Ok (total_ceiling m n)
    total_is = value_ok (f ∙ ap (total_answer m) taken_is ∙ total_answered m some short n)

    pub total_ok : IsOk a
    total_ok = some_ok total_is

    pub total_shown : {v : ℕ} → a ≡ Ok v → record { m = m; n = x.taken; cost = x.compares; ceiling = v } ≡ total_figures m n
    total_shown {v = v} g =
        let cost : x.compares ≡ total_ceiling m n = ap (λ (y : Watch). y.compares) e ∙ rw (code, is) (total_exact m some n) in
        let same : v ≡ total_ceiling m n = let h = total_is in cc in
        rw (taken_is, cost, same) refl

module _ (m n : ℕ) (some : 1 ≤ m) (short : m ≤ 4000) (power : n + 1 ≡ 2 ^ log2 m) {w : List ℕ} (code : w ≡ steep_code m) where
  size : length w ≡ m
  size = ap length code ∙ steep_length m

  text_length : n ≡ length (steep_text m)
  text_length = omega (arith, power, ruler_length (log2 m))

  pub steep_good : (accepted w ≡ true) × (n < length w) × (length w ≤ 4000)
  steep_good = (rw code (steep_is m some short).good, omega (arith, size, text_length, steep_shorter m some), omega (arith, size))

  module _ (a : Result ℕ Refusal) {cost : ℕ} (e : cost ≡ cost_after w (take n w) (byte w n)) (f : told a ≡ byte_answer w) where
    byte_is : a ≡ Ok (1 + log2 m)
    byte_is = value_ok (f ∙ ap byte_answer code ∙ byte_answered m some short)

    pub byte_ok : IsOk a
    byte_ok = some_ok byte_is

    pub steep_shown : {v : ℕ} → a ≡ Ok v → record { m = m; n = n; cost = cost; ceiling = v } ≡ byte_figures m n
    steep_shown {v = v} g =
        let text : take n w ≡ steep_text m = rw (code, text_length) (steep_begins m some (log2 m) (omega arith)) in
        let next : byte w n ≡ steep_byte m = rw (code, text_length) (steep_label m some (log2 m) (omega arith)) in
        let paid : cost ≡ 1 + log2 m = e ∙ rw (text, next, code) (byte_exact m some).0 in
        let same : v ≡ 1 + log2 m = let h = byte_is in cc in
        rw (paid, same) refl

-- A LINE has 97 bytes at most
pub figures_short : (start : List ℕ) (f : Figures) → length start ≤ 10 → f.m < 2 ^ 32 → f.n < 2 ^ 32 → f.cost < 2 ^ 64 → f.ceiling < 2 ^ 64 →
    length (figures_form start f) ≤ 97
unfolding figures_form
figures_short start f h m n c t =
    let a : List ℕ = start ++ decimal f.m in
    let b : List ℕ = with_number ") (n " f.n in
    let d : List ℕ = with_number ") (cost " f.cost in
    let e : List ℕ = with_number ") (ceiling " f.ceiling in
    omega (
      arith,
      length-append a b,
      length-append (a ++ b) d,
      length-append (a ++ b ++ d) e,
      length-append (a ++ b ++ d ++ e) (ascii "))\n"),
      with_number_short start f.m 10 (lit≤ tt) (omega arith),
      with_number_short (ascii ") (n ") f.n 10 (lit≤ tt) (omega arith),
      with_number_short (ascii ") (cost ") f.cost 20 (lit≤ tt) (omega arith),
      with_number_short (ascii ") (ceiling ") f.ceiling 20 (lit≤ tt) (omega arith),
    )
