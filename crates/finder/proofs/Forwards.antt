-- Forward arrows followed in a row, and the byte that does not follow one. Assumes nothing.
use mathlib.Core.Path.{◌≡◌, sym, ◌∙◌}
use mathlib.Core.Logic.{◌≢◌}
use mathlib.Core.List.{List}
use Prim.Native.Nat.{ℕ, suc, ◌+◌, ◌-◌, ◌≤◌, ◌<◌, min}
use native.Mathlib.Nat.{add-zero, le_refl}
use native.Mathlib.Omega.{arith}
use lib.ListN.{length, get_or}
use Rattle.runs.specs.Reading.{longest_text}
use Rattle.automaton.specs.declared.Arrow.TheVariants.{Back, Forward, Nothing}
use Rattle.automaton.specs.declared.Step.{Step}
use Rattle.automaton.specs.Arrows.{label, arrows_below, back_arrows, step, try_forward, stepped}
use Rattle.automaton.specs.Promise.{FewArrows}
use Rattle.automaton.proofs.Targets.{label_next}
use Rattle.automaton.proofs.Counts.{below_rises}
use Rattle.automaton.proofs.FewArrows.{few_arrows}
use Rattle.automaton.proofs.Steps.{forward_on, forward_off}
use Rattle.codes.specs.Codes.{longest_code}
use Rattle.std.specs.Prelude.{Some, None}
use Rattle.finder.specs.Inside.{target_of, SoughtBy, Leads, Readable, Went}
use Rattle.finder.proofs.Comparing.{state_rise, compared_none, compared_at}
use Rattle.finder.proofs.Leading.{step_cheap, leads_none, leads_step}

-- from state p and index i: j of so many bytes followed a forward arrow. The targets of p start at one number, and those of the next state at l
pub record Forwards (w : List ℕ) (p : ℕ) (piece : List ℕ) (i start count l j : ℕ) : Type 0 where
  pub few : length w ≤ longest_code
  pub began : Readable w p piece i
  pub count_is : count ≡ min (length piece - i) (length w - p)
  pub fewer : j ≤ count
  pub l_is : l ≡ arrows_below w (p + j)
  pub on : start ≤ l
  pub leads : Leads w piece p i (p + j) (l - start + j) (i + j)

pub forwards_none : {w : List ℕ} {p : ℕ} {piece : List ℕ} {i : ℕ} → length w ≤ longest_code → Readable w p piece i → p < length w → (start count : ℕ) →
    start ≡ arrows_below w p → count ≡ min (length piece - i) (length w - p) → Forwards w p piece i start count start 0
forwards_none {w} {p} {piece} {i} few g low start count e f =
    let none : start - start + 0 ≡ 0 = omega arith in
    record {
      few = few;
      began = g;
      count_is = f;
      fewer = omega arith;
      l_is = rw (add-zero p) e;
      on = le_refl start;
      leads = rw (add-zero p, add-zero i, none) (leads_none w piece p i low (omega (arith, g.inside)));
    }

module _
    {w : List ℕ} {p : ℕ} {piece : List ℕ} {i start count l j : ℕ} (s : Forwards w p piece i start count l j) where
  below : (k : ℕ) → k ≤ suc (length w) → arrows_below w k ≤ longest_code
  unfolding FewArrows
  below k h = omega (arith, below_rises w k (suc (length w)) h, few_arrows w, s.few)

  -- what sums and calls need
  pub forwards_bounds :
      (p + j ≤ length w) × (i + j ≤ length piece) × (l ≤ longest_code) × (length w ≤ longest_code) × (length piece ≤ longest_text)
  forwards_bounds =
      let g = s.began in
      let at : p + j ≤ length w = omega (arith, s.fewer, s.count_is, g.state) in
      (at, omega (arith, s.fewer, s.count_is, g.inside), rw s.l_is (below (p + j) (omega (arith, at))), s.few, g.text)

  -- THE END
  pub forwards_end : count ≤ j → Went w piece p i (record { bytes = j; failed = l - start; arrow = Forward })
  forwards_end h =
      let b = forwards_bounds in
      record { bytes = b.1; short = omega (arith, b.0, b.3); few = omega (arith, b.2); by = (omega (arith, s.fewer, s.count_is), s.leads) }

  -- A TURN: the backward labels are compared up to a number
  module _ (h : j < count) (end : ℕ) (e : end ≡ arrows_below w (p + j + 1)) where
    abbrev c : ℕ
    c = get_or piece (i + j) 0

    low : p + j < length w
    low = omega (arith, h, s.count_is)

    inside : i + j < length piece
    inside = omega (arith, h, s.count_is)

    pub forwards_rise : (l ≤ end) × (end ≤ back_arrows w) × (end ≤ longest_code) × (p + j < length w)
    forwards_rise =
        let r = state_rise w (p + j) (omega (arith, low)) l end s.l_is e in
        (r.0, r.1, rw e (below (p + j + 1) (omega (arith, low))), low)

    -- a step behind the bytes so far
    went : (q : Step) → q ≡ stepped w (p + j) c → Leads w piece p i q.state (l - start + j + q.cost) (i + j + 1)
    went q f =
        leads_step w piece s.leads low inside q f (rw f (step_cheap w (p + j) c (omega (arith, low)) s.few))

    -- one is the byte
    pub forwards_back : (b : ℕ) → SoughtBy w l end c (Some b) → (t : ℕ) → t ≡ target_of w b →
        Went w piece p i (record { bytes = j; failed = b - start; arrow = Back t })
    forwards_back b q t f =
        let on : l ≤ b = q.0.on in
        let under : b < end = q.1 in
        let first : start ≤ l = s.on in
        let cost : l - start + j + (b - l + 1) ≡ b - start + j + 1 = omega arith in
        record {
          bytes = omega (arith, inside);
          short = omega (arith, low, s.few);
          few = omega (arith, forwards_rise.2);
          by = rw cost at (went (step t (b - l + 1) (Back t)) (sym (compared_at w (p + j) (omega (arith, low)) l end s.l_is e c b t q f)));
        }

    -- none is
    module _ (q : SoughtBy w l end c None) where
      is : stepped w (p + j) c ≡ try_forward (end - l) w (p + j) c
      is = compared_none w (p + j) (omega (arith, low)) l end s.l_is e c q

      rest : l - start + j + suc (end - l) ≡ end - start + j + 1
      rest =
          let on : l ≤ end = forwards_rise.0 in
          let first : start ≤ l = s.on in
          omega arith

      pub forwards_nothing : label w (p + j + 1) ≢ c → Went w piece p i (record { bytes = j; failed = end - start; arrow = Nothing })
      forwards_nothing n =
          record {
            bytes = omega (arith, inside);
            short = omega (arith, low, s.few);
            few = omega (arith, forwards_rise.2);
            by =
                rw rest at
                (went (step 0 (suc (end - l)) Nothing)
                (sym (is ∙ forward_off (end - l) w (p + j) c low (λ f. n (label_next w (p + j) ∙ f)))));
          }

      pub forwards_next : label w (p + j + 1) ≡ c → Forwards w p piece i start count end (j + 1)
      forwards_next f =
          let state : suc (p + j) ≡ p + (j + 1) = omega arith in
          let place : i + j + 1 ≡ i + (j + 1) = omega arith in
          let cost : end - start + j + 1 ≡ end - start + (j + 1) = omega arith in
          record {
            few = s.few;
            began = s.began;
            count_is = s.count_is;
            fewer = omega (arith, h);
            l_is = rw place_of at e;
            on = omega (arith, s.on, forwards_rise.0);
            leads =
                rw (rest, cost, state, place) at
                (went (step (suc (p + j)) (suc (end - l)) Forward)
                (sym (is ∙ forward_on (end - l) w (p + j) c low (sym (label_next w (p + j)) ∙ f))));
          }
        where
          place_of : p + j + 1 ≡ p + (j + 1)
          place_of = omega arith
