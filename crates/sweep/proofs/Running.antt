-- The whole run: the head came, and its refusal was sent or the files of the list behind it swept. Assumes nothing.
use mathlib.Core.Path.{◌≡◌, refl, sym, ap, ◌∙◌}
use mathlib.Core.Bool.{true, false, true≢false}
use mathlib.Core.List.{List, [], ◌++◌}
use mathlib.Core.Logic.{◌≢◌}
use Prim.Native.Nat.{ℕ}
use native.Mathlib.Omega.{arith}
use Rattle.std.specs.Prelude.{Result, Ok, Err, IsErr}
use Rattle.forms.specs.Text.{refused_form}
use Rattle.streams.specs.declared.NotComplete.{NotComplete}
use Rattle.streams.specs.Receipts.{Came, Sent, Told, Broken, unmoved, Moved}
use Rattle.streams.specs.Streams.{SentOrTold, SomeCame}
use Rattle.streams.proofs.Moving.{moved_none, moved_join}
use Rattle.sweep.specs.declared.list.Sweep.{Sweep}
use Rattle.sweep.specs.Head.{Headed, RightHead}
use Rattle.sweep.specs.Swept.{sent_of, IsNew}
use Rattle.sweep.specs.Program.{Sweeps, RunStopped, Ran}

-- STOPPED where nothing was sent
stopped_before : {came from to : ℕ} → SomeCame 0 came → from ≡ 0 → Broken from to → RunStopped came to
stopped_before c z b =
    record {
      some = c;
      began = false;
      unsent = λ _.
          record { via = 0; front = []; moved = moved_none Sent 0; broken = rw z at b; starts = record { rest = []; is = refl } };
      swept = λ e. absurd (true≢false (sym e));
    }

pub ran_not : {at came : ℕ} (from : ℕ) (r : Result (Unit {0}) NotComplete) → IsErr r → Told × SomeCame at came → at ≡ 0 → from ≡ 0 → Ran r came from
ran_not from (Ok x) i t a z = absurd (true≢false (sym i))
ran_not from (Err e) i t a z = (t.0, stopped_before (rw a at t.1) z (unmoved _ _ refl))

-- THE HEAD came, from where nothing had
module _ {at refusal : ℕ} {buffer : List ℕ} {mid : ℕ} (h : Headed at refusal buffer mid) (zero-came : at ≡ 0) where
  head_came : Moved Came 0 mid h.bytes
  head_came = rw zero-came at h.came

  pub ran_refused : refusal ≢ 0 → (from to : ℕ) → from ≡ 0 → (r : Result (Unit {0}) NotComplete) → SentOrTold from (refused_form refusal) r to → Ran r mid to
  ran_refused n from to z (Ok x) p =
      record {
        bytes = h.bytes;
        out = refused_form refusal;
        came = head_came;
        sent = rw z at p;
        refusal = refusal;
        refused = λ _. refl;
        wrong = h.wrong;
        codes = λ _ w. let t = h.right w in record { codes = t.codes; form = t.form; paired = t.paired; is = t.refused };
        swept = λ e. absurd (n e);
      }
  ran_refused n from to z (Err e) p = (p.0, stopped_before (record { bytes = h.bytes; came = head_came }) z p.1)

  -- not refused: the list is swept
  module _ (none : refusal ≡ 0) where
    head_right : RightHead h.bytes refusal buffer
    head_right = h.right (omega arith)

    pub ran_swept : {s t : Sweep} {after : ℕ} (r : Result (Unit {0}) NotComplete) → Sweeps buffer s mid r t after → IsNew s → Ran r after (sent_of t)
    ran_swept (Ok x) g new =
        let q = head_right in
        let l = g.sweeps q.codes (q.prepared none) new in
        record {
          bytes = h.bytes ++ l.bytes;
          out = l.out;
          came = moved_join head_came l.came;
          sent = l.sent;
          refusal = 0;
          refused = λ z. absurd (z refl);
          wrong = λ z. absurd (omega arith);
          codes = λ z. absurd (z refl);
          swept = λ _. (
            l.ended,
            record {
              codes = q.codes;
              list = l.bytes;
              form = ap (λ (bs : List ℕ). bs ++ l.bytes) q.form;
              paired = q.paired;
              accepted = sym q.refused ∙ none;
              all = l.all;
            },
          );
        }
    ran_swept (Err e) g new =
        let q = head_right in
        let t = g.sweeps q.codes (q.prepared none) new in
        let l = t.1 in (
          t.0,
          record {
            some = record { bytes = h.bytes ++ l.some.bytes; came = moved_join head_came l.some.came };
            began = true;
            unsent = λ z. absurd (true≢false z);
            swept = λ _.
                record {
                  codes = q.codes;
                  list = l.some.bytes;
                  form = ap (λ (bs : List ℕ). bs ++ l.some.bytes) q.form;
                  paired = q.paired;
                  accepted = sym q.refused ∙ none;
                  stopped = l.stopped;
                };
          },
        )
