-- Where a sweep is stopped. Assumes nothing.
use mathlib.Core.Path.{refl, sym}
use mathlib.Core.Bool.{false}
use mathlib.Core.List.{List, [], ◌++◌, append-nil}
use Prim.Native.Nat.{ℕ, suc}
use lib.ListN.{length}
use Rattle.streams.specs.Streams.{PrefixOf}
use Rattle.streams.proofs.Moving.{moved_none}
use Rattle.sweep.specs.declared.list.Sweep.{Sweep}
use Rattle.sweep.specs.Files.{Held}
use Rattle.sweep.specs.Saying.{Cut}
use Rattle.sweep.specs.Swept.{Plan, listing, AllNamed, AllRight, files_form, stopped_form, sent_of, Swept, Stopped}
use Rattle.sweep.proofs.Saying.{cut_more, said_cut}
use Rattle.sweep.proofs.Passing.{begins_more}

-- BETWEEN TWO FILES: no byte of a next one has come
abbrev no_file : Plan
no_file = record { path = []; text = []; whole = false }

pub stopped_between : {ws : List (List ℕ)} {list : List ℕ} (ps : List Plan) {sent : ℕ} → PrefixOf (listing ps) list → AllNamed ps → AllRight 1 ps →
    Cut sent (stopped_form ws ps no_file) → Stopped ws list sent
stopped_between ps f n r cut =
    record {
      plans = ps;
      next = no_file;
      listed = rw (append-nil (listing ps)) f;
      named = n;
      right = r;
      came = record { left = []; after = 0; came = moved_none (Held (suc (length ps))) 0 };
      asked = λ some. absurd (some refl);
      cut = cut;
    }

pub cut_between : (ws : List (List ℕ)) (ps : List Plan) {sent : ℕ} → Cut sent (files_form ws 0 ps) → Cut sent (stopped_form ws ps no_file)
unfolding stopped_form
cut_between ws ps c = cut_more _ _ _ c

-- whatever follows in the list
pub stopped_more : {ws : List (List ℕ)} {list : List ℕ} {sent : ℕ} (more : List ℕ) → Stopped ws list sent → Stopped ws (list ++ more) sent
stopped_more more t =
    record {
      plans = t.plans;
      next = t.next;
      listed = begins_more more t.listed;
      named = t.named;
      right = t.right;
      came = t.came;
      asked = t.asked;
      cut = t.cut;
    }

-- where nothing more is said
pub swept_stopped : {ws : List (List ℕ)} {list : List ℕ} {s : Sweep} (more : List ℕ) → Swept ws list s → Stopped ws (list ++ more) (sent_of s)
swept_stopped more v =
    stopped_between v.plans (begins_more more (record { rest = v.name; is = sym v.listed })) v.named v.right
    (cut_between _ v.plans (said_cut _ _ v.said))
