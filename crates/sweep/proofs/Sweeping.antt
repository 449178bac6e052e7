-- The sweep, byte by byte of the list: the file of a path that has ended, a byte of a path, and one behind another. Assumes nothing.
use mathlib.Core.Path.{◌≡◌, sym, ap, ◌∙◌}
use mathlib.Core.Bool.{Bool, false, cond, true≢false}
use mathlib.Core.List.{List, [], ◌∷◌, ◌++◌, append-nil, append_assoc}
use mathlib.Core.Logic.{◌≢◌}
use Prim.Native.Nat.{ℕ, suc, ◌+◌, ◌≤◌, ◌<◌}
use native.Mathlib.Numerals.{add-one}
use native.Mathlib.Omega.{arith}
use lib.ListN.{length, take, drop, get_or, take-append-drop}
use lib.Seq.{take_all, take-suc}
use Rattle.std.specs.Prelude.{Result, Ok, Err, IsErr}
use Rattle.boards.specs.declared.Watch.{Watch}
use Rattle.boards.specs.Feed.{opened}
use Rattle.forms.specs.Text.{Put}
use Rattle.streams.specs.declared.NotComplete.{NotComplete}
use Rattle.streams.specs.Receipts.{Told}
use Rattle.streams.specs.Streams.{DoneOrTold}
use Rattle.sweep.specs.declared.counts.Counts.{Counts}
use Rattle.sweep.specs.declared.look.End.{End}
use Rattle.sweep.specs.declared.look.Reader.{Reader}
use Rattle.sweep.specs.declared.says.Printer.{Printer}
use Rattle.sweep.specs.declared.list.Sweep.{Sweep}
use Rattle.sweep.specs.Forms.{hit_forms, unread_form}
use Rattle.sweep.specs.Files.{longest_path}
use Rattle.sweep.specs.Disk.{openings}
use Rattle.sweep.specs.Saying.{Said, Cut, Says}
use Rattle.sweep.specs.Looking.{OnBoard, PathLooked}
use Rattle.sweep.specs.Swept.{Plan, listing, AllNamed, AllRight, files_form, stopped_form}
use Rattle.sweep.specs.Swept.{sent_of, is_whole, Swept, Passed, Stopped, ListedOn}
use Rattle.sweep.proofs.Keeping.{kept_on}
use Rattle.sweep.proofs.Saying.{says_join, cut_more, said_cut}
use Rattle.sweep.proofs.Plans.{plan_of, plan_came, plan_asked, plan_right, plan_form, goes_told, goes_taken, goes_hits}
use Rattle.sweep.proofs.Stopping.{stopped_between, cut_between, stopped_more, swept_stopped}
use Rattle.sweep.proofs.Passing.{every_more, listing_more, named_more, right_more, begins_more}
use Rattle.sweep.proofs.Passing.{files_more, unread_more, bytes_more, hits_more, forms_more}

-- A FILE IS PASSED: it cannot be counted or said
pub passed_not : {c d : Counts} {file : ℕ} {watch : Watch} {end : End} {p : Printer} (r : Result (Unit {0}) NotComplete) → IsErr r → Told → d.files ≡ c.files →
    Passed c file watch end p r d p
passed_not (Ok x) i t e = absurd (true≢false (sym i))
passed_not {p = p} (Err x) i t e =
    record { files = e; counted = tt; says = record { says = λ all s. (t, cut_more p.output all _ (said_cut p all s)) } }

-- A FILE that was looked at; `c` is what is counted with it
module _ {buffer : List ℕ} {s : Sweep} {y : Watch} {u : Reader} where
  module _ {ws : List (List ℕ)} (on : OnBoard ws buffer) {list : List ℕ} (v : Swept ws list s) {l : Result End NotComplete}
      (p : PathLooked buffer s.counts.files opened s.name s.reader l y u) where
    module _ (whole : Bool) where
      abbrev plan : Plan
      plan = plan_of v.name whole p

      abbrev plans : List Plan
      plans = v.plans ++ (plan ∷ [])

      opening : openings u.disk ≡ 1 + length v.plans
      opening = omega (arith, p.next, s.opened, v.files_are)

      forms : files_form ws 0 plans ≡ files_form ws 0 v.plans ++ (hit_forms s.counts.files p.told ++ cond whole [] (unread_form s.counts.files))
      forms =
          let file : 0 + length v.plans ≡ s.counts.files = omega (arith, v.files_are) in
          rw (file, plan_form on v.name v.kept whole p) at (forms_more ws 0 v.plans plan)

      named : AllNamed plans
      named = named_more v.plans plan v.named v.clean

      list_is : listing plans ≡ list ++ (0 ∷ [])
      list_is = rw (listing_more v.plans plan, ← append_assoc (listing v.plans) v.name (0 ∷ []), v.listed)

    -- the look did not come to its end: some bytes of the file are searched
    stopped_within : {to : ℕ} → Cut to (files_form ws 0 v.plans ++ hit_forms s.counts.files p.told) → Stopped ws (list ++ (0 ∷ [])) to
    unfolding stopped_form
    stopped_within cut =
        let number : openings u.disk ≡ suc (length v.plans) = omega (arith, opening false) in
        record {
          plans = v.plans;
          next = plan false;
          listed = begins_more (0 ∷ []) (record { rest = []; is = sym (append-nil (listing v.plans ++ v.name) ∙ v.listed) });
          named = v.named;
          right = v.right;
          came = rw number at (plan_came on v.name v.kept false p);
          asked = λ _. rw number at (plan_asked on v.name v.kept false p);
          cut = rw (v.files_are, goes_told on p.goes) at cut;
        }

  -- stopped in the look
  pub path_stopped : {t : Sweep} {e : NotComplete} (r : Result (Unit {0}) NotComplete) → IsErr r → PathLooked buffer s.counts.files opened s.name s.reader (Err e) y u →
      sent_of t ≡ u.printer.output → ListedOn buffer (0 ∷ []) s r t
  path_stopped (Ok x) i p z = absurd (true≢false (sym i))
  path_stopped (Err x) i p z =
      record {
        lists = λ ws list on v. let f = p.says.says (files_form ws 0 v.plans) v.said in (f.0, rw z (stopped_within on v p f.1));
      }

  -- the look came to its end: the file is read right, and passed
  module _ {end : End} (p : PathLooked buffer s.counts.files opened s.name s.reader (Ok end) y u) where
    module _ {ws : List (List ℕ)} (on : OnBoard ws buffer) {list : List ℕ} (v : Swept ws list s) where
      abbrev all : List Plan
      all = plans on v p (is_whole end)

      right : AllRight 1 all
      right = right_more 1 v.plans (plan on v p (is_whole end)) v.right (rw (opening on v p (is_whole end)) at (plan_right on v.name v.kept end p))

      file_said : {r : Result (Unit {0}) NotComplete} {q : Printer} → Says u.printer (cond (is_whole end) [] (unread_form s.counts.files)) r q →
          DoneOrTold r (λ _. Said q (files_form ws 0 all)) (Cut q.output (files_form ws 0 all))
      file_said f = rw (forms on v p (is_whole end)) ((says_join p.says f).says (files_form ws 0 v.plans) v.said)

    pub path_passed : {t : Sweep} {c : Counts} → c.files ≡ suc s.counts.files → c.unread ≡ s.counts.unread → c.bytes ≡ s.counts.bytes → c.hits ≡ s.counts.hits →
        (r : Result (Unit {0}) NotComplete) → t.name ≡ [] → Passed c s.counts.files y end u.printer r t.counts t.reader.printer → ListedOn buffer (0 ∷ []) s r t
    path_passed files unread bytes hits (Ok x) z q =
        record {
          lists = λ ws list on v.
              let w : Bool = is_whole end in
              let f : Plan = plan on v p w in
              let n = q.counted in
              record {
                plans = all on v;
                name = [];
                listed = append-nil (listing (all on v)) ∙ list_is on v p w;
                named = named on v p w;
                clean = tt;
                kept = z;
                right = right on v;
                files_are = omega (arith, q.files, files, v.files_are, files_more v.plans f);
                unread_are = omega (arith, n.0, unread, v.unread_are, unread_more v.plans f);
                bytes_are = omega (arith, n.1, bytes, v.bytes_are, bytes_more v.plans f, goes_taken on p.goes);
                hits_are = omega (arith, n.2, hits, v.hits_are, hits_more ws v.plans f, goes_hits on p.goes);
                said = file_said on v q.says;
              };
        }
    path_passed files unread bytes hits (Err x) z q =
        record {
          lists = λ ws list on v.
              let w : Bool = is_whole end in
              let ps : List Plan = all on v in
              let f = file_said on v q.says in (
                f.0,
                stopped_between ps (record { rest = []; is = sym (append-nil (listing ps) ∙ list_is on v p w) }) (named on v p w) (right on v)
                    (cut_between ws ps f.1),
              );
        }

-- A BYTE of a path
pub byte_listed : {s t : Sweep} {c : ℕ} (buffer : List ℕ) → c ≢ 0 → Put (c ∷ []) (suc longest_path) s.name t.name → t.counts ≡ s.counts → t.reader ≡ s.reader →
    ListedOn buffer (c ∷ []) s (Ok (tt {0})) t
byte_listed {s} {t} {c} buffer z k counts reader =
    let files : t.counts.files ≡ s.counts.files = ap (λ (n : Counts). n.files) counts in
    let unread : t.counts.unread ≡ s.counts.unread = ap (λ (n : Counts). n.unread) counts in
    let bytes : t.counts.bytes ≡ s.counts.bytes = ap (λ (n : Counts). n.bytes) counts in
    let hits : t.counts.hits ≡ s.counts.hits = ap (λ (n : Counts). n.hits) counts in
    let printer : t.reader.printer ≡ s.reader.printer = ap (λ (r : Reader). r.printer) reader in
    record {
      lists = λ ws list on v.
          record {
            plans = v.plans;
            name = v.name ++ (c ∷ []);
            listed = rw (← append_assoc (listing v.plans) v.name (c ∷ []), v.listed);
            named = v.named;
            clean = every_more (λ x. x ≢ 0) v.name c v.clean z;
            kept = kept_on (suc longest_path) v.name v.kept k;
            right = v.right;
            files_are = files ∙ v.files_are;
            unread_are = unread ∙ v.unread_are;
            bytes_are = bytes ∙ v.bytes_are;
            hits_are = hits ∙ v.hits_are;
            said = rw printer v.said;
          };
    }

-- STOPPED, and then whatever bytes there were
pub stopped_listed : (buffer bytes : List ℕ) (s : Sweep) (r : Result (Unit {0}) NotComplete) → IsErr r → Told → ListedOn buffer bytes s r s
stopped_listed buffer bytes s (Ok x) i t = absurd (true≢false (sym i))
stopped_listed buffer bytes s (Err x) i t = record { lists = λ ws list on v. (t, swept_stopped bytes v) }

-- NO BYTES, some behind others, and some that are left
pub none_listed : (buffer : List ℕ) (s : Sweep) → ListedOn buffer [] s (Ok (tt {0})) s
none_listed buffer s = record { lists = λ ws list on v. rw (append-nil list) v }

pub listed_join : {buffer xs ys : List ℕ} {s q t : Sweep} {u : Unit {0}} {r : Result (Unit {0}) NotComplete} →
    ListedOn buffer xs s (Ok u) q → ListedOn buffer ys q r t → ListedOn buffer (xs ++ ys) s r t
listed_join {xs = xs} {ys} f g = record { lists = λ ws list on v. rw (← append_assoc list xs ys) (g.lists ws (list ++ xs) on (f.lists ws list on v)) }

pub listed_short : {buffer xs : List ℕ} (ys : List ℕ) {s t : Sweep} {e : NotComplete} (r : Result (Unit {0}) NotComplete) → IsErr r →
    ListedOn buffer xs s (Err e) t → ListedOn buffer (xs ++ ys) s r t
listed_short ys (Ok x) i f = absurd (true≢false (sym i))
listed_short ys (Err x) i f =
    record { lists = λ ws list on v. let t = f.lists ws list on v in (t.0, rw append_assoc at (stopped_more ys t.1)) }

-- THE BYTES OF A BLOCK, the first ones
module _ {buffer : List ℕ} (block : List ℕ) {s q t : Sweep} {i : ℕ} (f : ListedOn buffer (take i block) s (Ok (tt {0})) q) (h : i < length block) where
  pub bytes_turned : {r : Result (Unit {0}) NotComplete} → ListedOn buffer (get_or block i 0 ∷ []) q r t → ListedOn buffer (take (i + 1) block) s r t
  bytes_turned g = rw (add-one i, take-suc block i 0 h) (listed_join f g)

  pub bytes_stopped : {e : NotComplete} (r : Result (Unit {0}) NotComplete) → IsErr r → ListedOn buffer (get_or block i 0 ∷ []) q (Err e) t →
      ListedOn buffer block s r t
  bytes_stopped r e g = rw (take-append-drop (i + 1) block) at (listed_short (drop (i + 1) block) r e (bytes_turned g))

pub bytes_done : {buffer block : List ℕ} {s t : Sweep} {i : ℕ} → ListedOn buffer (take i block) s (Ok (tt {0})) t → length block ≤ i →
    ListedOn buffer block s (Ok (tt {0})) t
bytes_done {block = block} {i = i} f h = rw (take_all i block h) at f
