-- THE LIST of paths, what came of their files, and what is printed for them. Assumes nothing: these are definitions.
use Rattle.std.specs.Prelude.{◌≡◌, Bool, true, false, cond, List, [], ◌∷◌, ◌++◌, ◌≢◌, ℕ, suc, ◌+◌, ◌≤◌, ◌<◌, Result, IfOk, length, take}
use Rattle.words.specs.Words.{Every}
use Rattle.runs.specs.Reading.{longest_text}
use Rattle.starts.specs.Hits.{hits}
use Rattle.boards.specs.declared.Watch.{Watch}
use Rattle.streams.specs.declared.NotComplete.{NotComplete}
use Rattle.streams.specs.Receipts.{Moved}
use Rattle.streams.specs.Streams.{DoneOrTold, PrefixOf}
use Rattle.sweep.specs.declared.counts.Counts.{Counts}
use Rattle.sweep.specs.declared.look.End.{End}
use Rattle.sweep.specs.declared.look.End.TheVariants.{Whole, Unread}
use Rattle.sweep.specs.declared.says.Printer.{Printer}
use Rattle.sweep.specs.declared.list.Sweep.{Sweep}
use Rattle.sweep.specs.Forms.{hit_forms, unread_form, total_form}
use Rattle.sweep.specs.Files.{Asked, Opened, Held, Over, Missed, longest_path}
use Rattle.sweep.specs.Disk.{kept_of, no_descriptor}
use Rattle.sweep.specs.Saying.{Said, Cut, Says}
use Rattle.sweep.specs.Looking.{OnBoard, piece_most}

-- A FILE as it was read: its path, the bytes of it that were searched, and whether these are all
pub record Plan : Type 0 where
  pub path : List ℕ
  pub text : List ℕ
  pub whole : Bool

-- THE LIST of paths, each ended by a byte 0, which none of them has
unfoldable pub listing : List Plan → List ℕ
listing [] = []
listing (p ∷ ps) = p.path ++ 0 ∷ listing ps

abbrev pub NoZero : List ℕ → Type 0
NoZero cs = Every (λ c. c ≢ 0) cs

unfoldable pub AllNamed : List Plan → Type 0
AllNamed [] = Unit {0}
AllNamed (p ∷ ps) = NoZero p.path × AllNamed ps

-- WHAT CAME of the file of opening k: the bytes searched, and then those that came and were not
pub record CameOf (k : ℕ) (p : Plan) : Type 0 where
  pub left : List ℕ
  pub after : ℕ
  pub came : Moved (Held k) 0 after (p.text ++ left)

-- not all of it was searched: it could not be opened or read, and all that came was searched; or more came than a watch takes, and no more than a piece is left
pub record NotWhole (k : ℕ) (text left : List ℕ) : Type 0 where
  pub missed : Bool
  pub why : cond missed (Missed k × (left ≡ [])) ((longest_text < length (text ++ left)) × (length left ≤ piece_most))

-- the opening is of its path, of which one byte more is handed over than can be opened, at most
abbrev pub AskedFor : (k : ℕ) → Plan → Type 0
AskedFor k p = Asked k (take (suc longest_path) p.path)

-- READ RIGHT: its path was asked for; it is whole only if that was opened, nothing is left and it ended there; else there is a reason
pub record Right (k : ℕ) (p : Plan) : Type 0 where
  pub asked : AskedFor k p
  pub held : CameOf k p
  pub whole : p.whole ≡ true → Opened k p.path × (held.left ≡ []) × Over k held.after
  pub unread : p.whole ≡ false → NotWhole k p.text held.left

-- of several files, from opening k on
unfoldable pub AllRight : (k : ℕ) → List Plan → Type 0
AllRight k [] = Unit {0}
AllRight k (p ∷ ps) = Right k p × AllRight (suc k) ps

-- WHAT IS PRINTED for a file with its number: the hits, and whether it is unread; and for several, numbered from n on
unfoldable pub file_form : (ws : List (List ℕ)) → (n : ℕ) → Plan → List ℕ
file_form ws n p = hit_forms n (hits ws p.text) ++ cond p.whole [] (unread_form n)

unfoldable pub files_form : (ws : List (List ℕ)) → (n : ℕ) → List Plan → List ℕ
files_form ws n [] = []
files_form ws n (p ∷ ps) = file_form ws n p ++ files_form ws (suc n) ps

-- what is counted
unfoldable pub unread_in : List Plan → ℕ
unread_in [] = 0
unread_in (p ∷ ps) = cond p.whole 0 1 + unread_in ps

unfoldable pub bytes_in : List Plan → ℕ
bytes_in [] = 0
bytes_in (p ∷ ps) = length p.text + bytes_in ps

unfoldable pub hits_in : (ws : List (List ℕ)) → List Plan → ℕ
hits_in ws [] = 0
hits_in ws (p ∷ ps) = length (hits ws p.text) + hits_in ws ps

-- ALL that is printed
unfoldable pub sweep_form : (ws : List (List ℕ)) → List Plan → List ℕ
sweep_form ws ps = files_form ws 0 ps ++ total_form (length ps) (unread_in ps) (bytes_in ps) (hits_in ws ps)

-- what there is to print where a sweep is stopped before its end: all for the files passed, and the hits in the next file so far
unfoldable pub stopped_form : (ws : List (List ℕ)) → List Plan → (next : Plan) → List ℕ
stopped_form ws ps p = files_form ws 0 ps ++ hit_forms (length ps) (hits ws p.text)

-- THE BYTES SENT by a sweep
abbrev pub sent_of : Sweep → ℕ
sent_of s = s.reader.printer.output

-- ONE THAT BEGINS: nothing was counted, opened, sent or gathered
pub record IsNew (s : Sweep) : Type 0 where
  pub unnamed : s.name ≡ []
  pub no_files : s.counts.files ≡ 0
  pub no_unread : s.counts.unread ≡ 0
  pub no_bytes : s.counts.bytes ≡ 0
  pub no_hits : s.counts.hits ≡ 0
  pub unopened : kept_of s.reader.disk ≡ no_descriptor
  pub unsent : s.reader.printer.output ≡ 0
  pub ungathered : s.reader.printer.page ≡ []

-- A SWEEP that has come so far in the list: its paths but for the last bytes, the name of the next one so far, of which only so many bytes are kept as tell
-- that it is too long to be opened; their files are read right, counted, and all that is printed for them is said
pub record Swept (ws : List (List ℕ)) (list : List ℕ) (s : Sweep) : Type 0 where
  pub plans : List Plan
  pub name : List ℕ
  pub listed : listing plans ++ name ≡ list
  pub named : AllNamed plans
  pub clean : NoZero name
  pub kept : s.name ≡ take (suc longest_path) name
  pub right : AllRight 1 plans
  pub files_are : s.counts.files ≡ length plans
  pub unread_are : s.counts.unread ≡ unread_in plans
  pub bytes_are : s.counts.bytes ≡ bytes_in plans
  pub hits_are : s.counts.hits ≡ hits_in ws plans
  pub said : Said s.reader.printer (files_form ws 0 plans)

-- A FILE PASSED after a look at it, which ended so: what it brought is counted, and it is said to be unread if it was not read to its end
abbrev pub is_whole : End → Bool
is_whole Whole = true
is_whole Unread = false

pub record Passed (c : Counts) (file : ℕ) (watch : Watch) (end : End) (p : Printer) (r : Result (Unit {0}) NotComplete) (d : Counts) (q : Printer) : Type 0 where
  pub files : d.files ≡ c.files
  pub counted :
      IfOk r (λ _. (d.unread ≡ c.unread + cond (is_whole end) 0 1) × (d.bytes ≡ c.bytes + watch.taken) × (d.hits ≡ c.hits + watch.hits))
  pub says : Says p (cond (is_whole end) [] (unread_form file)) r q

-- STOPPED before the end: the list begins with the paths of files that were read right, and of a next one, of which some bytes may have been searched; what
-- there is to print begins with what was sent, so that has no end form
pub record Stopped (ws : List (List ℕ)) (list : List ℕ) (sent : ℕ) : Type 0 where
  pub plans : List Plan
  pub next : Plan
  pub listed : PrefixOf (listing plans ++ next.path) list
  pub named : AllNamed plans
  pub right : AllRight 1 plans
  pub came : CameOf (suc (length plans)) next
  pub asked : next.text ≢ [] → AskedFor (suc (length plans)) next
  pub cut : Cut sent (stopped_form ws plans next)

-- MORE BYTES of the list: the sweep has come further by just these, or it was stopped
pub record ListedOn (buffer bytes : List ℕ) (s : Sweep) (r : Result (Unit {0}) NotComplete) (t : Sweep) : Type 0 where
  pub lists :
      (ws : List (List ℕ)) (list : List ℕ) → OnBoard ws buffer → Swept ws list s →
      DoneOrTold r (λ _. Swept ws (list ++ bytes) t) (Stopped ws (list ++ bytes) (sent_of t))
