-- What building and feeding need and promise inside the crate. Assumes nothing: these are definitions.
use Rattle.std.specs.Prelude.{◌≡◌, Bool, true, false, List, [], map, ◌≢◌, ℕ, ◌+◌, ◌*◌, ◌-◌, ◌≤◌, ◌<◌, length, get_or, drop}
use Rattle.runs.specs.Answers.{Answer as FeedAnswer}
use Rattle.runs.specs.Reading.{longest_text, fed_more}
use Rattle.starts.specs.Starts.{code, known, total, state, start, is_code, twice, nearest, shorter}
use Rattle.starts.specs.Hits.{Hit, hits_at}
use Rattle.boards.specs.declared.links.Links.{Links as LinkLists}
use Rattle.boards.specs.declared.tree.Tree.{Tree as TreeLists}
use Rattle.boards.specs.declared.Watch.{Watch}
use Rattle.boards.specs.declared.fronts.Fronts.{Fronts as FrontLists}
use Rattle.boards.specs.Tables.{Tree, Linked, AllLinked}
use Rattle.boards.specs.Written.{Spliced}
use Rattle.boards.specs.Fronts.{Fronts}
use Rattle.boards.specs.Feed.{fit, feed}
use Rattle.boards.specs.Entry.{Lent, room, fed_call}

-- THE TREE AND THE LINKS of different codes: all that feeding reads
pub record Boarded (ws : List (List ℕ)) (t : TreeLists) (k : LinkLists) : Type 0 where
  pub once : twice ws ≡ false
  pub is_tree : Tree ws t
  pub linked : AllLinked ws k

-- FITNESS of a watch, from the links of codes of n bytes together
pub record LinkedFor (ws : List (List ℕ)) (links : List ℕ) (n : ℕ) : Type 0 where
  pub size : (u : List ℕ) → known ws u ≡ true → get_or links (2 * state ws u + 1) 0 ≡ length u
  pub none : (g : ℕ) → ((u : List ℕ) → known ws u ≡ true → state ws u ≢ g) → get_or links (2 * g + 1) 0 ≡ 0
  pub bytes : n ≡ total ws
  pub long : 2 * n + 1 < length links

pub record OnFit (links : List ℕ) (n : ℕ) : Type 0 where
  pub ws : List (List ℕ)
  pub linked : LinkedFor ws links n

abbrev pub ToldFit : (links : List ℕ) → (n : ℕ) → Watch → Bool → Type 0
ToldFit links n x r = (ws : List (List ℕ)) → LinkedFor ws links n → r ≡ fit ws x

-- HITS: those that end with a start u after so many bytes, written from spot k on; o is the nearest code's number
pub record Hitting (ws : List (List ℕ)) (u ls short : List ℕ) (o taken k places numbers : ℕ) : Type 0 where
  pub lengths : (j : ℕ) → j < length ws → get_or ls j 0 ≡ length (code ws j)
  pub lengths_long : length ls ≡ length ws
  pub shorts : (j : ℕ) → j < length ws → get_or short j 0 ≡ shorter ws (code ws j)
  pub shorts_long : length ws ≤ length short
  pub codes_few : length ws ≤ 64
  pub filled : is_code ws [] ≡ false
  pub nearest_is : o ≡ nearest ws u
  pub reached : length u ≤ taken
  pub places_room : k + length ws ≤ places
  pub numbers_room : k + length ws ≤ numbers

pub record OnHits (ls short : List ℕ) (o taken k places numbers : ℕ) : Type 0 where
  pub ws : List (List ℕ)
  pub u : List ℕ
  pub hitting : Hitting ws u ls short o taken k places numbers

pub record Wrote (hs : List Hit) (k end : ℕ) (a b p q : List ℕ) : Type 0 where
  pub end_is : end ≡ k + length hs
  pub places_are : Spliced k (map (λ (h : Hit). h.place) hs) a b
  pub numbers_are : Spliced k (map (λ (h : Hit). h.number) hs) p q

abbrev pub WritesHits : (ls short : List ℕ) → (o taken k r : ℕ) → (a b p q : List ℕ) → Type 0
WritesHits ls short o n k r a b p q =
    (ws : List (List ℕ)) (u : List ℕ) → Hitting ws u ls short o n k (length a) (length p) → Wrote (hits_at ws u n) k r a b p q

-- THE NEXT BYTES of a piece, from the start u of state g at index i on
pub record Advancing (ws : List (List ℕ)) (u : List ℕ) (t : TreeLists) (links : List ℕ) (f : FrontLists) (g : ℕ) (piece : List ℕ) (i : ℕ) : Type 0 where
  pub is_tree : Tree ws t
  pub linked : (n : ℕ) → Linked ws n links
  pub fronts : Fronts ws f
  pub known_is : known ws u ≡ true
  pub state_is : state ws u ≡ g
  pub inside : i < length piece
  pub bytes : (j : ℕ) → get_or piece j 0 < 256

pub record OnAdvance (t : TreeLists) (links : List ℕ) (f : FrontLists) (g : ℕ) (piece : List ℕ) (i : ℕ) : Type 0 where
  pub ws : List (List ℕ)
  pub u : List ℕ
  pub advancing : Advancing ws u t links f g piece i

-- they lead to state h; j is the index behind them, and none but the last of them has hits
pub record Advanced (ws : List (List ℕ)) (u piece : List ℕ) (g i h j : ℕ) : Type 0 where
  pub onward : i < j
  pub within : j ≤ length piece
  pub state_is : state ws (start ws h) ≡ h
  pub short : length (start ws h) ≤ length u + (j - i)
  pub reads : (x : Watch) (k : ℕ) → x.state ≡ g → length ws ≤ k →
      let n = x.taken + (j - i) in
      let hs = hits_at ws (start ws h) n in
      feed ws (drop i piece) k x
      ≡ fed_more (j - i) hs (feed ws (drop j piece) (k - length hs) (record { state = h; taken = n; hits = x.hits + length hs }))

abbrev pub Advances : (t : TreeLists) → (links : List ℕ) → (f : FrontLists) → (g : ℕ) → (piece : List ℕ) → (i h j : ℕ) → Type 0
Advances t l f g cs i h j = (ws : List (List ℕ)) (u : List ℕ) → Advancing ws u t l f g cs i → Advanced ws u cs g i h j

-- A PIECE of so many bytes can be taken with a watch
pub record Ready (ws : List (List ℕ)) (x : Watch) (piece : ℕ) : Type 0 where
  pub fits : fit ws x ≡ true
  pub few : x.taken + piece ≤ longest_text

-- it was, until it ended or the lists were full
pub record Took (ws : List (List ℕ)) (x : Watch) (before : Lent) (answer : FeedAnswer Watch) (after : Lent) : Type 0 where
  pub is : record { answer = answer; left = after } ≡ fed_call ws (feed ws before.piece (room before) x) before
