-- What the lists of the tree and of the links hold, and what the functions that write and read them need and promise. Assumes nothing: these are definitions.
use Rattle.std.specs.Prelude.{◌≡◌, Bool, true, false, ◌&&◌, not, cond, List, [], ◌∷◌, ◌++◌, ◌≢◌, ℕ, suc, ◌+◌, ◌*◌, ◌-◌, ◌≤◌, ◌<◌, ltb, eqb, length, get_or, set, take, drop, replicate}
use Rattle.words.specs.Words.{Every}
use Rattle.bits.specs.Bits.{holds}
use Rattle.automaton.specs.Costs.{sum}
use Rattle.starts.specs.Starts.{code, known, total, offset, state, fallback, is_code, number, nearest, shorter}
use Rattle.boards.specs.declared.given.Codes.{Codes}
use Rattle.boards.specs.declared.tree.Tree.{Tree as TreeLists}
use Rattle.boards.specs.declared.links.Links.{Links as LinkLists}
use Rattle.boards.specs.Board.{cut}

-- n bytes from s on
unfoldable pub part : (s n : ℕ) → List ℕ → List ℕ
part s n bs = take n (drop s bs)

-- the codes of lengths and bytes
abbrev pub codes_of : Codes → List (List ℕ)
codes_of k = cut k.lengths.now k.bytes.now

-- lengths and bytes that a board can have
pub record Good (ls bs : List ℕ) : Type 0 where
  pub some : 1 ≤ length ls
  pub codes : length ls ≤ 64
  pub sums : sum ls ≡ length bs
  pub bytes : length bs ≤ 2000
  pub filled : Every (λ l. 1 ≤ l) ls

-- THE TREE in lists: a new one has nothing in it, that of no codes 256 behind every start
abbrev pub tree : (next forks keys heads : List ℕ) → TreeLists
tree n a b t = record { next = n; forks = a; keys = b; heads = t }

abbrev pub new_tree : TreeLists
new_tree = tree (replicate 2001 0) (replicate 2001 0) (replicate 256 0) (replicate 64 0)

abbrev pub empty_tree : TreeLists
empty_tree = tree (replicate 2001 256) (replicate 2001 0) (replicate 256 0) (replicate 64 0)

-- room for any board's
pub record Roomy (t : TreeLists) : Type 0 where
  pub next_long : 2001 ≤ length t.next
  pub forks_long : 2001 ≤ length t.forks
  pub keys_long : 256 ≤ length t.keys
  pub heads_long : 64 ≤ length t.heads

-- whether code number j branches off at state g by byte c
unfoldable pub branches_off : TreeLists → (g c j : ℕ) → Bool
branches_off t g c j = holds (get_or t.forks g 0) j && holds (get_or t.keys c 0) j

-- they are the tree of the codes: what follows a start, in its code or where another branches off, is a start, and there is no other
pub record Tree (ws : List (List ℕ)) (t : TreeLists) : Type 0 where
  pub follows : (u : List ℕ) (c : ℕ) → known ws u ≡ true → c < 256 → get_or t.next (state ws u) 0 ≡ c →
      (known ws (u ++ (c ∷ [])) ≡ true) × (state ws (u ++ (c ∷ [])) ≡ suc (state ws u))
  pub branches : (u : List ℕ) (c j : ℕ) → known ws u ≡ true → branches_off t (state ws u) c j ≡ true →
      (known ws (u ++ (c ∷ [])) ≡ true) × (state ws (u ++ (c ∷ [])) ≡ get_or t.heads j 0)
  pub no_other : (u : List ℕ) (c : ℕ) → known ws u ≡ true → get_or t.next (state ws u) 0 ≢ c → ((j : ℕ) → branches_off t (state ws u) c j ≡ false) →
      known ws (u ++ (c ∷ [])) ≡ false
  pub numbers : (g j : ℕ) → holds (get_or t.forks g 0) j ≡ true → j < length ws
  pub keyed : (c j : ℕ) → holds (get_or t.keys c 0) j ≡ true → j < length ws
  pub blank : (g : ℕ) → total ws < g → (g < length t.next → get_or t.next g 0 ≡ 256) × (get_or t.forks g 0 ≡ 0)
  pub roomy : Roomy t
  pub few : total ws ≤ 2000
  pub codes_few : length ws ≤ 64

-- g is the state of a start in the tree of some codes
pub record OnTree (t : TreeLists) (g : ℕ) : Type 0 where
  pub ws : List (List ℕ)
  pub u : List ℕ
  pub is_tree : Tree ws t
  pub known_is : known ws u ≡ true
  pub state_is : state ws u ≡ g

-- what is told of state g, whatever the codes are
abbrev pub ToldTree : (t : TreeLists) → (g : ℕ) → ((ws : List (List ℕ)) → (u : List ℕ) → Type 0) → Type 0
ToldTree t g P = (ws : List (List ℕ)) (u : List ℕ) → Tree ws t → known ws u ≡ true → state ws u ≡ g → P ws u

-- the state of u and one byte more; 0 if that is no start
unfoldable pub child_of : (ws : List (List ℕ)) → (u : List ℕ) → (c : ℕ) → ℕ
child_of ws u c = cond (known ws (u ++ (c ∷ []))) (state ws (u ++ (c ∷ []))) 0

-- LABELS: the bytes of a code w that begins at s stand behind one another in b, which was a
pub record Labelled (s : ℕ) (w a b : List ℕ) : Type 0 where
  pub inner : (i : ℕ) → 1 ≤ i → i < length w → get_or b (s + i) 0 ≡ get_or w i 0
  pub before : (g : ℕ) → g ≤ s → get_or b g 0 ≡ get_or a g 0
  pub behind : (g : ℕ) → s + length w ≤ g → get_or b g 0 ≡ get_or a g 0
  pub long : length b ≡ length a

-- FOLLOWING a code w as far as the tree goes: d of its bytes, to state g
pub record OnFollow (t : TreeLists) : Type 0 where
  pub ws : List (List ℕ)
  pub is_tree : Tree ws t

pub record Went (ws : List (List ℕ)) (w : List ℕ) (g d : ℕ) : Type 0 where
  pub within : d ≤ length w
  pub known_is : known ws (take d w) ≡ true
  pub state_is : g ≡ state ws (take d w)
  pub stops : d < length w → known ws (take (suc d) w) ≡ false

abbrev pub Follows : (t : TreeLists) → (w : List ℕ) → (g d : ℕ) → Type 0
Follows t w g d = (ws : List (List ℕ)) → Tree ws t → Went ws w g d

-- ONE CODE MORE. At each start's state its number, if it is a code, and 0 everywhere else
pub record Ended (ws : List (List ℕ)) (ends : List ℕ) : Type 0 where
  pub numbers : (u : List ℕ) → known ws u ≡ true → get_or ends (state ws u) 0 ≡ number ws u
  pub none : (g : ℕ) → ((u : List ℕ) → known ws u ≡ true → state ws u ≢ g) → get_or ends g 0 ≡ 0
  pub long : 2001 ≤ length ends

pub record Adding (ws : List (List ℕ)) (t : TreeLists) (ends w : List ℕ) (j s : ℕ) : Type 0 where
  pub is_tree : Tree ws t
  pub ended : Ended ws ends
  pub number_is : j ≡ length ws
  pub offset_is : s ≡ total ws
  pub some : 1 ≤ length w
  pub few : s + length w ≤ 2000
  pub codes_few : j < 64

pub record OnCode (t : TreeLists) (ends w : List ℕ) (j s : ℕ) : Type 0 where
  pub ws : List (List ℕ)
  pub adding : Adding ws t ends w j s

pub record Added (ws : List (List ℕ)) (w : List ℕ) (t : TreeLists) (ends : List ℕ) (r : Bool) : Type 0 where
  pub new : r ≡ not (is_code ws w)
  pub is_tree : r ≡ true → Tree (ws ++ (w ∷ [])) t
  pub ended : r ≡ true → Ended (ws ++ (w ∷ [])) ends

abbrev pub Adds : (t t' : TreeLists) → (ends ends' w : List ℕ) → (j s : ℕ) → Bool → Type 0
Adds t t' e e' w j s r = (ws : List (List ℕ)) → Adding ws t e w j s → Added ws w t' e' r

-- ALL CODES: where each begins
abbrev pub Offsets : (ws : List (List ℕ)) → (starts : List ℕ) → Type 0
Offsets ws ss = (j : ℕ) → j < length ws → get_or ss j 0 ≡ offset ws j

pub record AllAdded (ws : List (List ℕ)) (t : TreeLists) (ends starts : List ℕ) : Type 0 where
  pub is_tree : Tree ws t
  pub ended : Ended ws ends
  pub offsets : Offsets ws starts

-- THE LINKS of the starts of at most n bytes
pub record Linked (ws : List (List ℕ)) (n : ℕ) (links : List ℕ) : Type 0 where
  pub to : (u : List ℕ) → known ws u ≡ true → length u ≤ n → get_or links (2 * state ws u) 0 ≡ state ws (fallback ws u)
  pub size : (u : List ℕ) → known ws u ≡ true → length u ≤ n → get_or links (2 * state ws u + 1) 0 ≡ length u
  pub long : 4002 ≤ length links

pub record OnLinks (t : TreeLists) (links : List ℕ) (g : ℕ) : Type 0 where
  pub ws : List (List ℕ)
  pub u : List ℕ
  pub is_tree : Tree ws t
  pub known_is : known ws u ≡ true
  pub state_is : state ws u ≡ g
  pub linked : Linked ws (length u) links

abbrev pub ToldLinks : (t : TreeLists) → (links : List ℕ) → (g : ℕ) → ((ws : List (List ℕ)) → (u : List ℕ) → Type 0) → Type 0
ToldLinks t links g P =
    (ws : List (List ℕ)) (u : List ℕ) → Tree ws t → known ws u ≡ true → state ws u ≡ g → Linked ws (length u) links → P ws u

-- THE LISTS OF LINKS: failure links and lengths, nearest codes, and for each code the longest shorter one
abbrev pub tables : (links nearest shorter : List ℕ) → LinkLists
tables a b c = record { links = a; nearest = b; shorter = c }

abbrev pub no_links : LinkLists
no_links = tables (replicate 4002 0) (replicate 2001 0) (replicate 64 0)

-- one state's are put: f is its failure link
pub record OnState (k : LinkLists) (g f depth : ℕ) : Type 0 where
  pub links_room : 2 * g + 1 < length k.links
  pub nearest_room : g < length k.nearest
  pub link_room : f < length k.nearest
  pub own_room : get_or k.nearest g 0 ≤ length k.shorter
  pub link_small : f < 65536
  pub depth_small : depth < 65536

unfoldable pub put_state : (k : LinkLists) → (g f depth : ℕ) → LinkLists
put_state k g f d =
    let own = get_or k.nearest g 0 in
    let below = get_or k.nearest f 0 in
    record {
      links = set (set k.links (2 * g) f) (2 * g + 1) d;
      nearest = cond (eqb own 0) (set k.nearest g below) k.nearest;
      shorter = cond (eqb own 0) k.shorter (set k.shorter (own - 1) below);
    }

-- a start's links are there
pub record Done (ws : List (List ℕ)) (k : LinkLists) (u : List ℕ) : Type 0 where
  pub link : get_or k.links (2 * state ws u) 0 ≡ state ws (fallback ws u)
  pub size : get_or k.links (2 * state ws u + 1) 0 ≡ length u
  pub near : get_or k.nearest (state ws u) 0 ≡ nearest ws u
  pub short : (j : ℕ) → number ws u ≡ suc j → get_or k.shorter j 0 ≡ shorter ws u

-- nothing stands where no state is, and there is room for any board's
pub record Blank (ws : List (List ℕ)) (k : LinkLists) : Type 0 where
  pub none : (g : ℕ) → ((u : List ℕ) → known ws u ≡ true → state ws u ≢ g) →
      (get_or k.links (2 * g) 0 ≡ 0) × (get_or k.links (2 * g + 1) 0 ≡ 0) × (get_or k.nearest g 0 ≡ 0)
  pub links_long : 4002 ≤ length k.links
  pub nearest_long : 2001 ≤ length k.nearest
  pub shorter_long : 64 ≤ length k.shorter

-- the links of the starts of at most n bytes are there; the state of a longer start has its number, if it is a code
pub record Level (ws : List (List ℕ)) (n : ℕ) (k : LinkLists) : Type 0 where
  pub done : (u : List ℕ) → known ws u ≡ true → length u ≤ n → Done ws k u
  pub left : (u : List ℕ) → known ws u ≡ true → n < length u → get_or k.nearest (state ws u) 0 ≡ number ws u
  pub blank : Blank ws k

-- ONE BYTE MORE of a code: from the start u of state g to u and the byte, which is at s
pub record Next (ws : List (List ℕ)) (t : TreeLists) (k : LinkLists) (u : List ℕ) (g c s depth : ℕ) : Type 0 where
  pub is_tree : Tree ws t
  pub known_is : known ws (u ++ (c ∷ [])) ≡ true
  pub state_is : state ws u ≡ g
  pub depth_is : length u ≡ depth
  pub within : s < total ws
  pub linked : Linked ws depth k.links
  pub blank : Blank ws k
  pub small : get_or k.nearest (suc s) 0 ≤ 64

pub record OnByte (t : TreeLists) (k : LinkLists) (g c s depth : ℕ) : Type 0 where
  pub ws : List (List ℕ)
  pub u : List ℕ
  pub next : Next ws t k u g c s depth

unfoldable pub put_byte : (ws : List (List ℕ)) → (k : LinkLists) → (v : List ℕ) → (s : ℕ) → LinkLists
put_byte ws k v s = cond (eqb (state ws v) (suc s)) (put_state k (suc s) (state ws (fallback ws v)) (length v)) k

abbrev pub LinksByte : (t : TreeLists) → (k k' : LinkLists) → (g c s depth r : ℕ) → Type 0
LinksByte t k k' g c s d r =
    (ws : List (List ℕ)) (u : List ℕ) → Next ws t k u g c s d →
    (r ≡ state ws (u ++ (c ∷ []))) × (k' ≡ put_byte ws k (u ++ (c ∷ [])) s)

-- A LEVEL: each code of more than `depth` bytes has its state of that many, and its bit in `live`
pub record Leveling (ws : List (List ℕ)) (k : LinkLists) (at : List ℕ) (live depth : ℕ) : Type 0 where
  pub level : Level ws depth k
  pub states : (j : ℕ) → j < length ws → depth < length (code ws j) → get_or at j 0 ≡ state ws (take depth (code ws j))
  pub lives : (j : ℕ) → holds live j ≡ ltb j (length ws) && ltb depth (length (code ws j))

pub record OnLevel (ws : List (List ℕ)) (starts : List ℕ) (t : TreeLists) (k : LinkLists) (at : List ℕ) (live depth : ℕ) : Type 0 where
  pub is_tree : Tree ws t
  pub offsets : Offsets ws starts
  pub leveling : Leveling ws k at live depth

-- the word whose bits below k are set
abbrev pub FirstBits : (k r : ℕ) → Type 0
FirstBits k r = (q : ℕ) → holds r q ≡ ltb q k

-- ALL LEVELS
pub record AllLinked (ws : List (List ℕ)) (k : LinkLists) : Type 0 where
  pub done : (u : List ℕ) → known ws u ≡ true → Done ws k u
  pub blank : Blank ws k

pub record OnLevels (ws : List (List ℕ)) (starts : List ℕ) (t : TreeLists) (k : LinkLists) : Type 0 where
  pub is_tree : Tree ws t
  pub offsets : Offsets ws starts
  pub level : Level ws 0 k
