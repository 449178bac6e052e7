-- What is promised of arrows and of single steps, for words of any length. Each statement is a type; docs/PROOFS.md names its proof. Assumes nothing.
use Rattle.std.specs.Prelude.{◌≡◌, true, cond, List, [], ◌∷◌, ◌++◌, map, ◌≢◌, ◌↔◌, ℕ, suc, ◌^◌, ◌≤◌, ◌<◌, eqb, length, take}
use Rattle.words.specs.Words.{byte, member, Every, Falling, state_of}
use Rattle.automaton.specs.declared.Arrow.TheVariants.{Forward, Nothing}
use Rattle.automaton.specs.Arrows.{label, forward, back_targets, back_arrows, step, stepped, arrow_to, arrow_number, arrow_target}
use Rattle.automaton.specs.Ceilings.{log2, byte_ceiling, total_ceiling}
use Rattle.automaton.specs.Costs.{costs, sum}

-- THE PAPER'S ARROWS. An arrow (p, a, q) leads from the first p bytes on byte a to the longest start that they, followed by a, end with
unfoldable pub leads_to : (w : List ℕ) → (p a : ℕ) → ℕ
leads_to w p a = state_of w (take p w ++ (a ∷ []))

-- every step follows the paper's arrow, and says which kind it is
unfoldable pub StepsRight : Type 0
StepsRight =
    (w : List ℕ) (p c : ℕ) → p ≤ length w →
    ((stepped w p c).state ≡ leads_to w p c) × ((stepped w p c).arrow ≡ arrow_to p (stepped w p c).state)

-- THE STEP THEOREM: from the state of a text it leads to the state of the text and the byte
unfoldable pub StateNext : Type 0
StateNext = (w text : List ℕ) (c : ℕ) → (stepped w (state_of w text) c).state ≡ state_of w (text ++ (c ∷ []))

-- by its number: none leads to 0, a backward one to its target, the forward one to p + 1
unfoldable pub ArrowsTold : Type 0
ArrowsTold =
    (w : List ℕ) (p c : ℕ) →
    let s = stepped w p c in
    (arrow_number s.arrow ≡ 0 → s.state ≡ 0)
    × (arrow_number s.arrow ≡ 1 → s.state ≡ arrow_target s.arrow)
    × (arrow_number s.arrow ≡ 2 → s.state ≡ suc p)

-- a backward arrow from p to t: on some byte, to a start that is neither empty nor one longer than p
pub record BackArrow (w : List ℕ) (p t : ℕ) : Type 0 where
  pub byte : ℕ
  pub leads : leads_to w p byte ≡ t
  pub some : 1 ≤ t
  pub back : t ≤ p

-- the targets listed are the paper's backward arrows, all of them and no others
unfoldable pub TargetsRight : Type 0
TargetsRight = (w : List ℕ) (p t : ℕ) → p ≤ length w → (member t (back_targets w p) ≡ true) ↔ BackArrow w p t

-- each is listed once, the largest first
unfoldable pub TargetsFall : Type 0
TargetsFall = (w : List ℕ) (p : ℕ) → Falling (back_targets w p)

-- THE COST of a byte. The labels of a state in the order in which they are compared: the backward ones by falling target, then the forward one
unfoldable pub labels_of : (w : List ℕ) → (p : ℕ) → List ℕ
labels_of w p = map (label w) (back_targets w p) ++ forward w p

-- how many of some labels are compared with byte c: up to the first equal one, that one included
unfoldable pub compared : (c : ℕ) → (labels : List ℕ) → ℕ
compared c [] = 0
compared c (l ∷ ls) = cond (eqb l c) 1 (suc (compared c ls))

-- every step costs just that
unfoldable pub CostsRight : Type 0
CostsRight = (w : List ℕ) (p c : ℕ) → (stepped w p c).cost ≡ compared c (labels_of w p)

-- in state 0 the code's first byte leads to 1 by the forward arrow, any other to 0 by none, each at a cost of 1
unfoldable pub StepsAtZero : Type 0
StepsAtZero =
    (w : List ℕ) (c : ℕ) → 1 ≤ length w →
    (byte w 0 ≡ c → stepped w 0 c ≡ step 1 1 Forward) × (byte w 0 ≢ c → stepped w 0 c ≡ step 0 1 Nothing)

-- no code has more backward arrows than bytes
unfoldable pub FewArrows : Type 0
FewArrows = (w : List ℕ) → back_arrows w ≤ length w

-- the ceiling's logarithm is the logarithm rounded down
unfoldable pub LogarithmRight : Type 0
LogarithmRight = (m : ℕ) → 1 ≤ m → (2 ^ log2 m ≤ m) × (m < 2 ^ suc (log2 m))

-- and no other number k has 2 ^ k ≤ m < 2 ^ suc k
unfoldable pub LogarithmUnique : Type 0
LogarithmUnique = (m k : ℕ) → 2 ^ k ≤ m → m < 2 ^ suc k → k ≡ log2 m

-- no byte costs more than the byte ceiling, in any state
unfoldable pub ByteBelow : Type 0
ByteBelow = (w : List ℕ) (p c : ℕ) → p ≤ length w → (stepped w p c).cost ≤ byte_ceiling w

-- so no byte of a text does, and together its bytes cost no more than the total ceiling
unfoldable pub CostsBelow : Type 0
CostsBelow =
    (w text : List ℕ) → 1 ≤ length w →
    Every (λ k. k ≤ byte_ceiling w) (costs w text) × (sum (costs w text) ≤ total_ceiling (length w) (length text))
