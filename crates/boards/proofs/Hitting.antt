-- The hits that end with a start, written one by one: the longest code's and then those of the shorter codes that it ends with. Assumes nothing.
use mathlib.Core.Path.{◌≡◌, refl, sym, ap, ◌∙◌}
use mathlib.Core.Bool.{false}
use mathlib.Core.List.{List, [], ◌∷◌, ◌++◌, map, append-nil}
use Prim.Native.Nat.{ℕ, zero, suc, ◌+◌, ◌-◌, ◌≤◌, ◌<◌}
use native.Mathlib.Omega.{arith}
use lib.ListN.{length, get_or, set, length-append, length-map}
use lib.Seq.{append_snoc}
use borrow.Table.Elements.{map_app}
use Rattle.starts.specs.Starts.{code, is_code, longest_end, nearest, shorter, number}
use Rattle.starts.specs.Hits.{Hit, hit, hits_at}
use Rattle.starts.proofs.Codes.{number_few, numbered}
use Rattle.starts.proofs.Ends.{longest_is}
use Rattle.starts.proofs.Hits.{hits_behind, hits_none, hits_first, behind_none, behind_next}
use Rattle.boards.specs.Written.{Spliced}
use Rattle.boards.specs.Inside.{Hitting, OnHits, Wrote, WritesHits}
use Rattle.boards.proofs.Watching.{hits_at_few}
use Rattle.boards.proofs.Splices.{spliced_none, spliced_more}

-- THE CHAIN: the hit of the code with a number, from 1, and those behind it; none for 0
abbrev chain : (ws : List (List ℕ)) → (taken : ℕ) → (number : ℕ) → List Hit
chain ws t zero = []
chain ws t (suc j) = hit (t - length (code ws j)) (suc j) ∷ hits_behind ws t (code ws j)

module _ (ws : List (List ℕ)) (t : ℕ) where
  chain_is : (hs : List Hit) (n : ℕ) → (n ≡ 0 → hs ≡ []) → ((j : ℕ) → n ≡ suc j → hs ≡ chain ws t (suc j)) → hs ≡ chain ws t n
  chain_is hs zero f g = f refl
  chain_is hs (suc j) f g = g j refl

  module _ (empty : is_code ws [] ≡ false) where
    chain_nearest : (u : List ℕ) → hits_at ws u t ≡ chain ws t (nearest ws u)
    chain_nearest u = chain_is (hits_at ws u t) (nearest ws u) (hits_none ws t u) (hits_first ws t empty u)

    chain_shorter : (w : List ℕ) → hits_behind ws t w ≡ chain ws t (shorter ws w)
    chain_shorter w = chain_is (hits_behind ws t w) (shorter ws w) (behind_none ws t w) (behind_next ws t empty w)

-- the number is a code's, and the code is no longer than n bytes; or it is 0
abbrev Names : (ws : List (List ℕ)) → (n number : ℕ) → Type 0
Names ws n o = (o ≤ length ws) × ((j : ℕ) → o ≡ suc j → length (code ws j) ≤ n)

names_end : (ws : List (List ℕ)) (m n : ℕ) (u : List ℕ) → m ≤ length u → m ≤ n → Names ws n (number ws (longest_end (is_code ws) m u))
names_end ws m n u h l = (
  number_few ws (longest_end (is_code ws) m u),
  λ j e. let v : List ℕ = longest_end (is_code ws) m u in omega (arith, ap length (numbered ws v j e).1, (longest_is (is_code ws) m u h).bound),
)

-- THE LOOP: some hits are written, and the chain from a number on is left
pub record HitLoop (ws : List (List ℕ)) (u : List ℕ) (taken k : ℕ) (a b p q : List ℕ) (at o : ℕ) : Type 0 where
  pub done : List Hit
  pub whole : hits_at ws u taken ≡ done ++ chain ws taken o
  pub at_is : at ≡ k + length done
  pub places_are : Spliced k (map (λ (h : Hit). h.place) done) a b
  pub numbers_are : Spliced k (map (λ (h : Hit). h.number) done) p q
  pub names : Names ws taken o

module _ {ws : List (List ℕ)} {u ls short : List ℕ} {o taken k : ℕ} {a p : List ℕ} (g : Hitting ws u ls short o taken k (length a) (length p)) where
  pub hits_start : HitLoop ws u taken k a a p p k o
  unfolding nearest
  hits_start =
      record {
        done = [];
        whole = rw g.nearest_is (chain_nearest ws taken g.filled u);
        at_is = omega arith;
        places_are = spliced_none k a;
        numbers_are = spliced_none k p;
        names = rw g.nearest_is (names_end ws (length u) taken u (omega arith) g.reached);
      }

  module _ {b q : List ℕ} {at n : ℕ} (t : HitLoop ws u taken k a b p q at n) where
    few : length t.done + length (chain ws taken n) ≤ length ws
    few = omega (arith, hits_at_few ws u taken, ap length t.whole, length-append t.done (chain ws taken n))

    module _ (j : ℕ) (e : n ≡ suc j) where
      -- what the accesses need: the code's number and length, and a spot in each list
      pub hits_bounds : (j < length ws) × (get_or ls j 0 ≤ taken) × (at < k + length ws) × (at < length b) × (at < length q)
      hits_bounds =
          let below : j < length ws = omega (arith, t.names.0) in
          let free : at < k + length ws = omega (arith, t.at_is, few, ap length (ap (chain ws taken) e)) in (
            below,
            omega (arith, g.lengths j below, t.names.1 j e),
            free,
            omega (arith, g.places_room, t.places_are.long),
            omega (arith, g.numbers_room, t.numbers_are.long),
          )

      -- A TURN
      first : (next : ℕ) → next ≡ get_or short j 0 → chain ws taken n ≡ hit (taken - get_or ls j 0) n ∷ chain ws taken next
      first next f =
          let w : List ℕ = code ws j in
          let below : j < length ws = hits_bounds.0 in
          rw (e, f ∙ g.shorts j below, g.lengths j below)
          (ap (λ (hs : List Hit). hit (taken - length w) (suc j) ∷ hs) (chain_shorter ws taken g.filled w))

      pub hits_turn : (next : ℕ) → next ≡ get_or short j 0 → HitLoop ws u taken k a (set b at (taken - get_or ls j 0)) p (set q at n) (at + 1) next
      unfolding shorter
      hits_turn next f =
          let w : List ℕ = code ws j in
          let below : j < length ws = hits_bounds.0 in
          let one : Hit = hit (taken - get_or ls j 0) n in
          let short-is : next ≡ shorter ws w = f ∙ g.shorts j below in
          record {
            done = t.done ++ (one ∷ []);
            whole = t.whole ∙ ap (λ (hs : List Hit). t.done ++ hs) (first next f) ∙ sym (append_snoc t.done one (chain ws taken next));
            at_is = omega (arith, t.at_is, length-append t.done (one ∷ []));
            places_are =
                rw (map_app (λ (h : Hit). h.place) t.done (one ∷ []))
                (spliced_more (one.place ∷ []) at t.places_are (omega (arith, t.at_is, length-map t.done (λ (h : Hit). h.place)))
                (omega (arith, hits_bounds.3, t.places_are.long)));
            numbers_are =
                rw (map_app (λ (h : Hit). h.number) t.done (one ∷ []))
                (spliced_more (one.number ∷ []) at t.numbers_are (omega (arith, t.at_is, length-map t.done (λ (h : Hit). h.number)))
                (omega (arith, hits_bounds.4, t.numbers_are.long)));
            names = rw short-is (names_end ws (length w - 1) taken w (omega arith) (omega (arith, t.names.1 j e)));
          }

  -- THE END
  pub hits_end : {b q : List ℕ} {at : ℕ} → HitLoop ws u taken k a b p q at 0 → Wrote (hits_at ws u taken) k at a b p q
  hits_end t =
      let all : hits_at ws u taken ≡ t.done = t.whole ∙ append-nil t.done in
      rw all (record { end_is = t.at_is; places_are = t.places_are; numbers_are = t.numbers_are })

-- what is kept, whatever the codes are
pub record HitsLoop (ls short : List ℕ) (o taken k : ℕ) (a b p q : List ℕ) (at n : ℕ) : Type 0 where
  pub needs : OnHits ls short o taken k (length a) (length p)
  pub all : (ws : List (List ℕ)) (u : List ℕ) → Hitting ws u ls short o taken k (length a) (length p) → HitLoop ws u taken k a b p q at n

pub loop_start : {ls short : List ℕ} {o taken k : ℕ} {a p : List ℕ} → OnHits ls short o taken k (length a) (length p) →
    HitsLoop ls short o taken k a a p p k o
loop_start r = record { needs = r; all = λ ws u g. hits_start g }

module _ {ls short : List ℕ} {o taken k : ℕ} {a b p q : List ℕ} {at n : ℕ} (t : HitsLoop ls short o taken k a b p q at n) where
  pub loop_long : (length b ≡ length a) × (length q ≡ length p)
  loop_long = let r = t.needs in let l = t.all r.ws r.u r.hitting in (l.places_are.long, l.numbers_are.long)

  module _ (h : 1 ≤ n) where
    pub loop_bounds :
        (n - 1 < length ls) × (n - 1 < length short) × (get_or ls (n - 1) 0 ≤ taken) × (at < length b) × (at < length q) × (at < k + length ls) × (n ≤ 64)
    loop_bounds =
        let r = t.needs in
        let g = r.hitting in
        let v = hits_bounds g (t.all r.ws r.u g) (n - 1) (omega arith) in (
          omega (arith, v.0, g.lengths_long),
          omega (arith, v.0, g.shorts_long),
          v.1,
          v.3,
          v.4,
          omega (arith, v.2, g.lengths_long),
          omega (arith, v.0, g.codes_few),
        )

    pub loop_turn : (next : ℕ) → next ≡ get_or short (n - 1) 0 →
        HitsLoop ls short o taken k a (set b at (taken - get_or ls (n - 1) 0)) p (set q at n) (at + 1) next
    loop_turn next e = record { needs = t.needs; all = λ ws u g. hits_turn g (t.all ws u g) (n - 1) (omega arith) next e }

  pub loop_end : n ≡ 0 → WritesHits ls short o taken k at a b p q
  loop_end e ws u g = hits_end g (rw e at (t.all ws u g))
