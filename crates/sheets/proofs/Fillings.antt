-- A buffer that is filled at two places: cs at its start, ts from place n on. Assumes nothing.
use mathlib.Core.Path.{◌≡◌, refl, sym, ap, ◌∙◌}
use mathlib.Core.List.{List, [], ◌∷◌, ◌++◌, append_assoc, append-nil}
use Prim.Native.Nat.{ℕ, suc, ◌+◌, ◌≤◌, ◌<◌}
use native.Mathlib.Omega.{arith}
use lib.ListN.{length, take, drop, set, length-set, length-append, length-drop, take-append-drop}
use lib.Seq.{take-append-le, drop-append-le, sets, take-set-le, drop-set-lt, drop-set-add, take-suc-set, drop-drop, append_snoc}
use Rattle.words.specs.Words.{in_front}
use Rattle.words.proofs.Lists.{length_snoc, drop_more}
use Rattle.sheets.specs.Inside.{Filling}

pub fill_none : (n : ℕ) (a : List ℕ) → Filling n [] [] a a
fill_none n a = record { front = refl; mid = refl; tail = refl; long = refl }

-- what it has, it has whatever it was
pub fill_self : {n : ℕ} {cs ts a b : List ℕ} → Filling n cs ts a b → Filling n cs ts b b
fill_self f = record { front = f.front; mid = f.mid; tail = refl; long = refl }

-- one filling after another
pub fill_on : {n : ℕ} {cs ds ts us a b d : List ℕ} → Filling n cs ts a b → Filling n ds us b d → length ts ≤ length us → Filling n ds us a d
fill_on {n} {cs} {ds} {ts} {us} {a} {b} {d} f g l =
    record {
      front = g.front;
      mid = g.mid;
      tail = g.tail ∙ drop_more (n + length ts) (n + length us) b a (omega arith) f.tail;
      long = g.long ∙ f.long;
    }

-- READING the bytes that it has
part_in : (cs b : List ℕ) (i k : ℕ) → take (length cs) b ≡ cs → i + k ≤ length cs → take k (drop i b) ≡ take k (drop i cs)
part_in cs b i k e l =
    let rest : List ℕ = drop (length cs) b in
    let split : b ≡ cs ++ rest = sym (take-append-drop (length cs) b) ∙ ap (λ (z : List ℕ). z ++ rest) e in
    ap (λ (z : List ℕ). take k (drop i z)) split ∙ ap (take k) (drop-append-le i cs rest (omega arith))
    ∙ take-append-le k (drop i cs) rest (simp length-drop (omega arith))

module _ {n : ℕ} {cs ts a b : List ℕ} (f : Filling n cs ts a b) where
  pub front_part : (i k : ℕ) → i + k ≤ length cs → take k (drop i b) ≡ take k (drop i cs)
  front_part i k l = part_in cs b i k f.front l

  pub mid_part : (i k : ℕ) → i + k ≤ length ts → take k (drop (n + i) b) ≡ take k (drop i ts)
  mid_part i k l = rw (← drop-drop i n b) (part_in ts (drop n b) i k f.mid l)

  -- WRITING one byte more, in front and behind
  pub put_front : (v : ℕ) → length cs < n → n ≤ length b → Filling n (cs ++ (v ∷ [])) ts a (set b (length cs) v)
  put_front v l h =
      record {
        front =
            ap (λ (k : ℕ). take k (set b (length cs) v)) (length_snoc cs v)
            ∙ take-suc-set b (length cs) v (omega arith)
            ∙ ap (λ (z : List ℕ). z ++ (v ∷ [])) f.front;
        mid = ap (take (length ts)) (drop-set-lt n b (length cs) v l) ∙ f.mid;
        tail = drop-set-lt (n + length ts) b (length cs) v (omega arith) ∙ f.tail;
        long = length-set b (length cs) v ∙ f.long;
      }

  pub put_mid : (v : ℕ) → length cs ≤ n → n + length ts < length b → Filling n cs (ts ++ (v ∷ [])) a (set b (n + length ts) v)
  put_mid v l h =
      let far : n + length ts < n + length (ts ++ (v ∷ [])) = omega (arith, length_snoc ts v) in
      record {
        front = take-set-le (length cs) b (n + length ts) v (omega arith) ∙ f.front;
        mid =
            ap (λ (k : ℕ). take k (drop n (set b (n + length ts) v))) (length_snoc ts v)
            ∙ ap (take (suc (length ts))) (drop-set-add n b (length ts) v)
            ∙ take-suc-set (drop n b) (length ts) v (simp length-drop (omega arith))
            ∙ ap (λ (z : List ℕ). z ++ (v ∷ [])) f.mid;
        tail =
            drop-set-lt (n + length (ts ++ (v ∷ []))) b (n + length ts) v far
            ∙ drop_more (n + length ts) (n + length (ts ++ (v ∷ []))) b a (omega arith) f.tail;
        long = length-set b (n + length ts) v ∙ f.long;
      }

  -- all of it is there
  pub fill_done : length cs ≡ n → b ≡ in_front (cs ++ ts) a
  unfolding in_front
  fill_done e =
      let size : length (cs ++ ts) ≡ n + length ts = omega (arith, length-append cs ts) in
      let rest : drop n b ≡ ts ++ drop (n + length ts) a =
      sym (take-append-drop (length ts) (drop n b)) ∙ rw (f.mid, drop-drop (length ts) n b, f.tail) in
      sym (take-append-drop (length cs) b) ∙ rw (f.front, e, rest, size, append_assoc cs ts (drop (n + length ts) a))

-- several bytes more
pub puts_front : {n : ℕ} {cs ts a b : List ℕ} (vs : List ℕ) → Filling n cs ts a b → length cs + length vs ≤ n → n ≤ length b →
    Filling n (cs ++ vs) ts a (sets b (length cs) vs)
puts_front {n} {cs} {ts} {a} {b} [] f l h = rw (append-nil cs) f
puts_front {n} {cs} {ts} {a} {b} (v ∷ vs) f l h =
    let one = put_front f v (omega arith) h in
    rw (← append_snoc cs v vs, ← length_snoc cs v)
    (puts_front vs one (omega (arith, length_snoc cs v)) (omega (arith, length-set b (length cs) v)))

pub puts_mid : {n : ℕ} {cs ts a b : List ℕ} (vs : List ℕ) → Filling n cs ts a b → length cs ≤ n → n + length ts + length vs ≤ length b →
    Filling n cs (ts ++ vs) a (sets b (n + length ts) vs)
puts_mid {n} {cs} {ts} {a} {b} [] f l h = rw (append-nil ts) f
puts_mid {n} {cs} {ts} {a} {b} (v ∷ vs) f l h =
    let one = put_mid f v l (omega arith) in
    let at : suc (n + length ts) ≡ n + length (ts ++ (v ∷ [])) = omega (arith, length_snoc ts v) in
    rw (← append_snoc ts v vs, at)
    (puts_mid {ts = ts ++ (v ∷ [])} vs one l (omega (arith, length_snoc ts v, length-set b (n + length ts) v)))
