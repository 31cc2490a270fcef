-- Laws of rearranged runs. Assumes nothing.
use Prim.Native.Nat.{ℕ, ◌≤◌, ◌<◌}
use mathlib.Core.Path.{◌≡◌, refl, sym, ap, ◌∙◌}
use mathlib.Core.List.{List}
use mathlib.Core.Bool.{Bool, true, false}
use mathlib.Core.Logic.{◌⊎◌, inl, inr}
use lib.Dec.{eqb}
use lib.ListN.{length, get_or, set, length-set}
use lib.Seq.{get_or-set_same, get_or-set_other}
use borrow.Author.Tests.{eqb-true, eqb-false}
use native.Mathlib.Omega.{arith}
use Rattle.algebra.specs.Reader.{pick}
use Rattle.order.specs.Order.{Order, less, same, greater, is_less}
use Rattle.order.specs.scaffold.Total.{turn, Total}
use Rattle.order.specs.Run.{Rearranged}
use Rattle.order.specs.scaffold.Heap.{swapped}

-- ---- exchanging two places

-- one number is another or not
pub same_or : (a b : ℕ) → (a ≡ b) ⊎ (a ≡ b → ⊥)
same_or a b = go (eqb a b) refl
  where
    go : (t : Bool) → eqb a b ≡ t → (a ≡ b) ⊎ (a ≡ b → ⊥)
    go true e = inl (eqb-true a b e)
    go false e = inr (eqb-false a b e)

module _ (xs : List ℕ) (i j : ℕ) (hi : i < length xs) (hj : j < length xs) where
  pub swapped-second : get_or (swapped xs i j) j 0 ≡ get_or xs i 0
  swapped-second = get_or-set_same (set xs i (get_or xs j 0)) j (get_or xs i 0) 0 (omega (arith, length-set xs i (get_or xs j 0)))

  pub swapped-first : get_or (swapped xs i j) i 0 ≡ get_or xs j 0
  swapped-first = go (same_or i j)
    where
      go : (i ≡ j) ⊎ (i ≡ j → ⊥) → get_or (swapped xs i j) i 0 ≡ get_or xs j 0
      go (inl e) = ap (λ (k : ℕ). get_or (swapped xs i j) k 0) e ∙ swapped-second ∙ ap (λ (k : ℕ). get_or xs k 0) e
      go (inr n) = get_or-set_other (set xs i (get_or xs j 0)) j i (get_or xs i 0) 0 n ∙ get_or-set_same xs i (get_or xs j 0) 0 hi

  pub swapped_other : (k : ℕ) → (k ≡ i → ⊥) → (k ≡ j → ⊥) → get_or (swapped xs i j) k 0 ≡ get_or xs k 0
  swapped_other k ni nj = get_or-set_other (set xs i (get_or xs j 0)) j k (get_or xs i 0) 0 nj ∙ get_or-set_other xs i k (get_or xs j 0) 0 ni

  pub length-swapped : length (swapped xs i j) ≡ length xs
  length-swapped = length-set (set xs i (get_or xs j 0)) j (get_or xs i 0) ∙ length-set xs i (get_or xs j 0)

-- the place that an exchange takes a place to
abbrev exchange : ℕ → ℕ → ℕ → ℕ
exchange i j k = pick (eqb k i) j (pick (eqb k j) i k)

-- its cases
data Exchanged (i j k : ℕ) : ℕ → Type 0 where
  at_first : k ≡ i → Exchanged i j k j
  at_second : (k ≡ i → ⊥) → k ≡ j → Exchanged i j k i
  elsewhere : (k ≡ i → ⊥) → (k ≡ j → ⊥) → Exchanged i j k k

exchanged : (i j k : ℕ) → Exchanged i j k (exchange i j k)
exchanged i j k = go (eqb k i) (eqb k j) refl refl
  where
    go : (x y : Bool) → eqb k i ≡ x → eqb k j ≡ y → Exchanged i j k (pick x j (pick y i k))
    go true y p q = at_first (eqb-true k i p)
    go false true p q = at_second (eqb-false k i p) (eqb-true k j q)
    go false false p q = elsewhere (eqb-false k i p) (eqb-false k j q)

-- ---- rearrangements

pub unmoved : (n : ℕ) (xs : List ℕ) → Rearranged n xs xs
unmoved n xs = record { count = refl; from = λ k. k; is = λ k. refl; inside = λ k h. h; outside = λ k h. refl; once = λ j k e. e }

pub moved_on : {n : ℕ} {xs ys zs : List ℕ} → Rearranged n xs ys → Rearranged n ys zs → Rearranged n xs zs
moved_on a b = record {
  count = b.count ∙ a.count;
  from = λ k. a.from (b.from k);
  is = λ k. b.is k ∙ a.is (b.from k);
  inside = λ k h. a.inside (b.from k) (b.inside k h);
  outside = λ k h. ap a.from (b.outside k h) ∙ a.outside k h;
  once = λ j k e. b.once j k (a.once (b.from j) (b.from k) e);
}

module _ (n : ℕ) (xs : List ℕ) (i j : ℕ) (hi : i < n) (hj : j < n) (hn : n ≤ length xs) where
  pub swap-moves : Rearranged n xs (swapped xs i j)
  swap-moves = record {
    count = length-swapped xs i j (omega arith) (omega arith);
    from = exchange i j;
    is = λ k. is k (exchange i j k) (exchanged i j k);
    inside = λ k h. inside k h (exchange i j k) (exchanged i j k);
    outside = λ k h. outside k h (exchange i j k) (exchanged i j k);
    once = λ a b e. once a b (exchange i j a) (exchange i j b) (exchanged i j a) (exchanged i j b) e;
  }
    where
      is : (k e : ℕ) → Exchanged i j k e → get_or (swapped xs i j) k 0 ≡ get_or xs e 0
      is k _ (at_first p) = ap (λ (z : ℕ). get_or (swapped xs i j) z 0) p ∙ swapped-first xs i j (omega arith) (omega arith)
      is k _ (at_second p q) = ap (λ (z : ℕ). get_or (swapped xs i j) z 0) q ∙ swapped-second xs i j (omega arith) (omega arith)
      is k _ (elsewhere p q) = swapped_other xs i j (omega arith) (omega arith) k p q

      inside : (k : ℕ) → k < n → (e : ℕ) → Exchanged i j k e → e < n
      inside k h _ (at_first p) = hj
      inside k h _ (at_second p q) = hi
      inside k h _ (elsewhere p q) = h

      outside : (k : ℕ) → n ≤ k → (e : ℕ) → Exchanged i j k e → e ≡ k
      outside k h _ (at_first p) = absurd (omega arith)
      outside k h _ (at_second p q) = absurd (omega arith)
      outside k h _ (elsewhere p q) = refl

      once : (a b x y : ℕ) → Exchanged i j a x → Exchanged i j b y → x ≡ y → a ≡ b
      once a b _ _ (at_first p) (at_first q) e = omega arith
      once a b _ _ (at_first p) (at_second q r) e = omega arith
      once a b _ _ (at_first p) (elsewhere q r) e = absurd (r (sym e))
      once a b _ _ (at_second p q) (at_first r) e = omega arith
      once a b _ _ (at_second p q) (at_second r s) e = omega arith
      once a b _ _ (at_second p q) (elsewhere r s) e = absurd (r (sym e))
      once a b _ _ (elsewhere p q) (at_first r) e = absurd (q e)
      once a b _ _ (elsewhere p q) (at_second r s) e = absurd (p e)
      once a b _ _ (elsewhere p q) (elsewhere r s) e = e

-- ---- order

module _ {by : ℕ → ℕ → Order} (t : Total by) where
  -- what comes before another, the other does not come before it
  pub not-both : (a b : ℕ) → is_less (by a b) ≡ true → is_less (by b a) ≡ false
  not-both a b e = ap is_less (t.turned a b) ∙ go (by a b) e
    where
      go : (o : Order) → is_less o ≡ true → is_less (turn o) ≡ false
      go less k = refl
      go same k = refl
      go greater k = let z : ◌≡◌ {A = ℕ} 0 1 = cc in absurd (omega arith)

  -- a not before b, b not before c: a not before c
  pub not_on : (a b c : ℕ) → is_less (by a b) ≡ false → is_less (by b c) ≡ false → is_less (by a c) ≡ false
  not_on a b c p q = go (by a b) (by b c) refl refl p q
    where
      go : (o u : Order) → by a b ≡ o → by b c ≡ u → is_less o ≡ false → is_less u ≡ false → is_less (by a c) ≡ false
      go less u e f h k = let z : ◌≡◌ {A = ℕ} 0 1 = cc in absurd (omega arith)
      go same u e f h k = ap (λ (x : ℕ). is_less (by x c)) (t.equal a b e) ∙ q
      go greater less e f h k = let z : ◌≡◌ {A = ℕ} 0 1 = cc in absurd (omega arith)
      go greater same e f h k = ap (λ (x : ℕ). is_less (by a x)) (sym (t.equal b c f)) ∙ p
      go greater greater e f h k =
          let ba : by b a ≡ less = t.turned a b ∙ ap turn e in
          let cb : by c b ≡ less = t.turned b c ∙ ap turn f in
          ap is_less (t.turned c a ∙ ap turn (t.onward c b a cb ba))
