-- Laws of names that stand in a file. Assumes nothing.
use Prim.Native.Nat.{ℕ, zero, suc, ◌+◌, ◌-◌, ◌*◌, ◌/◌, ◌≤◌, ◌<◌}
use mathlib.Core.Path.{◌≡◌, refl, sym, ap, ap₂, ◌∙◌, subst}
use mathlib.Core.List.{List, [], ◌∷◌}
use mathlib.Core.Bool.{Bool, true, false}
use mathlib.Core.Logic.{◌⊎◌, inl, inr}
use lib.Dec.{leb}
use lib.ListN.{length, get_or, drop}
use lib.Seq.{drop-cons, drop-length}
use borrow.Author.Tests.{le-leb, lt-leb, leb-true, leb-false}
use native.Mathlib.Omega.{arith}
use native.Mathlib.Numerals.{add-one}
use Rattle.algebra.specs.Numbers.{num, nums, Bytes}
use Rattle.algebra.specs.Reader.{ok, refuse, pick, field}
use Rattle.algebra.proofs.Laws.{num-split}
use Rattle.algebra.proofs.Places.{num-lt}
use Rattle.order.specs.Order.{Order, less, same, greater, or_else, compare}
use Rattle.order.specs.scaffold.Total.{turn}
use Rattle.order.proofs.Orders.{compare-less, compare-more, compare_same}
use Rattle.acb_order.specs.Names.{compare_names}
use Rattle.acb_order.specs.Places.{units_at}
use Rattle.acb_order.proofs.Names.{names-total}
use Rattle.acb_names.specs.Answer.{told}
use Rattle.std.specs.Prelude.{min}
use Rattle.std.specs.declared.cmp.Ordering.{Ordering}
use Rattle.std.specs.declared.cmp.Ordering.TheVariants.{Less, Equal, Greater}
use Rattle.std.specs.Ordering.{MatchOrdering, nat_cmp}
use Rattle.std.proofs.lemmas.Cmp.{ranked}
use Rattle.acb_names.specs.scaffold.Units.{left, rest}

-- ---- units from a place on

module _ (s : List ℕ) where
  pub nums-next : (m a k : ℕ) → k < m → nums 2 (m - k) s (a + 2 * k) ≡ num 2 s (a + 2 * k) ∷ nums 2 (m - (k + 1)) s (a + 2 * (k + 1))
  unfolding nums
  nums-next m a k h =
      let e : m - k ≡ suc (m - (k + 1)) = omega arith in
      let f : a + 2 * k + 2 ≡ a + 2 * (k + 1) = omega arith in
      ap (λ (j : ℕ). nums 2 j s (a + 2 * k)) e ∙ ap (λ (j : ℕ). num 2 s (a + 2 * k) ∷ nums 2 (m - (k + 1)) s j) f

  pub nums-none : (m a : ℕ) → m ≡ 0 → nums 2 m s a ≡ []
  unfolding nums
  nums-none m a e = ap (λ (j : ℕ). nums 2 j s a) e

  module _ (a m b n : ℕ) where
    pub left-start : compare_names (nums 2 m s a) (nums 2 n s b) ≡ left s a m b n 0
    left-start =
        let x : m ≡ m - 0 = omega arith in
        let y : n ≡ n - 0 = omega arith in
        let u : a ≡ a + 2 * 0 = omega arith in
        let v : b ≡ b + 2 * 0 = omega arith in
        ap₂ (λ (i j : ℕ). compare_names (nums 2 i s a) (nums 2 j s b)) x y ∙ ap₂ (λ (i j : ℕ). compare_names (nums 2 (m - 0) s i) (nums 2 (n - 0) s j)) u v

    left_is : (k : ℕ) → k < m → k < n → left s a m b n k ≡ or_else (compare (num 2 s (a + 2 * k)) (num 2 s (b + 2 * k))) (left s a m b n (k + 1))
    unfolding compare_names
    left_is k h i = ap₂ compare_names (nums-next m a k h) (nums-next n b k i)

    pub left_less : (k : ℕ) → k < m → k < n → num 2 s (a + 2 * k) < num 2 s (b + 2 * k) → less ≡ left s a m b n k
    left_less k h i l = sym (left_is k h i ∙ ap (λ (o : Order). or_else o (left s a m b n (k + 1))) (compare-less _ _ l))

    pub left-greater : (k : ℕ) → k < m → k < n → num 2 s (b + 2 * k) < num 2 s (a + 2 * k) → greater ≡ left s a m b n k
    left-greater k h i l = sym (left_is k h i ∙ ap (λ (o : Order). or_else o (left s a m b n (k + 1))) (compare-more _ _ l))

    pub left-same : (k : ℕ) → k < m → k < n → num 2 s (a + 2 * k) ≡ num 2 s (b + 2 * k) → left s a m b n k ≡ left s a m b n (k + 1)
    left-same k h i e = left_is k h i ∙ ap (λ (o : Order). or_else o (left s a m b n (k + 1))) (compare_same _ _ e)

    pub left-short : m < n → less ≡ left s a m b n m
    unfolding compare_names
    left-short h = sym (ap₂ compare_names (nums-none (m - m) (a + 2 * m) (omega arith)) (nums-next n b m h))

    pub left-long : n < m → greater ≡ left s a m b n n
    unfolding compare_names
    left-long h = sym (ap₂ compare_names (nums-next m a n h) (nums-none (n - n) (b + 2 * n) (omega arith)))

    pub left-none : m ≡ n → same ≡ left s a m b n m
    unfolding compare_names
    left-none h = sym (ap₂ compare_names (nums-none (m - m) (a + 2 * m) (omega arith)) (nums-none (n - m) (b + 2 * m) (omega arith)))

-- ---- a list of units against units from a place on

module _ (s us : List ℕ) (b n : ℕ) where
  pub rest-start : compare_names us (nums 2 n s b) ≡ rest s us b n 0
  rest-start =
      let y : n ≡ n - 0 = omega arith in
      let v : b ≡ b + 2 * 0 = omega arith in
      ap₂ (λ (i j : ℕ). compare_names us (nums 2 i s j)) y v

  rest-is : (k : ℕ) → k < length us → k < n → rest s us b n k ≡ or_else (compare (get_or us k 0) (num 2 s (b + 2 * k))) (rest s us b n (k + 1))
  unfolding compare_names
  rest-is k h i = ap₂ compare_names (drop-cons us k 0 h ∙ ap (λ (j : ℕ). get_or us k 0 ∷ drop j us) (sym (add-one k))) (nums-next s n b k i)

  pub rest-less : (k : ℕ) → k < length us → k < n → get_or us k 0 < num 2 s (b + 2 * k) → less ≡ rest s us b n k
  rest-less k h i l = sym (rest-is k h i ∙ ap (λ (o : Order). or_else o (rest s us b n (k + 1))) (compare-less _ _ l))

  pub rest-greater : (k : ℕ) → k < length us → k < n → num 2 s (b + 2 * k) < get_or us k 0 → greater ≡ rest s us b n k
  rest-greater k h i l = sym (rest-is k h i ∙ ap (λ (o : Order). or_else o (rest s us b n (k + 1))) (compare-more _ _ l))

  pub rest-same : (k : ℕ) → k < length us → k < n → get_or us k 0 ≡ num 2 s (b + 2 * k) → rest s us b n k ≡ rest s us b n (k + 1)
  rest-same k h i e = rest-is k h i ∙ ap (λ (o : Order). or_else o (rest s us b n (k + 1))) (compare_same _ _ e)

  pub rest-short : length us < n → less ≡ rest s us b n (length us)
  unfolding compare_names
  rest-short h = sym (ap₂ compare_names (drop-length us) (nums-next s n b (length us) h))

  pub rest-long : n < length us → greater ≡ rest s us b n n
  unfolding compare_names
  rest-long h = sym (ap₂ compare_names (drop-cons us n 0 h) (nums-none s (n - n) (b + 2 * n) (omega arith)))

  pub rest-none : length us ≡ n → same ≡ rest s us b n (length us)
  unfolding compare_names
  rest-none h = sym (ap₂ compare_names (drop-length us) (nums-none s (n - length us) (b + 2 * length us) (omega arith)))

-- ---- four units in one number

module _ (s : List ℕ) (bytes : Bytes s) (x y : ℕ) where
  last-unit : (w : ℕ) → num (w + 2) s x ≡ num (w + 2) s y → (num w s x ≡ num w s y) × (num 2 s (x + w) ≡ num 2 s (y + w))
  last-unit w e =
      let p = num-split w 2 s x in
      let q = num-split w 2 s y in
      let u = num-lt s bytes 2 (x + w) in
      let v = num-lt s bytes 2 (y + w) in
      (omega arith, omega arith)

  pub four_same : num 8 s x ≡ num 8 s y → (j : ℕ) → j < 4 → num 2 s (x + 2 * j) ≡ num 2 s (y + 2 * j)
  four_same e j h =
      let d = last-unit 6 e in
      let c = last-unit 4 d.0 in
      let b = last-unit 2 c.0 in
      go j h b.0 b.1 c.1 d.1
    where
      go : (j : ℕ) → j < 4 → num 2 s x ≡ num 2 s y → num 2 s (x + 2) ≡ num 2 s (y + 2) → num 2 s (x + 4) ≡ num 2 s (y + 4) → num 2 s (x + 6) ≡ num 2 s (y + 6) → num 2 s (x + 2 * j) ≡ num 2 s (y + 2 * j)
      go zero h a b c d = let u : x + 2 * 0 ≡ x = omega arith in let v : y + 2 * 0 ≡ y = omega arith in ap (num 2 s) u ∙ a ∙ ap (num 2 s) (sym v)
      go (suc zero) h a b c d = b
      go (suc (suc zero)) h a b c d = c
      go (suc (suc (suc zero))) h a b c d = d
      go (suc (suc (suc (suc j)))) h a b c d = absurd (omega arith)

-- the first units of two numbers of several decide, or where they are the same the others
module _ (s : List ℕ) (bytes : Bytes s) (x y : ℕ) where
  abbrev Split : ℕ → Type 0
  Split w = (num 2 s x < num 2 s y) ⊎ ((num 2 s x ≡ num 2 s y) × (num w s (x + 2) < num w s (y + 2)))

  decide : (w : ℕ) → (num 2 s y ≤ num 2 s x → (num 2 s x ≡ num 2 s y) × (num w s (x + 2) < num w s (y + 2))) → Split w
  decide w h = go (leb (num 2 s y) (num 2 s x)) refl
    where
      go : (b : Bool) → leb (num 2 s y) (num 2 s x) ≡ b → Split w
      go true e = inr (h (leb-true (num 2 s y) (num 2 s x) e))
      go false e = inl (omega (arith, leb-false (num 2 s y) (num 2 s x) e))

  split-6 : num 8 s x < num 8 s y → Split 6
  split-6 h = let p = num-split 2 6 s x in let q = num-split 2 6 s y in let u = num-lt s bytes 6 (x + 2) in let v = num-lt s bytes 6 (y + 2) in decide 6 (λ k. (omega arith, omega arith))

  split-4 : num 6 s x < num 6 s y → Split 4
  split-4 h = let p = num-split 2 4 s x in let q = num-split 2 4 s y in let u = num-lt s bytes 4 (x + 2) in let v = num-lt s bytes 4 (y + 2) in decide 4 (λ k. (omega arith, omega arith))

  split-2 : num 4 s x < num 4 s y → Split 2
  split-2 h = let p = num-split 2 2 s x in let q = num-split 2 2 s y in let u = num-lt s bytes 2 (x + 2) in let v = num-lt s bytes 2 (y + 2) in decide 2 (λ k. (omega arith, omega arith))

module _ (s : List ℕ) (bytes : Bytes s) (a m b n : ℕ) where
  less-1 : (k : ℕ) → k < m → k < n → (x y : ℕ) → x ≡ a + 2 * k → y ≡ b + 2 * k → num 2 s x < num 2 s y → less ≡ left s a m b n k
  less-1 k h i x y p q l = left_less s a m b n k h i (subst (λ (z : ℕ). num 2 s (a + 2 * k) < num 2 s z) q (subst (λ (z : ℕ). num 2 s z < num 2 s y) p l))

  same-1 : (k : ℕ) → k < m → k < n → (x y : ℕ) → x ≡ a + 2 * k → y ≡ b + 2 * k → num 2 s x ≡ num 2 s y → left s a m b n k ≡ left s a m b n (k + 1)
  same-1 k h i x y p q e = left-same s a m b n k h i (ap (num 2 s) (sym p) ∙ e ∙ ap (num 2 s) q)

  less-2 : (k : ℕ) → k + 1 < m → k + 1 < n → (x y : ℕ) → x ≡ a + 2 * k → y ≡ b + 2 * k → num 4 s x < num 4 s y → less ≡ left s a m b n k
  less-2 k h i x y p q l = go (split-2 s bytes x y l)
    where
      go : Split s bytes x y 2 → less ≡ left s a m b n k
      go (inl z) = less-1 k (omega arith) (omega arith) x y p q z
      go (inr z) = less-1 (k + 1) h i (x + 2) (y + 2) (omega arith) (omega arith) z.1 ∙ sym (same-1 k (omega arith) (omega arith) x y p q z.0)

  less-3 : (k : ℕ) → k + 2 < m → k + 2 < n → (x y : ℕ) → x ≡ a + 2 * k → y ≡ b + 2 * k → num 6 s x < num 6 s y → less ≡ left s a m b n k
  less-3 k h i x y p q l = go (split-4 s bytes x y l)
    where
      go : Split s bytes x y 4 → less ≡ left s a m b n k
      go (inl z) = less-1 k (omega arith) (omega arith) x y p q z
      go (inr z) = less-2 (k + 1) (omega arith) (omega arith) (x + 2) (y + 2) (omega arith) (omega arith) z.1 ∙ sym (same-1 k (omega arith) (omega arith) x y p q z.0)

  -- four units as one number
  pub four-less : (k : ℕ) → k + 3 < m → k + 3 < n → (x y : ℕ) → x ≡ a + 2 * k → y ≡ b + 2 * k → num 8 s x < num 8 s y → less ≡ left s a m b n k
  four-less k h i x y p q l = go (split-6 s bytes x y l)
    where
      go : Split s bytes x y 6 → less ≡ left s a m b n k
      go (inl z) = less-1 k (omega arith) (omega arith) x y p q z
      go (inr z) = less-3 (k + 1) (omega arith) (omega arith) (x + 2) (y + 2) (omega arith) (omega arith) z.1 ∙ sym (same-1 k (omega arith) (omega arith) x y p q z.0)

  pub four-over : (k : ℕ) → k + 3 < m → k + 3 < n → (x y : ℕ) → x ≡ a + 2 * k → y ≡ b + 2 * k → num 8 s x ≡ num 8 s y → left s a m b n k ≡ left s a m b n (k + 4)
  four-over k h i x y p q e =
      let f = four_same s bytes x y e in
      let one : (j : ℕ) → j < 4 → left s a m b n (k + j) ≡ left s a m b n (k + j + 1) = λ j l. same-1 (k + j) (omega arith) (omega arith) (x + 2 * j) (y + 2 * j) (omega arith) (omega arith) (f j l) in
      let z0 : k ≡ k + 0 = omega arith in
      let z1 : k + 0 + 1 ≡ k + 1 = omega arith in
      let z2 : k + 1 + 1 ≡ k + 2 = omega arith in
      let z3 : k + 2 + 1 ≡ k + 3 = omega arith in
      let z4 : k + 3 + 1 ≡ k + 4 = omega arith in
      ap (left s a m b n) z0 ∙ one 0 (omega arith) ∙ ap (left s a m b n) z1 ∙ one 1 (omega arith) ∙ ap (left s a m b n) z2 ∙ one 2 (omega arith) ∙ ap (left s a m b n) z3 ∙ one 3 (omega arith) ∙ ap (left s a m b n) z4

-- seen from the other name
pub left-turned : (s : List ℕ) (a m b n k : ℕ) → left s a m b n k ≡ turn (left s b n a m k)
left-turned s a m b n k = names-total.turned (nums 2 (n - k) s (b + 2 * k)) (nums 2 (m - k) s (a + 2 * k))

pub four-greater : (s : List ℕ) (bytes : Bytes s) (a m b n k : ℕ) → k + 3 < m → k + 3 < n → (x y : ℕ) → x ≡ a + 2 * k → y ≡ b + 2 * k → num 8 s y < num 8 s x → greater ≡ left s a m b n k
four-greater s bytes a m b n k h i x y p q l = ap turn (four-less s bytes b n a m k i h y x q p l) ∙ sym (left-turned s a m b n k)

-- ---- how many units there are

pub units-none : (s : List ℕ) (at : ℕ) → length s < at + 4 → units_at s at ≡ 0
units-none s at h = ap (λ (x : Bool). pick x (pick (leb (num 4 s at) ((length s - 4 - at) / 2)) (num 4 s at) ((length s - 4 - at) / 2)) 0) (lt-leb (at + 4) (length s) h)

-- where there is no count
pub units_missing : (s : List ℕ) (at : ℕ) {x p r f : ℕ} → refuse x p r f ≡ field 4 s at → units_at s at ≡ 0
unfolding field
units_missing s at {x = x} {p = p} {r = r} {f = f} e = go (leb 4 (length s - at)) refl e
  where
    go : (b : Bool) → leb 4 (length s - at) ≡ b → refuse x p r f ≡ pick b (ok (num 4 s at) (at + 4)) (refuse 2 at 0 0) → units_at s at ≡ 0
    go true h q = let z : ◌≡◌ {A = ℕ} 0 1 = cc in absurd (omega arith)
    go false h q = units-none s at (omega (arith, leb-false 4 (length s - at) h))

module _ (s : List ℕ) (at : ℕ) (h : at + 4 ≤ length s) where
  by_count : units_at s at ≡ pick (leb (num 4 s at) ((length s - 4 - at) / 2)) (num 4 s at) ((length s - 4 - at) / 2)
  by_count = ap (λ (x : Bool). pick x (pick (leb (num 4 s at) ((length s - 4 - at) / 2)) (num 4 s at) ((length s - 4 - at) / 2)) 0) (le-leb (at + 4) (length s) h)

  pub units-counted : num 4 s at ≤ (length s - 4 - at) / 2 → units_at s at ≡ num 4 s at
  units-counted l = by_count ∙ ap (λ (x : Bool). pick x (num 4 s at) ((length s - 4 - at) / 2)) (le-leb (num 4 s at) ((length s - 4 - at) / 2) l)

  pub units_cut : (length s - 4 - at) / 2 < num 4 s at → units_at s at ≡ (length s - 4 - at) / 2
  units_cut l = by_count ∙ ap (λ (x : Bool). pick x (num 4 s at) ((length s - 4 - at) / 2)) (lt-leb (num 4 s at) ((length s - 4 - at) / 2) l)

  -- the lesser of what the count says and what the file holds
  pub units-is : (r : ℕ) → r ≡ min (num 4 s at) ((length s - (at + 4)) / 2) → r ≡ units_at s at
  units-is r f = go (leb (num 4 s at) ((length s - 4 - at) / 2)) refl
    where
      go : (b : Bool) → leb (num 4 s at) ((length s - 4 - at) / 2) ≡ b → r ≡ units_at s at
      go true e = let l = leb-true (num 4 s at) ((length s - 4 - at) / 2) e in omega (arith, f, units-counted l)
      go false e = let l = leb-false (num 4 s at) ((length s - 4 - at) / 2) e in omega (arith, f, units_cut l)

-- ---- what decides

pub told_compare : (u v : ℕ) (r : Ordering) → r ≡ nat_cmp u v → told r ≡ compare u v
told_compare u v r e = go r (ranked u v r e)
  where
    go : (r : Ordering) → MatchOrdering r (u < v) (u ≡ v) (v < u) → told r ≡ compare u v
    go Less h = sym (compare-less u v h)
    go Equal h = sym (compare_same u v h)
    go Greater h = sym (compare-more u v h)

-- of two different numbers
decides : (o : Order) (u v : ℕ) (r : Ordering) → r ≡ nat_cmp u v → (u ≡ v → ⊥) → (u < v → less ≡ o) → (v < u → greater ≡ o) → told r ≡ o
decides o u v r e ne f g = go r (ranked u v r e)
  where
    go : (r : Ordering) → MatchOrdering r (u < v) (u ≡ v) (v < u) → told r ≡ o
    go Less h = f h
    go Equal h = absurd (ne h)
    go Greater h = g h

module _ (s : List ℕ) (a m b n k : ℕ) where
  pub unit-decides : k < m → k < n → (u v : ℕ) → u ≡ num 2 s (a + 2 * k) → v ≡ num 2 s (b + 2 * k) → (u ≡ v → ⊥) → (r : Ordering) → r ≡ nat_cmp u v → told r ≡ left s a m b n k
  unit-decides h i u v p q ne r e = decides _ u v r e ne (λ l. left_less s a m b n k h i (omega arith)) (λ l. left-greater s a m b n k h i (omega arith))

  pub four-decides : Bytes s → k + 3 < m → k + 3 < n → (x y : ℕ) → x ≡ a + 2 * k → y ≡ b + 2 * k → (u v : ℕ) → u ≡ num 8 s x → v ≡ num 8 s y → (u ≡ v → ⊥) → (r : Ordering) → r ≡ nat_cmp u v → told r ≡ left s a m b n k
  four-decides bytes h i x y p q u v e f ne r c =
      decides _ u v r c ne (λ l. four-less s bytes a m b n k h i x y p q (omega arith)) (λ l. four-greater s bytes a m b n k h i x y p q (omega arith))

  -- where one of the two ends
  pub length-decides : k ≡ min m n → (r : Ordering) → r ≡ nat_cmp m n → told r ≡ left s a m b n k
  length-decides f r e = go r (ranked m n r e)
    where
      go : (r : Ordering) → MatchOrdering r (m < n) (m ≡ n) (n < m) → told r ≡ left s a m b n k
      go Less h = left-short s a m b n h ∙ ap (left s a m b n) (omega (arith, f))
      go Equal h = left-none s a m b n h ∙ ap (left s a m b n) (omega (arith, f))
      go Greater h = left-long s a m b n h ∙ ap (left s a m b n) (omega (arith, f))

module _ (s us : List ℕ) (b n k : ℕ) where
  pub rest-decides : k < length us → k < n → (u v : ℕ) → u ≡ get_or us k 0 → v ≡ num 2 s (b + 2 * k) → (u ≡ v → ⊥) → (r : Ordering) → r ≡ nat_cmp u v → told r ≡ rest s us b n k
  rest-decides h i u v p q ne r e = decides _ u v r e ne (λ l. rest-less s us b n k h i (omega (arith, p, q))) (λ l. rest-greater s us b n k h i (omega (arith, p, q)))

  pub rest-lengths : k ≡ min (length us) n → (r : Ordering) → r ≡ nat_cmp (length us) n → told r ≡ rest s us b n k
  rest-lengths f r e = go r (ranked (length us) n r e)
    where
      go : (r : Ordering) → MatchOrdering r (length us < n) (length us ≡ n) (n < length us) → told r ≡ rest s us b n k
      go Less h = rest-short s us b n h ∙ ap (rest s us b n) (omega (arith, f))
      go Equal h = rest-none s us b n h ∙ ap (rest s us b n) (omega (arith, f))
      go Greater h = rest-long s us b n h ∙ ap (rest s us b n) (omega (arith, f))
