-- Laws of binary insertion: a stretch that goes one way, turned round where it falls, and a key moved among those in order. Assumes nothing.
use Prim.Native.Nat.{ℕ, ◌+◌, ◌-◌, ◌*◌, ◌≤◌, ◌<◌}
use mathlib.Core.Path.{◌≡◌, refl, sym, ap, ap₂, ◌∙◌}
use mathlib.Core.List.{List, ◌++◌}
use mathlib.Core.Bool.{Bool, true, false, true≢false, not, beq}
use mathlib.Core.Logic.{◌⊎◌, inl, inr}
use lib.ListN.{length, get_or, take, drop}
use native.Mathlib.Omega.{arith}
use borrow.Rule.Slice.PartMut.{mid_of, post_of, put_mid, same_len_mid}
use Rattle.std.specs.List.{ReversedBelow}
use Rattle.std.specs.List.Sorted.{IsPartitionedBy, IsPartitionPoint}
use Rattle.std.proofs.lemmas.List.{get_or-take, get_or-drop, get_or_append_left, get_or-append_right, get_or_default, length-take, length-take-le, length-drop}
use Rattle.order.specs.Order.{Order, less, same, greater, is_less, compare}
use Rattle.order.specs.Run.{NotBefore, Ordered}
use Rattle.order.specs.scaffold.Total.{Total}
use Rattle.order.proofs.Orders.{Three, lower, equal, higher, three}
use Rattle.order.proofs.Runs.{same_or, not-both, not_on}
use Rattle.order.proofs.Heaps.{carried, steps-ordered}
use Rattle.acb_sort.specs.scaffold.Stretch.{Stretch}

-- ---- a stretch that goes one way

pub one_more : (by : ℕ → ℕ → Order) (xs : List ℕ) (down : Bool) (k : ℕ) → 1 ≤ k → ((j : ℕ) → j + 1 < k → is_less (by (get_or xs (j + 1) 0) (get_or xs j 0)) ≡ down) → is_less (by (get_or xs k 0) (get_or xs (k - 1) 0)) ≡ down → (j : ℕ) → j + 1 < k + 1 → is_less (by (get_or xs (j + 1) 0) (get_or xs j 0)) ≡ down
one_more by xs down k some f e j h = go (same_or (j + 1) k)
  where
    go : (j + 1 ≡ k) ⊎ (j + 1 ≡ k → ⊥) → is_less (by (get_or xs (j + 1) 0) (get_or xs j 0)) ≡ down
    go (inl q) = let z : j ≡ k - 1 = omega arith in ap₂ (λ (u v : ℕ). is_less (by (get_or xs u 0) (get_or xs v 0))) q z ∙ e
    go (inr q) = f j (omega arith)

pub agree : (a b : Bool) → not (beq a b) ≡ false → a ≡ b
agree true true e = refl
agree true false e = absurd (true≢false e)
agree false true e = absurd (true≢false e)
agree false false e = refl

module _ {by : ℕ → ℕ → Order} (t : Total by) where
  module _ (xs : List ℕ) (down : Bool) (n : ℕ) (s : Stretch by xs down n) where
    pub up-ordered : down ≡ false → Ordered by n xs
    up-ordered e = steps-ordered t n xs (λ k h. s.steps k h ∙ e)

    module _ (r : List ℕ) (len : length r ≡ length (take n xs)) (by_index : ReversedBelow (take n xs) r (length (take n xs))) where
      turned : (k : ℕ) → k < n → get_or (r ++ drop n xs) k 0 ≡ get_or xs (n - 1 - k) 0
      turned k h =
          let w = s.within in
          let c = length-take-le n xs w in
          let e : length (take n xs) - 1 - k ≡ n - 1 - k = omega (arith, c) in
          get_or_append_left r (drop n xs) 0 k (omega (arith, len, c)) ∙ by_index k 0 (omega (arith, c)) ∙ ap (λ (z : ℕ). get_or (take n xs) z 0) e ∙ get_or-take n xs (n - 1 - k) 0 (omega arith)

      pub down-ordered : down ≡ true → Ordered by n (r ++ drop n xs)
      down-ordered e = steps-ordered t n (r ++ drop n xs) step
        where
          step : (k : ℕ) → k + 1 < n → NotBefore by (r ++ drop n xs) (k + 1) k
          step k h =
              let a : n - 1 - (k + 1) ≡ n - 2 - k = omega arith in
              let b : n - 1 - k ≡ n - 2 - k + 1 = omega arith in
              carried t _ _ (get_or xs (n - 2 - k) 0) (get_or xs (n - 2 - k + 1) 0) (turned (k + 1) h ∙ ap (λ (z : ℕ). get_or xs z 0) a) (turned k (omega arith) ∙ ap (λ (z : ℕ). get_or xs z 0) b)
              (not-both t (get_or xs (n - 2 - k + 1) 0) (get_or xs (n - 2 - k) 0) (s.steps (n - 2 - k) (omega arith) ∙ e))

  -- ---- a key x moved to place k among the first i

  module _ (xs ys : List ℕ) (i k x : ℕ) (o : Ordered by i xs) (ki : k ≤ i)
      (low : (j : ℕ) → j < k → get_or ys j 0 ≡ get_or xs j 0) (at : get_or ys k 0 ≡ x) (high : (j : ℕ) → k < j → j < i + 1 → get_or ys j 0 ≡ get_or xs (j - 1) 0)
      (up : (j : ℕ) → j < k → is_less (by (get_or xs j 0) x) ≡ true) (rest : (j : ℕ) → k ≤ j → j < i → is_less (by (get_or xs j 0) x) ≡ false) where
    pub inserted : Ordered by (i + 1) ys
    inserted a b h l = go (compare a k) (compare b k) (three a k) (three b k)
      where
        at_k : (c : ℕ) → c ≡ k → get_or ys c 0 ≡ x
        at_k c e = ap (λ (z : ℕ). get_or ys z 0) e ∙ at

        go : (p q : Order) → Three a k p → Three b k q → NotBefore by ys b a
        go less less (lower u) (lower v) = carried t _ _ (get_or xs b 0) (get_or xs a 0) (low b v) (low a u) (o a b h (omega arith))
        go less same (lower u) (equal v) = carried t _ _ x (get_or xs a 0) (at_k b v) (low a u) (not-both t (get_or xs a 0) x (up a u))
        go less greater (lower u) (higher v) = carried t _ _ (get_or xs (b - 1) 0) (get_or xs a 0) (high b v l) (low a u) (o a (b - 1) (omega arith) (omega arith))
        go same less (equal u) (lower v) = absurd (omega arith)
        go same same (equal u) (equal v) = absurd (omega arith)
        go same greater (equal u) (higher v) = carried t _ _ (get_or xs (b - 1) 0) x (high b v l) (at_k a u) (rest (b - 1) (omega arith) (omega arith))
        go greater less (higher u) (lower v) = absurd (omega arith)
        go greater same (higher u) (equal v) = absurd (omega arith)
        go greater greater (higher u) (higher v) = carried t _ _ (get_or xs (b - 1) 0) (get_or xs (a - 1) 0) (high b v l) (high a u (omega arith)) (o (a - 1) (b - 1) (omega arith) (omega arith))

-- ---- where a key x goes among the first i

less-down : {by : ℕ → ℕ → Order} (t : Total by) (a b x : ℕ) → is_less (by b a) ≡ false → is_less (by b x) ≡ true → is_less (by a x) ≡ true
less-down {by} t a b x p q = go (is_less (by a x)) refl
  where
    go : (o : Bool) → is_less (by a x) ≡ o → is_less (by a x) ≡ true
    go true e = e
    go false e = absurd (true≢false (sym q ∙ not_on t b a x p e))

module _ {by : ℕ → ℕ → Order} (t : Total by) (xs : List ℕ) (i x : ℕ) (room : i ≤ length xs) (o : Ordered by i xs) where
  count : length (take i xs) ≡ i
  count = length-take-le i xs room

  taken : (j d : ℕ) → j < i → get_or (take i xs) j d ≡ get_or xs j 0
  taken j d h = get_or-take i xs j d h ∙ get_or_default xs j d 0 (omega arith)

  pub partitioned : IsPartitionedBy (λ y. is_less (by y x)) (take i xs)
  partitioned a b d h l p = ap (λ (y : ℕ). is_less (by y x)) (taken a d (omega (arith, count))) ∙ go (same_or a b)
    where
      at_b : is_less (by (get_or xs b 0) x) ≡ true
      at_b = ap (λ (y : ℕ). is_less (by y x)) (sym (taken b d (omega (arith, count)))) ∙ p

      go : (a ≡ b) ⊎ (a ≡ b → ⊥) → is_less (by (get_or xs a 0) x) ≡ true
      go (inl e) = ap (λ (z : ℕ). is_less (by (get_or xs z 0) x)) e ∙ at_b
      go (inr n) = less-down t (get_or xs a 0) (get_or xs b 0) x (o a b (omega arith) (omega (arith, count))) at_b

  module _ (k : ℕ) (ki : k ≤ length (take i xs)) (p : IsPartitionPoint (λ y. is_less (by y x) ≡ true) (λ y. is_less (by y x) ≡ false) (take i xs) k) where
    pub point-up : (j : ℕ) → j < k → is_less (by (get_or xs j 0) x) ≡ true
    point-up j h = ap (λ (y : ℕ). is_less (by y x)) (sym (taken j 0 (omega (arith, count)))) ∙ p.0 j 0 (omega arith) h

    pub point-rest : (j : ℕ) → k ≤ j → j < i → is_less (by (get_or xs j 0) x) ≡ false
    point-rest j a h = ap (λ (y : ℕ). is_less (by y x)) (sym (taken j 0 h)) ∙ p.1 j 0 a (omega (arith, count))

-- ---- where keys stand when those from place k on, n of them, are reversed

module _ (xs r : List ℕ) (k n : ℕ) (room : k + n ≤ length xs) (len : length r ≡ length (mid_of k n xs)) (by_index : ReversedBelow (mid_of k n xs) r (length (mid_of k n xs))) where
  mid : length (mid_of k n xs) ≡ n
  mid = omega (arith, length-take n (drop k xs), length-drop k xs)

  front : length (take k xs) ≡ k
  front = length-take-le k xs (omega arith)

  inner : (j : ℕ) → j < n → get_or (put_mid k n xs r) (k + j) 0 ≡ get_or r j 0
  inner j h =
      let e : k + j - k ≡ j = omega arith in
      get_or-append_right (take k xs) (r ++ post_of k n xs) k (k + j) 0 front (omega arith) ∙ ap (λ (z : ℕ). get_or (r ++ post_of k n xs) z 0) e ∙ get_or_append_left r (post_of k n xs) 0 j (omega (arith, len, mid))

  outer : (j : ℕ) → j < n → get_or (mid_of k n xs) j 0 ≡ get_or xs (k + j) 0
  outer j h = get_or-take n (drop k xs) j 0 h ∙ get_or-drop k xs j 0

  pub reversed-low : (j : ℕ) → j < k → get_or (put_mid k n xs r) j 0 ≡ get_or xs j 0
  reversed-low j h = get_or_append_left (take k xs) (r ++ post_of k n xs) 0 j (omega (arith, front)) ∙ get_or-take k xs j 0 h

  pub reversed-in : (j i : ℕ) → j + i + 1 ≡ 2 * k + n → k ≤ j → k ≤ i → get_or (put_mid k n xs r) j 0 ≡ get_or xs i 0
  reversed-in j i h l m =
      let a : j ≡ k + (j - k) = omega arith in
      let b : length (mid_of k n xs) - 1 - (j - k) ≡ i - k = omega (arith, mid) in
      let e : k + (i - k) ≡ i = omega arith in
      ap (λ (z : ℕ). get_or (put_mid k n xs r) z 0) a ∙ inner (j - k) (omega arith) ∙ by_index (j - k) 0 (omega (arith, mid)) ∙ ap (λ (z : ℕ). get_or (mid_of k n xs) z 0) b ∙ outer (i - k) (omega arith) ∙ ap (λ (z : ℕ). get_or xs z 0) e

  pub reversed-behind : (j : ℕ) → k + n ≤ j → get_or (put_mid k n xs r) j 0 ≡ get_or xs j 0
  reversed-behind j h =
      let e : k + (n + (j - k - n)) ≡ j = omega arith in
      get_or-append_right (take k xs) (r ++ post_of k n xs) k j 0 front (omega arith) ∙ get_or-append_right r (post_of k n xs) n (j - k) 0 (len ∙ mid) (omega arith) ∙ get_or-drop n (drop k xs) (j - k - n) 0 ∙ get_or-drop k xs (n + (j - k - n)) 0 ∙ ap (λ (z : ℕ). get_or xs z 0) e

-- ---- where keys stand when those from k to i are reversed, and then those from k to i and that at i

module _ (xs r q : List ℕ) (k i : ℕ) (ki : k ≤ i) (room : i < length xs)
    (len : length r ≡ length (mid_of k (i - k) xs)) (by_index : ReversedBelow (mid_of k (i - k) xs) r (length (mid_of k (i - k) xs)))
    (len₂ : length q ≡ length (mid_of k (i + 1 - k) (put_mid k (i - k) xs r)))
    (by_index₂ : ReversedBelow (mid_of k (i + 1 - k) (put_mid k (i - k) xs r)) q (length (mid_of k (i + 1 - k) (put_mid k (i - k) xs r)))) where
  abbrev half : List ℕ
  half = put_mid k (i - k) xs r

  within : k + (i - k) ≤ length xs
  within = omega arith

  within₂ : k + (i + 1 - k) ≤ length half
  within₂ = omega (arith, same_len_mid k (i - k) xs r len)

  pub turned-low : (j : ℕ) → j < k → get_or (put_mid k (i + 1 - k) half q) j 0 ≡ get_or xs j 0
  turned-low j h = reversed-low half q k (i + 1 - k) within₂ len₂ by_index₂ j h ∙ reversed-low xs r k (i - k) within len by_index j h

  pub turned-at : get_or (put_mid k (i + 1 - k) half q) k 0 ≡ get_or xs i 0
  turned-at = reversed-in half q k (i + 1 - k) within₂ len₂ by_index₂ k i (omega arith) (omega arith) ki ∙ reversed-behind xs r k (i - k) within len by_index i (omega arith)

  pub turned-high : (j : ℕ) → k < j → j < i + 1 → get_or (put_mid k (i + 1 - k) half q) j 0 ≡ get_or xs (j - 1) 0
  turned-high j h l = reversed-in half q k (i + 1 - k) within₂ len₂ by_index₂ j (k + i - j) (omega arith) (omega arith) (omega arith) ∙ reversed-in xs r k (i - k) within len by_index (k + i - j) (j - 1) (omega arith) (omega arith) (omega arith)
