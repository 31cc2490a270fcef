-- Laws of heaps over any total order. Assumes nothing.
use Prim.Native.Nat.{ℕ, zero, suc, ◌+◌, ◌-◌, ◌*◌, ◌/◌, ◌≤◌, ◌<◌}
use mathlib.Core.Path.{◌≡◌, refl, sym, ap, ap₂, ◌∙◌, subst}
use mathlib.Core.List.{List}
use mathlib.Core.Bool.{Bool, true, false}
use mathlib.Core.Logic.{◌⊎◌, inl, inr}
use lib.Dec.{ltb}
use lib.ListN.{length, get_or, set, length-set}
use lib.Seq.{get_or-set_same, get_or-set_other, set-set, set-get_or}
use borrow.Author.Tests.{ltb-true, ltb-false}
use native.Mathlib.Omega.{arith}
use native.Mathlib.Numerals.{add-one}
use Rattle.order.specs.Order.{Order, is_less}
use Rattle.order.specs.scaffold.Total.{Total}
use Rattle.order.specs.Run.{Rearranged, NotBefore, Ordered}
use Rattle.order.specs.scaffold.Heap.{swapped, Heap, Loose, Above, Child, Tail, Held}
use Rattle.order.proofs.Runs.{same_or, swapped-second, swapped-first, swapped_other, length-swapped, moved_on, unmoved, swap-moves}
use Rattle.order.proofs.Runs as runs

-- ---- exchanging two places

-- a value that is carried, and stands nowhere until it is set down: setting it down at c, after what stood there moved to h, is an exchange
pub carried_on : (xs : List ℕ) (h c x : ℕ) → h < length xs → (c ≡ h → ⊥) → set (set xs h (get_or xs c 0)) c x ≡ swapped (set xs h x) h c
carried_on xs h c x l ne =
    let a : get_or (set xs h x) c 0 ≡ get_or xs c 0 = get_or-set_other xs h c x 0 ne in
    let b : get_or (set xs h x) h 0 ≡ x = get_or-set_same xs h x 0 l in
    ap (λ (ys : List ℕ). set ys c x) (sym (set-set xs h x (get_or xs c 0)))
    ∙ ap₂ (λ (u v : ℕ). set (set (set xs h x) h u) c v) (sym a) (sym b)

-- ---- rearrangements

-- a part of the first n
pub moved_more : {m n : ℕ} {xs ys : List ℕ} → m ≤ n → Rearranged m xs ys → Rearranged n xs ys
moved_more {m} {n} h a = record {
  count = a.count;
  from = a.from;
  is = a.is;
  inside = λ k l. go k l (below k m);
  outside = λ k l. a.outside k (omega arith);
  once = a.once;
}
  where
    below : (k m : ℕ) → (k < m) ⊎ (m ≤ k)
    below k m = half (ltb k m) refl
      where
        half : (t : Bool) → ltb k m ≡ t → (k < m) ⊎ (m ≤ k)
        half true e = inl (omega (arith, ltb-true k m e))
        half false e = inr (omega (arith, ltb-false k m e))

    go : (k : ℕ) → k < n → (k < m) ⊎ (m ≤ k) → a.from k < n
    go k l (inl g) = omega (arith, a.inside k g)
    go k l (inr g) = omega (arith, a.outside k g)

-- ---- order

module _ {by : ℕ → ℕ → Order} (t : Total by) where
  -- not before is reflexive, and goes on
  pub not_itself : (a : ℕ) → is_less (by a a) ≡ false
  not_itself a = ap is_less (t.itself a)

  not-both : (a b : ℕ) → is_less (by a b) ≡ true → is_less (by b a) ≡ false
  not-both = runs.not-both t

  not_on : (a b c : ℕ) → is_less (by a b) ≡ false → is_less (by b c) ≡ false → is_less (by a c) ≡ false
  not_on = runs.not_on t

  -- the same of what stands at places, where the runs differ
  pub carried : (a b c d : ℕ) → a ≡ c → b ≡ d → is_less (by c d) ≡ false → is_less (by a b) ≡ false
  carried a b c d p q h = ap₂ (λ (x y : ℕ). is_less (by x y)) p q ∙ h

  -- ---- heaps

  -- a place has no children past the middle
  pub heap-start : (n : ℕ) (xs : List ℕ) → Heap by (n / 2) n xs
  heap-start n xs k c h a b d = absurd (omega arith)

  pub heap-less : (n lo : ℕ) (xs : List ℕ) → Heap by (lo + 1) n xs → Loose by lo n lo xs
  heap-less n lo xs h = record {
    edges = λ k c a ne nc b d e. h k c (omega arith) b d e;
    grand = λ k c a b d e f g. absurd (omega arith);
  }

  -- down: what stands at h changes places with its greater child
  module _ {lo n h : ℕ} {xs : List ℕ} (s : Loose by lo n h xs) (c : ℕ) (g : Child by n h xs c) (len : n ≤ length xs) (lh : lo ≤ h) where
    at-h : get_or (swapped xs h c) h 0 ≡ get_or xs c 0
    at-h = swapped-first xs h c (omega (arith, g.low, g.inside)) (omega (arith, g.inside))

    other : (k : ℕ) → (k ≡ h → ⊥) → (k ≡ c → ⊥) → get_or (swapped xs h c) k 0 ≡ get_or xs k 0
    other = swapped_other xs h c (omega (arith, g.low, g.inside)) (omega (arith, g.inside))

    pub down-on : Loose by lo n c (swapped xs h c)
    down-on = record { edges = edges; grand = grand }
      where
        edges : (k d : ℕ) → lo ≤ k → (k ≡ c → ⊥) → (d ≡ c → ⊥) → 2 * k < d → d ≤ 2 * k + 2 → d < n → NotBefore by (swapped xs h c) k d
        edges k d a ne nd p q e = go (same_or k h) (same_or d h)
          where
            go : (k ≡ h) ⊎ (k ≡ h → ⊥) → (d ≡ h) ⊎ (d ≡ h → ⊥) → NotBefore by (swapped xs h c) k d
            go (inl kh) x = carried _ _ (get_or xs c 0) (get_or xs d 0) (ap (λ (z : ℕ). get_or (swapped xs h c) z 0) kh ∙ at-h) (other d (λ z. omega arith) nd) (g.best d (omega arith) (omega arith) e)
            go (inr kh) (inl dh) = carried _ _ (get_or xs k 0) (get_or xs c 0) (other k kh ne) (ap (λ (z : ℕ). get_or (swapped xs h c) z 0) dh ∙ at-h) (s.grand k c a (omega arith) (omega arith) g.low g.high g.inside)
            go (inr kh) (inr dh) = carried _ _ (get_or xs k 0) (get_or xs d 0) (other k kh ne) (other d dh nd) (s.edges k d a kh dh p q e)

        grand : (k d : ℕ) → lo ≤ k → 2 * k < c → c ≤ 2 * k + 2 → 2 * c < d → d ≤ 2 * c + 2 → d < n → NotBefore by (swapped xs h c) k d
        grand k d a p q u v e =
            let l = g.low in
            let r = g.high in
            let kh : k ≡ h = omega arith in
            carried _ _ (get_or xs c 0) (get_or xs d 0) (ap (λ (z : ℕ). get_or (swapped xs h c) z 0) kh ∙ at-h) (other d (λ z. omega arith) (λ z. omega arith)) (s.edges c d (omega arith) (λ z. omega arith) (λ z. omega arith) u v e)

  pub down-end : (n h : ℕ) (xs : List ℕ) → n ≤ 2 * h + 1 → Above by n h xs
  down-end n h xs l c a b d = absurd (omega arith)

  -- up: what stands at h changes places with its parent, where the parent comes before it
  module _ {lo n h : ℕ} {xs : List ℕ} (s : Loose by lo n h xs) (above : Above by n h xs) where
    pub up_root : ((k : ℕ) → lo ≤ k → 2 * k < h → h ≤ 2 * k + 2 → ⊥) → Heap by lo n xs
    up_root none k c a p q i = go (same_or k h)
      where
        go : (k ≡ h) ⊎ (k ≡ h → ⊥) → NotBefore by xs k c
        go (inl z) = ap (λ (y : ℕ). is_less (by (get_or xs y 0) (get_or xs c 0))) z ∙ above c (omega arith) (omega arith) i
        go (inr z) = s.edges k c a z (λ y. none k a (omega arith) (omega arith)) p q i

    module _ (p : ℕ) (low : 2 * p < h) (high : h ≤ 2 * p + 2) (lp : lo ≤ p) where
      pub up-end : NotBefore by xs p h → Heap by lo n xs
      up-end nb k c a b d i = go (same_or k h) (same_or c h)
        where
          go : (k ≡ h) ⊎ (k ≡ h → ⊥) → (c ≡ h) ⊎ (c ≡ h → ⊥) → NotBefore by xs k c
          go (inl z) x = ap (λ (y : ℕ). is_less (by (get_or xs y 0) (get_or xs c 0))) z ∙ above c (omega arith) (omega arith) i
          go (inr z) (inl y) = let kp : k ≡ p = omega arith in ap₂ (λ (u v : ℕ). is_less (by (get_or xs u 0) (get_or xs v 0))) kp y ∙ nb
          go (inr z) (inr y) = s.edges k c a z y b d i

      module _ (hn : h < n) (len : n ≤ length xs) (up : is_less (by (get_or xs p 0) (get_or xs h 0)) ≡ true) where
        up-p : get_or (swapped xs h p) p 0 ≡ get_or xs h 0
        up-p = swapped-second xs h p (omega arith) (omega arith)

        up-h : get_or (swapped xs h p) h 0 ≡ get_or xs p 0
        up-h = swapped-first xs h p (omega arith) (omega arith)

        up-other : (k : ℕ) → (k ≡ h → ⊥) → (k ≡ p → ⊥) → get_or (swapped xs h p) k 0 ≡ get_or xs k 0
        up-other = swapped_other xs h p (omega arith) (omega arith)

        pub up_above : Above by n p (swapped xs h p)
        up_above c a b i = go (same_or c h)
          where
            go : (c ≡ h) ⊎ (c ≡ h → ⊥) → NotBefore by (swapped xs h p) p c
            go (inl e) = carried _ _ (get_or xs h 0) (get_or xs p 0) up-p (ap (λ (z : ℕ). get_or (swapped xs h p) z 0) e ∙ up-h) (not-both (get_or xs p 0) (get_or xs h 0) up)
            go (inr e) =
                carried _ _ (get_or xs h 0) (get_or xs c 0) up-p (up-other c e (λ z. omega arith))
                (not_on (get_or xs h 0) (get_or xs p 0) (get_or xs c 0) (not-both (get_or xs p 0) (get_or xs h 0) up) (s.edges p c lp (λ z. omega arith) e a b i))

        pub up-on : Loose by lo n p (swapped xs h p)
        up-on = record { edges = edges; grand = grand }
          where
            edges : (k d : ℕ) → lo ≤ k → (k ≡ p → ⊥) → (d ≡ p → ⊥) → 2 * k < d → d ≤ 2 * k + 2 → d < n → NotBefore by (swapped xs h p) k d
            edges k d a ne nd u v e = go (same_or k h)
              where
                go : (k ≡ h) ⊎ (k ≡ h → ⊥) → NotBefore by (swapped xs h p) k d
                go (inl kh) =
                    carried _ _ (get_or xs p 0) (get_or xs d 0) (ap (λ (z : ℕ). get_or (swapped xs h p) z 0) kh ∙ up-h) (up-other d (λ z. omega arith) nd)
                    (s.grand p d lp low high (omega arith) (omega arith) e)
                go (inr kh) = carried _ _ (get_or xs k 0) (get_or xs d 0) (up-other k kh ne) (up-other d (λ z. omega arith) nd) (s.edges k d a kh (λ z. omega arith) u v e)

            grand : (k d : ℕ) → lo ≤ k → 2 * k < p → p ≤ 2 * k + 2 → 2 * p < d → d ≤ 2 * p + 2 → d < n → NotBefore by (swapped xs h p) k d
            grand k d a u v x y e = go (same_or d h)
              where
                kp : NotBefore by xs k p
                kp = s.edges k p a (λ z. omega arith) (λ z. omega arith) u v (omega arith)

                go : (d ≡ h) ⊎ (d ≡ h → ⊥) → NotBefore by (swapped xs h p) k d
                go (inl dh) = carried _ _ (get_or xs k 0) (get_or xs p 0) (up-other k (λ z. omega arith) (λ z. omega arith)) (ap (λ (z : ℕ). get_or (swapped xs h p) z 0) dh ∙ up-h) kp
                go (inr dh) =
                    carried _ _ (get_or xs k 0) (get_or xs d 0) (up-other k (λ z. omega arith) (λ z. omega arith)) (up-other d dh (λ z. omega arith))
                    (not_on (get_or xs k 0) (get_or xs p 0) (get_or xs d 0) kp (s.edges p d lp (λ z. omega arith) dh x y e))

  -- ---- the greater child

  module _ (n h : ℕ) (xs : List ℕ) where
    pub child-only : 2 * h + 1 < n → n ≤ 2 * h + 1 + 1 → Child by n h xs (2 * h + 1)
    child-only a b = record {
      low = omega arith;
      high = omega arith;
      inside = a;
      best = λ d u v w. let e : d ≡ 2 * h + 1 = omega arith in ap (λ (y : ℕ). is_less (by (get_or xs (2 * h + 1) 0) (get_or xs y 0))) e ∙ not_itself (get_or xs (2 * h + 1) 0);
    }

    either : (d : ℕ) → 2 * h < d → d ≤ 2 * h + 2 → (d ≡ 2 * h + 1) ⊎ (d ≡ 2 * h + 1 + 1)
    either d a b = go (same_or d (2 * h + 1))
      where
        go : (d ≡ 2 * h + 1) ⊎ (d ≡ 2 * h + 1 → ⊥) → (d ≡ 2 * h + 1) ⊎ (d ≡ 2 * h + 1 + 1)
        go (inl e) = inl e
        go (inr e) = inr (omega arith)

    pub child-left : 2 * h + 1 + 1 < n → NotBefore by xs (2 * h + 1) (2 * h + 1 + 1) → Child by n h xs (2 * h + 1)
    child-left a nb = record { low = omega arith; high = omega arith; inside = omega arith; best = λ d u v w. go d (either d u v) }
      where
        go : (d : ℕ) → (d ≡ 2 * h + 1) ⊎ (d ≡ 2 * h + 1 + 1) → NotBefore by xs (2 * h + 1) d
        go d (inl e) = ap (λ (y : ℕ). is_less (by (get_or xs (2 * h + 1) 0) (get_or xs y 0))) e ∙ not_itself (get_or xs (2 * h + 1) 0)
        go d (inr e) = ap (λ (y : ℕ). is_less (by (get_or xs (2 * h + 1) 0) (get_or xs y 0))) e ∙ nb

    pub child-right : 2 * h + 1 + 1 < n → is_less (by (get_or xs (2 * h + 1) 0) (get_or xs (2 * h + 1 + 1) 0)) ≡ true → Child by n h xs (2 * h + 1 + 1)
    child-right a up = record { low = omega arith; high = omega arith; inside = omega arith; best = λ d u v w. go d (either d u v) }
      where
        go : (d : ℕ) → (d ≡ 2 * h + 1) ⊎ (d ≡ 2 * h + 1 + 1) → NotBefore by xs (2 * h + 1 + 1) d
        go d (inl e) = ap (λ (y : ℕ). is_less (by (get_or xs (2 * h + 1 + 1) 0) (get_or xs y 0))) e ∙ not-both (get_or xs (2 * h + 1) 0) (get_or xs (2 * h + 1 + 1) 0) up
        go d (inr e) = ap (λ (y : ℕ). is_less (by (get_or xs (2 * h + 1 + 1) 0) (get_or xs y 0))) e ∙ not_itself (get_or xs (2 * h + 1 + 1) 0)

  -- ---- with the number carried

  -- what stands at `start` is taken up
  pub held_start : (n lo : ℕ) (xs : List ℕ) → Heap by (lo + 1) n xs → Held by lo n xs lo (get_or xs lo 0) xs
  held_start n lo xs h = record {
    moved = subst (λ (ys : List ℕ). Rearranged n xs ys) (sym (set-get_or xs lo 0)) (unmoved n xs);
    loose = subst (λ (ys : List ℕ). Loose by lo n lo ys) (sym (set-get_or xs lo 0)) (heap-less n lo xs h);
  }

  module _ {lo n h x : ℕ} {xs ys : List ℕ} (s : Held by lo n xs h x ys) (len : n ≤ length ys) (hn : h < n) where
    ys-len : n ≤ length (set ys h x)
    ys-len = omega (arith, length-set ys h x)

    at_x : get_or (set ys h x) h 0 ≡ x
    at_x = get_or-set_same ys h x 0 (omega arith)

    not-x : (k : ℕ) → (k ≡ h → ⊥) → get_or (set ys h x) k 0 ≡ get_or ys k 0
    not-x k ne = get_or-set_other ys h k x 0 ne

    pub held_down : lo ≤ h → (c : ℕ) → Child by n h ys c → Held by lo n xs c x (set ys h (get_or ys c 0))
    held_down lh c g =
        let gl = g.low in
        let gi = g.inside in
        let e : set (set ys h (get_or ys c 0)) c x ≡ swapped (set ys h x) h c = carried_on ys h c x (omega arith) (λ z. omega arith) in
        let g' : Child by n h (set ys h x) c = record { low = gl; high = g.high; inside = gi; best = λ d u v w. carried _ _ (get_or ys c 0) (get_or ys d 0) (not-x c (λ z. omega arith)) (not-x d (λ z. omega arith)) (g.best d u v w) } in
        record {
          moved = subst (λ (zs : List ℕ). Rearranged n xs zs) (sym e) (moved_on s.moved (swap-moves n (set ys h x) h c hn gi ys-len));
          loose = subst (λ (zs : List ℕ). Loose by lo n c zs) (sym e) (down-on s.loose c g' ys-len lh);
        }

    module _ (above : Above by n h (set ys h x)) where
      pub held-root : ((k : ℕ) → lo ≤ k → 2 * k < h → h ≤ 2 * k + 2 → ⊥) → Heap by lo n (set ys h x)
      held-root none = up_root s.loose above none

      module _ (p : ℕ) (low : 2 * p < h) (high : h ≤ 2 * p + 2) (lp : lo ≤ p) where
        pub held-end : is_less (by (get_or ys p 0) x) ≡ false → Heap by lo n (set ys h x)
        held-end nb = up-end s.loose above p low high lp (carried _ _ (get_or ys p 0) x (not-x p (λ z. omega arith)) at_x nb)

        module _ (up : is_less (by (get_or ys p 0) x) ≡ true) where
          up' : is_less (by (get_or (set ys h x) p 0) (get_or (set ys h x) h 0)) ≡ true
          up' = ap₂ (λ (u v : ℕ). is_less (by u v)) (not-x p (λ z. omega arith)) at_x ∙ up

          is-swap : set (set ys h (get_or ys p 0)) p x ≡ swapped (set ys h x) h p
          is-swap = carried_on ys h p x (omega arith) (λ z. omega arith)

          pub held_up : Held by lo n xs p x (set ys h (get_or ys p 0))
          held_up = record {
            moved = subst (λ (zs : List ℕ). Rearranged n xs zs) (sym is-swap) (moved_on s.moved (swap-moves n (set ys h x) h p hn (omega arith) ys-len));
            loose = subst (λ (zs : List ℕ). Loose by lo n p zs) (sym is-swap) (up-on s.loose above p low high lp hn ys-len up');
          }

          pub held-above : Above by n p (set (set ys h (get_or ys p 0)) p x)
          held-above = subst (λ (zs : List ℕ). Above by n p zs) (sym is-swap) (up_above s.loose above p low high lp hn ys-len up')

  -- nothing comes after the root of a heap
  pub heap-root : (n : ℕ) (xs : List ℕ) → Heap by 0 n xs → (m k : ℕ) → k < m → k < n → NotBefore by xs 0 k
  heap-root n xs h zero k l e = absurd (omega arith)
  heap-root n xs h (suc m) k l e = go (same_or k 0) (heap-root n xs h m ((k - 1) / 2))
    where
      go : (k ≡ 0) ⊎ (k ≡ 0 → ⊥) → ((k - 1) / 2 < m → (k - 1) / 2 < n → NotBefore by xs 0 ((k - 1) / 2)) → NotBefore by xs 0 k
      go (inl z) ih = ap (λ (y : ℕ). is_less (by (get_or xs 0 0) (get_or xs y 0))) z ∙ not_itself (get_or xs 0 0)
      go (inr z) ih = not_on (get_or xs 0 0) (get_or xs ((k - 1) / 2) 0) (get_or xs k 0) (ih (omega arith) (omega arith)) (h ((k - 1) / 2) k (omega arith) (omega arith) (omega arith) e)

  -- ---- the last of the heap takes its place behind it

  pub tail-start : (n : ℕ) (xs : List ℕ) → Tail by n n xs
  tail-start n xs i j a b c = absurd (omega arith)

  module _ (m n : ℕ) (xs : List ℕ) (mn : m < n) (len : n ≤ length xs) (hp : Heap by 0 (m + 1) xs) (tl : Tail by (m + 1) n xs) where
    pub tail-swapped : Tail by m n (swapped xs 0 m)
    tail-swapped i j a b c = go (same_or j m)
      where
        moves : Rearranged (m + 1) xs (swapped xs 0 m)
        moves = swap-moves (m + 1) xs 0 m (omega arith) (omega arith) (omega arith)

        early : (i : ℕ) → i < m + 1 → (k : ℕ) × (k < m + 1) × (get_or (swapped xs 0 m) i 0 ≡ get_or xs k 0)
        early i h = (moves.from i, moves.inside i h, moves.is i)

        split : (i : ℕ) → (i < m + 1) ⊎ (m + 1 ≤ i)
        split i = half (ltb i (m + 1)) refl
          where
            half : (b : Bool) → ltb i (m + 1) ≡ b → (i < m + 1) ⊎ (m + 1 ≤ i)
            half true e = inl (ltb-true i (m + 1) e)
            half false e = inr (ltb-false i (m + 1) e)

        stays : (k : ℕ) → m + 1 ≤ k → get_or (swapped xs 0 m) k 0 ≡ get_or xs k 0
        stays k h = moves.is k ∙ ap (λ (z : ℕ). get_or xs z 0) (moves.outside k h)

        go : (j ≡ m) ⊎ (j ≡ m → ⊥) → NotBefore by (swapped xs 0 m) j i
        go (inl e) =
            let x = early i (omega arith) in
            carried _ _ (get_or xs 0 0) (get_or xs x.0 0) (ap (λ (z : ℕ). get_or (swapped xs 0 m) z 0) e ∙ swapped-second xs 0 m (omega arith) (omega arith)) x.2 (heap-root (m + 1) xs hp (m + 1) x.0 x.1 x.1)
        go (inr e) = past (split i)
          where
            past : (i < m + 1) ⊎ (m + 1 ≤ i) → NotBefore by (swapped xs 0 m) j i
            past (inl l) =
                let x = early i l in
                carried _ _ (get_or xs j 0) (get_or xs x.0 0) (stays j (omega arith)) x.2 (tl x.0 j (omega (arith, x.1)) (omega arith) c)
            past (inr l) = carried _ _ (get_or xs j 0) (get_or xs i 0) (stays j (omega arith)) (stays i l) (tl i j a (omega arith) c)

    -- but for the root it is a heap still
    pub heap-swapped : Heap by 1 m (swapped xs 0 m)
    heap-swapped k c a b d e =
        carried _ _ (get_or xs k 0) (get_or xs c 0) (swapped_other xs 0 m (omega arith) (omega arith) k (λ z. omega arith) (λ z. omega arith)) (swapped_other xs 0 m (omega arith) (omega arith) c (λ z. omega arith) (λ z. omega arith)) (hp k c (omega arith) b d (omega arith))

  -- what is only rearranged before m leaves the tail
  pub tail-kept : (m n : ℕ) (xs ys : List ℕ) → m ≤ n → Rearranged m xs ys → Tail by m n xs → Tail by m n ys
  tail-kept m n xs ys mn r tl i j a b c = go (ltb i m) refl
    where
      at_j : get_or ys j 0 ≡ get_or xs j 0
      at_j = r.is j ∙ ap (λ (z : ℕ). get_or xs z 0) (r.outside j b)

      go : (t : Bool) → ltb i m ≡ t → NotBefore by ys j i
      go true e =
          let h = ltb-true i m e in
          carried _ _ (get_or xs j 0) (get_or xs (r.from i) 0) at_j (r.is i) (tl (r.from i) j (omega (arith, r.inside i h)) b c)
      go false e =
          let h = ltb-false i m e in
          carried _ _ (get_or xs j 0) (get_or xs i 0) at_j (r.is i ∙ ap (λ (z : ℕ). get_or xs z 0) (r.outside i h)) (tl i j a b c)

  pub tail-ordered : (m n : ℕ) (xs : List ℕ) → m ≤ 1 → Tail by m n xs → Ordered by n xs
  tail-ordered m n xs h tl i j a b = tl i j a (omega arith) b

  -- where none stands before the one before it, none stands before an earlier one
  pub steps-ordered : (n : ℕ) (xs : List ℕ) → ((k : ℕ) → k + 1 < n → NotBefore by xs (k + 1) k) → Ordered by n xs
  steps-ordered n xs step i zero a b = absurd (omega arith)
  steps-ordered n xs step i (suc j) a b = go (same_or i j) (steps-ordered n xs step i j)
    where
      next : NotBefore by xs (suc j) j
      next = subst (λ (k : ℕ). NotBefore by xs k j) (add-one j) (step j (omega arith))

      go : (i ≡ j) ⊎ (i ≡ j → ⊥) → (i < j → j < n → NotBefore by xs j i) → NotBefore by xs (suc j) i
      go (inl e) ih = subst (λ (k : ℕ). NotBefore by xs (suc j) k) (sym e) next
      go (inr e) ih = not_on (get_or xs (suc j) 0) (get_or xs j 0) (get_or xs i 0) next (ih (omega arith) (omega arith))
