-- Binary search for a name in an index. Assumes nothing.
use Prim.Native.Nat.{ℕ, ◌≤◌, ◌<◌}
use mathlib.Core.Path.{◌≡◌, refl, sym, ap, ◌∙◌}
use mathlib.Core.List.{List, []}
use mathlib.Core.Bool.{Bool, true, false}
use mathlib.Core.Logic.{◌⊎◌, inl, inr}
use lib.Dec.{ltb}
use lib.ListN.{length, get_or, take}
use lib.Seq.{get_or-take, length-take-le}
use borrow.Author.Tests.{ltb-true, ltb-false, lt-ltb}
use Rattle.std.specs.List.Sorted.{IsPartitionedBy, IsPartitionPoint}
use Rattle.std.proofs.lemmas.List.{get_or_default}
use Rattle.algebra.specs.Reader.{pick}
use native.Mathlib.Omega.{arith}
use Rattle.algebra.specs.Table.{accepted, refused}
use Rattle.order.specs.Order.{Order, less, same, greater, is_same_order, compare}
use Rattle.order.specs.scaffold.Total.{turn}
use Rattle.order.proofs.Orders.{else-less, less-is}
use Rattle.order.proofs.Lists.{less-never}
use Rattle.acb_order.specs.Names.{compare_names}
use Rattle.acb_order.specs.Index.{Shown, shown_from, shown_at, by_name, index_of}
use Rattle.acb_order.specs.Search.{begins, lowest}
use Rattle.acb_order.proofs.Names.{names-total}
use Rattle.acb_order.proofs.Index.{begins-right, right-rising, at-shown, shown-at, lowest-is, lowest-none}
use Rattle.acb_find.specs.scaffold.Marks.{is_greater, is_after, at_entry, Bracket}

-- ---- a record of the book

pub in-book : (i count : ℕ) (o : Order) → i < count → pick (ltb i count) o less ≡ o
in-book i count o h = ap (λ (b : Bool). pick b o less) (lt-ltb i count h)

-- ---- names that rise

-- a is not after b
abbrev pub Upto : List ℕ → List ℕ → Type 0
Upto a b = (compare_names a b ≡ less) ⊎ (a ≡ b)

pub rising-names : (a b : Shown) → by_name a b ≡ less → Upto a.name b.name
rising-names a b e = go (else-less (compare_names a.name b.name) (compare a.number b.number) e)
  where
    go : (compare_names a.name b.name ≡ less) ⊎ ((compare_names a.name b.name ≡ same) × (compare a.number b.number ≡ less)) → Upto a.name b.name
    go (inl h) = inl h
    go (inr h) = inr (names-total.equal a.name b.name h.0)

pub greater-down : (us v w : List ℕ) → compare_names us v ≡ greater → Upto w v → compare_names us w ≡ greater
greater-down us v w e (inl h) = names-total.turned w us ∙ ap turn (names-total.onward w v us h (names-total.turned us v ∙ ap turn e))
greater-down us v w e (inr h) = ap (compare_names us) h ∙ e

pub less-up : (us v w : List ℕ) → compare_names us v ≡ less → Upto v w → compare_names us w ≡ less
less-up us v w e (inl h) = names-total.onward us v w e h
less-up us v w e (inr h) = ap (compare_names us) (sym h) ∙ e

pub same_true : (o : Order) → is_same_order o ≡ true → o ≡ same
same_true less y = let z : ◌≡◌ {A = ℕ} 0 1 = cc in absurd (omega arith)
same_true same y = refl
same_true greater y = let z : ◌≡◌ {A = ℕ} 0 1 = cc in absurd (omega arith)

-- ---- lower bound

module _ (ns : List (List ℕ)) (t : List ℕ) (m : ℕ) (e : m ≡ length (shown_from 0 ns)) (b : begins (index_of ns) t ≡ true) (us : List ℕ) where
  upto : (i j : ℕ) → i < j → j < m → Upto (get_or ns (get_or t i 0) []) (get_or ns (get_or t j 0) [])
  upto i j h l = rising-names (shown_at ns (get_or t i 0)) (shown_at ns (get_or t j 0)) (right-rising ns t m e b i j h l)

  same-or-less : (i k : ℕ) → i ≤ k → (i ≡ k) ⊎ (i < k)
  same-or-less i k h = go (ltb i k) refl
    where
      go : (t : Bool) → ltb i k ≡ t → (i ≡ k) ⊎ (i < k)
      go true q = inr (ltb-true i k q)
      go false q = inl (omega (arith, ltb-false i k q))

  greater-true : (o : Order) → is_greater o ≡ true → o ≡ greater
  greater-true less q = let z : ◌≡◌ {A = ℕ} 0 1 = cc in absurd (omega arith)
  greater-true same q = let z : ◌≡◌ {A = ℕ} 0 1 = cc in absurd (omega arith)
  greater-true greater q = refl

  module _ (count : ℕ) (all : length ns ≡ count) where
    -- entry k is a record
    pub entry-is : (k : ℕ) → k < m → pick (ltb (get_or t k 0) count) (at_entry ns t us k) less ≡ at_entry ns t us k
    entry-is k h = let r = begins-right ns t m e b in in-book (get_or t k 0) count (at_entry ns t us k) (omega (arith, (r.listed k h).0, all))

    -- the test of the binary search at entry j
    entry-test : (j d : ℕ) → j < m → is_after ns count us (get_or (take m t) j d) ≡ is_greater (at_entry ns t us j)
    entry-test j d h =
        let r = begins-right ns t m e b in
        let room = r.room in
        let z : get_or (take m t) j d ≡ get_or t j 0 = get_or-take m t j d h ∙ get_or_default t j d 0 (omega arith) in
        ap (is_after ns count us) z ∙ ap is_greater (entry-is j h)

    count-is : length (take m t) ≡ m
    count-is = let r = begins-right ns t m e b in length-take-le m t r.room

    pub partitioned : IsPartitionedBy (is_after ns count us) (take m t)
    partitioned i j d h l p = entry-test i d (omega (arith, count-is)) ∙ go (same-or-less i j h)
      where
        at_j : is_greater (at_entry ns t us j) ≡ true
        at_j = sym (entry-test j d (omega (arith, count-is))) ∙ p

        go : (i ≡ j) ⊎ (i < j) → is_greater (at_entry ns t us i) ≡ true
        go (inl q) = ap (λ (z : ℕ). is_greater (at_entry ns t us z)) q ∙ at_j
        go (inr q) = ap is_greater (greater-down us (get_or ns (get_or t j 0) []) (get_or ns (get_or t i 0) []) (greater-true _ at_j) (upto i j q (omega (arith, count-is))))

    -- where the binary search ends
    pub bracket-point : (k : ℕ) → k ≤ length (take m t) → IsPartitionPoint (λ y. is_after ns count us y ≡ true) (λ y. is_after ns count us y ≡ false) (take m t) k → Bracket ns t m us k
    bracket-point k h p = record {
      within = omega (arith, count-is);
      before = λ i a. greater-true _ (sym (entry-test i 0 (omega (arith, count-is))) ∙ p.0 i 0 (omega arith) a);
      from = λ i a c. sym (entry-test i 0 c) ∙ p.1 i 0 a (omega (arith, count-is));
    }

  greater-differs : (o : Order) → o ≡ greater → is_same_order o ≡ false
  greater-differs o q = ap is_same_order q

  module _ (k : ℕ) (r : Bracket ns t m us k) where
    -- an entry of that name, if any, is the first of them
    pub bracket-found : k < m → at_entry ns t us k ≡ same → lowest us (shown_from 0 ns) ≡ accepted (get_or t k 0)
    bracket-found h g = lowest-is us 0 ns (shown_at ns (get_or t k 0)) (at-shown ns t m e b k h) (ap is_same_order g) (λ c i z. go c z (shown-at ns t m e b c i))
      where
        go : (c : Shown) → is_same_order (compare_names us c.name) ≡ true → (i : ℕ) × (i < m) × (c ≡ shown_at ns (get_or t i 0)) → get_or t k 0 ≤ c.number
        go c z (i, l, q) = three (same-or-less k i) (ltb i k) refl
          where
            up : by_name (shown_at ns (get_or t k 0)) (shown_at ns (get_or t i 0)) ≡ less → get_or t k 0 ≤ get_or t i 0
            up w = split (else-less (compare_names (get_or ns (get_or t k 0) []) (get_or ns (get_or t i 0) [])) (compare (get_or t k 0) (get_or t i 0)) w)
              where
                at_i : at_entry ns t us i ≡ same
                at_i = same_true (at_entry ns t us i) (ap (λ (d : Shown). is_same_order (compare_names us d.name)) (sym q) ∙ z)

                split : (compare_names (get_or ns (get_or t k 0) []) (get_or ns (get_or t i 0) []) ≡ less) ⊎ ((compare_names (get_or ns (get_or t k 0) []) (get_or ns (get_or t i 0) []) ≡ same) × (compare (get_or t k 0) (get_or t i 0) ≡ less)) → get_or t k 0 ≤ get_or t i 0
                split (inl y) =
                    absurd (less-never names-total (get_or ns (get_or t k 0) []) (get_or ns (get_or t i 0) []) y (sym (names-total.equal us (get_or ns (get_or t k 0) []) g) ∙ names-total.equal us (get_or ns (get_or t i 0) []) at_i))
                split (inr y) = omega (arith, less-number (get_or t k 0) (get_or t i 0) y.1)
                  where
                    less-number : (x y : ℕ) → compare x y ≡ less → x < y
                    less-number x y w = less-is x y w

            three : (k ≤ i → (k ≡ i) ⊎ (k < i)) → (d : Bool) → ltb i k ≡ d → get_or t k 0 ≤ c.number
            three f true y = let w : is_same_order (at_entry ns t us i) ≡ true = ap (λ (d : Shown). is_same_order (compare_names us d.name)) (sym q) ∙ z in let v : true ≡ false = sym w ∙ greater-differs (at_entry ns t us i) (r.before i (ltb-true i k y)) in let u : ◌≡◌ {A = ℕ} 0 1 = cc in absurd (omega arith)
            three f false y = last (f (ltb-false i k y))
              where
                num : c.number ≡ get_or t i 0
                num = ap (λ (d : Shown). d.number) q

                last : (k ≡ i) ⊎ (k < i) → get_or t k 0 ≤ c.number
                last (inl w) = omega (arith, num, ap (λ (x : ℕ). get_or t x 0) w)
                last (inr w) = omega (arith, num, up (right-rising ns t m e b k i w l))

    -- there is none
    pub bracket-none : (k < m → is_same_order (at_entry ns t us k) ≡ false) → lowest us (shown_from 0 ns) ≡ refused 12 0 0 0
    bracket-none h = lowest-none us (shown_from 0 ns) (λ c i. go c (shown-at ns t m e b c i))
      where
        go : (c : Shown) → (i : ℕ) × (i < m) × (c ≡ shown_at ns (get_or t i 0)) → is_same_order (compare_names us c.name) ≡ false
        go c (i, l, q) = ap (λ (d : Shown). is_same_order (compare_names us d.name)) q ∙ three (ltb i k) refl
          where
            three : (d : Bool) → ltb i k ≡ d → is_same_order (at_entry ns t us i) ≡ false
            three true y = greater-differs (at_entry ns t us i) (r.before i (ltb-true i k y))
            three false y = last (same-or-less k i (ltb-false i k y))
              where
                last : (k ≡ i) ⊎ (k < i) → is_same_order (at_entry ns t us i) ≡ false
                last (inl w) = ap (λ (x : ℕ). is_same_order (at_entry ns t us x)) (sym w) ∙ h (omega arith)
                last (inr w) = past (at_entry ns t us k) refl (h (omega arith)) (r.from k (omega arith) (omega arith))
                  where
                    past : (o : Order) → at_entry ns t us k ≡ o → is_same_order o ≡ false → is_greater o ≡ false → is_same_order (at_entry ns t us i) ≡ false
                    past less f g v = ap is_same_order (less-up us (get_or ns (get_or t k 0) []) (get_or ns (get_or t i 0) []) f (upto k i w l))
                    past same f g v = let z : ◌≡◌ {A = ℕ} 0 1 = cc in absurd (omega arith)
                    past greater f g v = let z : ◌≡◌ {A = ℕ} 0 1 = cc in absurd (omega arith)
