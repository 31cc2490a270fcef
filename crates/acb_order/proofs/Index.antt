-- Laws of the index of a book and of search, over the names of its records. Assumes nothing.
use Prim.Native.Nat.{ℕ, zero, suc, ◌+◌, ◌-◌, ◌≤◌, ◌<◌}
use mathlib.Core.Path.{◌≡◌, refl, sym, ap, ap₂, ◌∙◌, subst}
use mathlib.Core.List.{List, [], ◌∷◌, map}
use mathlib.Core.Bool.{Bool, true, false}
use lib.Dec.{eqb}
use lib.ListN.{length, get_or, take}
use lib.Seq.{get_or-take, length-take-le}
use borrow.Author.Tests.{eqb-true, eq-eqb}
use native.Mathlib.Omega.{arith}
use Rattle.algebra.specs.Reader.{pick}
use Rattle.algebra.specs.Table.{accepted, refused}
use Rattle.algebra.specs.Text.{is_empty}
use Rattle.order.specs.Order.{less, is_same_order, compare}
use Rattle.order.specs.Sorted.{Increasing, In, first, later, Distinct, sorted}
use Rattle.order.specs.scaffold.Total.{Total}
use Rattle.order.proofs.Orders.{both-total, numbers-total}
use Rattle.order.proofs.Lists.{in-none, before-in, in-before, sorted-only, sorted-in, in-sorted, sorted-length, sorted-increasing}
use Rattle.acb_order.specs.Names.{compare_names}
use Rattle.acb_order.specs.Index.{Shown, shown_as, shown_from, shown_at, by_name, index_of}
use Rattle.acb_order.specs.Search.{begins, lowest}
use Rattle.acb_order.proofs.Names.{names-total}

pub by_name-total : Total by_name
by_name-total = both-total (λ (a : Shown). a.name) (λ (a : Shown). a.number) compare_names compare names-total numbers-total (λ a b e f. λ i. record { number = f i; name = e i })

-- ---- the shown records

pub record Is (j : ℕ) (ns : List (List ℕ)) (a : Shown) : Type 0 where
  pub low : j ≤ a.number
  pub high : a.number < j + length ns
  pub name : a.name ≡ get_or ns (a.number - j) []
  pub some : is_empty a.name ≡ false

pub shown-is : (j : ℕ) (ns : List (List ℕ)) (a : Shown) → In a (shown_from j ns) → Is j ns a
unfolding shown_from
shown-is j [] a i = absurd (in-none i)
shown-is j (us ∷ ns) a i = go (is_empty us) refl i (shown-is (j + 1) ns a)
  where
    next : Is (j + 1) ns a → Is j (us ∷ ns) a
    next r =
        let l = r.low in
        let e : a.number - j ≡ suc (a.number - (j + 1)) = omega arith in
        record { low = omega arith; high = omega (arith, r.high); name = r.name ∙ sym (ap (λ (k : ℕ). get_or (us ∷ ns) k []) e); some = r.some }

    here : is_empty us ≡ false → a ≡ shown_as j us → Is j (us ∷ ns) a
    here h e =
        let k : a.number ≡ j = ap (λ (b : Shown). b.number) e in
        let z : a.number - j ≡ 0 = omega arith in
        record { low = omega arith; high = omega arith; name = ap (λ (b : Shown). b.name) e ∙ sym (ap (λ (m : ℕ). get_or (us ∷ ns) m []) z); some = ap (λ (b : Shown). is_empty b.name) e ∙ h }

    go : (b : Bool) → is_empty us ≡ b → In a (pick b (shown_from (j + 1) ns) (shown_as j us ∷ shown_from (j + 1) ns)) → (In a (shown_from (j + 1) ns) → Is (j + 1) ns a) → Is j (us ∷ ns) a
    go true h i ih = next (ih i)
    go false h (first e) ih = here h e
    go false h (later i) ih = next (ih i)

pub is-shown : (j : ℕ) (ns : List (List ℕ)) (i : ℕ) → i < length ns → is_empty (get_or ns i []) ≡ false → In (shown_as (j + i) (get_or ns i [])) (shown_from j ns)
unfolding shown_from
is-shown j [] i h e = absurd (omega arith)
is-shown j (us ∷ ns) zero h e =
    rw e (first (ap (λ (k : ℕ). shown_as k us) (let z : j + 0 ≡ j = omega arith in z)))
is-shown j (us ∷ ns) (suc i) h e = go (is_empty us) (subst (λ (k : ℕ). In (shown_as k (get_or ns i [])) (shown_from (j + 1) ns)) (let z : j + 1 + i ≡ j + suc i = omega arith in z) (is-shown (j + 1) ns i (omega arith) e))
  where
    go : (b : Bool) → In (shown_as (j + suc i) (get_or ns i [])) (shown_from (j + 1) ns) → In (shown_as (j + suc i) (get_or ns i [])) (pick b (shown_from (j + 1) ns) (shown_as j us ∷ shown_from (j + 1) ns))
    go true x = x
    go false x = later x

pub shown-distinct : (j : ℕ) (ns : List (List ℕ)) → Distinct (shown_from j ns)
unfolding shown_from
shown-distinct j [] = tt
shown-distinct j (us ∷ ns) = go (is_empty us) (shown-distinct (j + 1) ns)
  where
    go : (b : Bool) → Distinct (shown_from (j + 1) ns) → Distinct (pick b (shown_from (j + 1) ns) (shown_as j us ∷ shown_from (j + 1) ns))
    go true d = d
    go false d = (λ i. let r = shown-is (j + 1) ns (shown_as j us) i in let l = r.low in omega arith, d)

-- ---- a run of numbers as records

-- one after the other
abbrev pub Rising : List (List ℕ) → List ℕ → Type 0
Rising ns l = (k : ℕ) → k + 1 < length l → by_name (shown_at ns (get_or l k 0)) (shown_at ns (get_or l (k + 1) 0)) ≡ less

-- each a shown record
abbrev pub Listed : List (List ℕ) → List ℕ → Type 0
Listed ns l = (k : ℕ) → k < length l → (get_or l k 0 < length ns) × (is_empty (get_or ns (get_or l k 0) []) ≡ false)

module _ (ns : List (List ℕ)) where
  pub rising-increasing : (l : List ℕ) → Rising ns l → Increasing by_name (map (shown_at ns) l)
  rising-increasing [] r = tt
  rising-increasing (x ∷ []) r = (tt, tt)
  rising-increasing (x ∷ y ∷ l) r =
      let ih = rising-increasing (y ∷ l) (λ k h. later-rise k h) in
      let xy : by_name (shown_at ns x) (shown_at ns y) ≡ less = r 0 (omega arith) in
      ((xy, in-before by_name-total (shown_at ns x) (map (shown_at ns) l) (λ a i. by_name-total.onward (shown_at ns x) (shown_at ns y) a xy (before-in by_name-total (shown_at ns y) a (map (shown_at ns) l) ih.0 i))), ih)
    where
      later-rise : (k : ℕ) → k + 1 < length (y ∷ l) → by_name (shown_at ns (get_or (y ∷ l) k 0)) (shown_at ns (get_or (y ∷ l) (k + 1) 0)) ≡ less
      later-rise k h =
          subst (λ (m : ℕ). by_name (shown_at ns (get_or (y ∷ l) k 0)) (shown_at ns (get_or (x ∷ y ∷ l) m 0)) ≡ less) (let z : suc k + 1 ≡ suc (k + 1) = omega arith in z) (r (suc k) (omega arith))

  in_map : (x : ℕ) (l : List ℕ) (k : ℕ) → k < length l → In (shown_at ns (get_or l k 0)) (map (shown_at ns) l)
  in_map x [] k h = absurd (omega arith)
  in_map x (y ∷ l) zero h = first refl
  in_map x (y ∷ l) (suc k) h = later (in_map x l k (omega arith))

  -- of an increasing run each comes before every later one
  pub increasing-at : (l : List ℕ) → Increasing by_name (map (shown_at ns) l) → (i j : ℕ) → i < j → j < length l → by_name (shown_at ns (get_or l i 0)) (shown_at ns (get_or l j 0)) ≡ less
  increasing-at [] p i j a b = absurd (omega arith)
  increasing-at (x ∷ l) p i zero a b = absurd (omega arith)
  increasing-at (x ∷ l) p zero (suc j) a b = before-in by_name-total (shown_at ns x) (shown_at ns (get_or l j 0)) (map (shown_at ns) l) p.0 (in_map 0 l j (omega arith))
  increasing-at (x ∷ l) p (suc i) (suc j) a b = increasing-at l p.1 i j (omega arith) (omega arith)

  -- what is in the records of a run stands somewhere
  pub in-at : (l : List ℕ) (a : Shown) → In a (map (shown_at ns) l) → (k : ℕ) × (k < length l) × (a ≡ shown_at ns (get_or l k 0))
  in-at [] a i = absurd (in-none i)
  in-at (x ∷ l) a (first e) = (0, omega arith, e)
  in-at (x ∷ l) a (later i) = let r = in-at l a i in (suc r.0, omega (arith, r.1), r.2)

  pub numbers-back : (l : List ℕ) → map (λ (a : Shown). a.number) (map (shown_at ns) l) ≡ l
  numbers-back [] = refl
  numbers-back (x ∷ l) = ap (λ (m : List ℕ). x ∷ m) (numbers-back l)

  map-length : (l : List ℕ) → length (map (shown_at ns) l) ≡ length l
  map-length [] = refl
  map-length (x ∷ l) = ap suc (map-length l)

  -- a run of as many rising shown records as there are is the sorted one
  pub run-sorted : (l : List ℕ) → length l ≡ length (shown_from 0 ns) → Listed ns l → Rising ns l → map (shown_at ns) l ≡ sorted by_name (shown_from 0 ns)
  run-sorted l e ls r = sorted-only by_name-total (map (shown_at ns) l) (shown_from 0 ns) (shown-distinct 0 ns) (rising-increasing l r) (λ a i. go a (in-at l a i)) (map-length l ∙ e)
    where
      go : (a : Shown) → (k : ℕ) × (k < length l) × (a ≡ shown_at ns (get_or l k 0)) → In a (shown_from 0 ns)
      go a (k, h, q) =
          let x = ls k h in
          let z : 0 + get_or l k 0 ≡ get_or l k 0 = omega arith in
          subst (λ (b : Shown). In b (shown_from 0 ns)) (sym q) (subst (λ (m : ℕ). In (shown_as m (get_or ns (get_or l k 0) [])) (shown_from 0 ns)) z (is-shown 0 ns (get_or l k 0) x.0 x.1))

  pub run_index : (l : List ℕ) → length l ≡ length (shown_from 0 ns) → Listed ns l → Rising ns l → index_of ns ≡ l
  unfolding index_of
  run_index l e ls r = ap (map (λ (a : Shown). a.number)) (sym (run-sorted l e ls r)) ∙ numbers-back l

  -- the index as records
  shown-back : (as' : List Shown) → ((a : Shown) → In a as' → Is 0 ns a) → map (shown_at ns) (map (λ (a : Shown). a.number) as') ≡ as'
  shown-back [] h = refl
  shown-back (a ∷ more) h =
      let r = h a (first refl) in
      let z : a.number - 0 ≡ a.number = omega arith in
      let e : shown_at ns a.number ≡ a = λ i. record { number = a.number; name = (ap (λ (k : ℕ). get_or ns k []) (sym z) ∙ sym r.name) i } in
      ap₂ (λ (x : Shown) (l : List Shown). x ∷ l) e (shown-back more (λ b i. h b (later i)))

  pub index-shown : map (shown_at ns) (index_of ns) ≡ sorted by_name (shown_from 0 ns)
  unfolding index_of
  index-shown = shown-back (sorted by_name (shown_from 0 ns)) (λ a i. shown-is 0 ns a (sorted-in by_name-total a (shown_from 0 ns) i))

  pub index-length : length (index_of ns) ≡ length (shown_from 0 ns)
  index-length = sym (map-length (index_of ns)) ∙ ap length index-shown ∙ sorted-length by_name-total (shown_from 0 ns)

  pub index-rising : Increasing by_name (map (shown_at ns) (index_of ns))
  index-rising = subst (Increasing by_name) (sym index-shown) (sorted-increasing by_name-total (shown_from 0 ns) (shown-distinct 0 ns))

  pub index_listed : Listed ns (index_of ns)
  index_listed k h =
      let i : In (shown_at ns (get_or (index_of ns) k 0)) (shown_from 0 ns) = sorted-in by_name-total (shown_at ns (get_or (index_of ns) k 0)) (shown_from 0 ns) (subst (In (shown_at ns (get_or (index_of ns) k 0))) index-shown (in_map 0 (index_of ns) k h)) in
      let r = shown-is 0 ns (shown_at ns (get_or (index_of ns) k 0)) i in
      (omega (arith, r.high), r.some)

-- ---- what an index begins with

pub begins-take : (xs t : List ℕ) → begins xs t ≡ true → (length xs ≤ length t) × (take (length xs) t ≡ xs)
unfolding begins
begins-take [] t e = (omega arith, refl)
begins-take (x ∷ xs) [] e = let z : ◌≡◌ {A = ℕ} 0 1 = cc in absurd (omega arith)
begins-take (x ∷ xs) (y ∷ t) e = go (eqb x y) refl e (begins-take xs t)
  where
    go : (b : Bool) → eqb x y ≡ b → pick b (begins xs t) false ≡ true → (begins xs t ≡ true → (length xs ≤ length t) × (take (length xs) t ≡ xs)) → (length (x ∷ xs) ≤ length (y ∷ t)) × (take (length (x ∷ xs)) (y ∷ t) ≡ x ∷ xs)
    go true q k ih = let r = ih k in (omega (arith, r.0), ap₂ (λ (u : ℕ) (l : List ℕ). u ∷ l) (sym (eqb-true x y q)) r.1)
    go false q k ih = let z : ◌≡◌ {A = ℕ} 0 1 = cc in absurd (omega arith)

pub take_begins : (xs t : List ℕ) → length xs ≤ length t → take (length xs) t ≡ xs → begins xs t ≡ true
unfolding begins
take_begins [] t h e = refl
take_begins (x ∷ xs) [] h e = absurd (omega arith)
take_begins (x ∷ xs) (y ∷ t) h e =
    let a : x ≡ y = cc in
    let b : take (length xs) t ≡ xs = cc in
    rw (eq-eqb x y a) (take_begins xs t (omega arith) b)

module _ (ns : List (List ℕ)) (t : List ℕ) where
  -- each of the first m is a shown record, and comes after the one before it
  pub record Right (m : ℕ) : Type 0 where
    pub room : m ≤ length t
    pub listed : (k : ℕ) → k < m → (get_or t k 0 < length ns) × (is_empty (get_or ns (get_or t k 0) []) ≡ false)
    pub rising : (k : ℕ) → k + 1 < m → by_name (shown_at ns (get_or t k 0)) (shown_at ns (get_or t (k + 1) 0)) ≡ less

  pub right-begins : (m : ℕ) → m ≡ length (shown_from 0 ns) → Right m → begins (index_of ns) t ≡ true
  right-begins m e r =
      let len : length (take m t) ≡ m = length-take-le m t r.room in
      let i : index_of ns ≡ take m t = run_index ns (take m t) (len ∙ e)
      (λ k h. let z : get_or (take m t) k 0 ≡ get_or t k 0 = get_or-take m t k 0 (omega arith) in rw z (r.listed k (omega arith)))
      (λ k h. let z : get_or (take m t) k 0 ≡ get_or t k 0 = get_or-take m t k 0 (omega arith) in let y : get_or (take m t) (k + 1) 0 ≡ get_or t (k + 1) 0 = get_or-take m t (k + 1) 0 (omega arith) in rw (z, y) (r.rising k (omega arith))) in
      let q : length (index_of ns) ≡ m = index-length ns ∙ sym e in
      take_begins (index_of ns) t (omega (arith, r.room)) (ap (λ (k : ℕ). take k t) q ∙ sym i)

  module _ (m : ℕ) (e : m ≡ length (shown_from 0 ns)) (b : begins (index_of ns) t ≡ true) where
    is_m : length (index_of ns) ≡ m
    is_m = index-length ns ∙ sym e

    at-k : (k : ℕ) → k < m → get_or (index_of ns) k 0 ≡ get_or t k 0
    at-k k h = let r = begins-take (index_of ns) t b in ap (λ (l : List ℕ). get_or l k 0) (sym r.1) ∙ get_or-take (length (index_of ns)) t k 0 (omega (arith, is_m))

    pub right-rising : (i j : ℕ) → i < j → j < m → by_name (shown_at ns (get_or t i 0)) (shown_at ns (get_or t j 0)) ≡ less
    right-rising i j h l =
        ap₂ (λ (x y : ℕ). by_name (shown_at ns x) (shown_at ns y)) (sym (at-k i (omega arith))) (sym (at-k j l)) ∙ increasing-at ns (index_of ns) (index-rising ns) i j h (omega (arith, is_m))

    pub begins-right : Right m
    begins-right = record {
      room = omega (arith, (begins-take (index_of ns) t b).0, is_m);
      listed = λ k h. subst (λ (x : ℕ). (x < length ns) × (is_empty (get_or ns x []) ≡ false)) (at-k k h) (index_listed ns k (omega (arith, is_m)));
      rising = λ k h. right-rising k (k + 1) (omega arith) h;
    }

    -- a shown record stands somewhere in the index
    pub shown-at : (a : Shown) → In a (shown_from 0 ns) → (k : ℕ) × (k < m) × (a ≡ shown_at ns (get_or t k 0))
    shown-at a i =
        let r = in-at ns (index_of ns) a (subst (In a) (sym (index-shown ns)) (in-sorted by_name-total a (shown_from 0 ns) i)) in
        (r.0, omega (arith, r.1, is_m), r.2 ∙ ap (shown_at ns) (at-k r.0 (omega (arith, r.1, is_m))))

    pub at-shown : (k : ℕ) → k < m → In (shown_at ns (get_or t k 0)) (shown_from 0 ns)
    at-shown k h =
        let x = begins-right.listed k h in
        subst (λ (i : ℕ). In (shown_as i (get_or ns (get_or t k 0) [])) (shown_from 0 ns)) (let z : 0 + get_or t k 0 ≡ get_or t k 0 = omega arith in z) (is-shown 0 ns (get_or t k 0) x.0 x.1)

-- ---- the lowest record of a name

pub lowest-none : (us : List ℕ) (l : List Shown) → ((b : Shown) → In b l → is_same_order (compare_names us b.name) ≡ false) → lowest us l ≡ refused 12 0 0 0
unfolding lowest
lowest-none us [] h = refl
lowest-none us (a ∷ more) h = rw (h a (first refl)) (lowest-none us more (λ b i. h b (later i)))

pub lowest-is : (us : List ℕ) (j : ℕ) (ns : List (List ℕ)) (a : Shown) → In a (shown_from j ns) → is_same_order (compare_names us a.name) ≡ true
    → ((b : Shown) → In b (shown_from j ns) → is_same_order (compare_names us b.name) ≡ true → a.number ≤ b.number) → lowest us (shown_from j ns) ≡ accepted a.number
unfolding shown_from lowest
lowest-is us j [] a i e h = absurd (in-none i)
lowest-is us j (vs ∷ ns) a i e h = go (is_empty vs) i h (lowest-is us (j + 1) ns a)
  where
    go : (b : Bool) → In a (pick b (shown_from (j + 1) ns) (shown_as j vs ∷ shown_from (j + 1) ns))
        → ((c : Shown) → In c (pick b (shown_from (j + 1) ns) (shown_as j vs ∷ shown_from (j + 1) ns)) → is_same_order (compare_names us c.name) ≡ true → a.number ≤ c.number)
        → (In a (shown_from (j + 1) ns) → is_same_order (compare_names us a.name) ≡ true → ((c : Shown) → In c (shown_from (j + 1) ns) → is_same_order (compare_names us c.name) ≡ true → a.number ≤ c.number) → lowest us (shown_from (j + 1) ns) ≡ accepted a.number)
        → lowest us (pick b (shown_from (j + 1) ns) (shown_as j vs ∷ shown_from (j + 1) ns)) ≡ accepted a.number
    go true i h ih = ih i e h
    go false (first q) h ih = rw (ap (λ (c : Shown). is_same_order (compare_names us c.name)) (sym q) ∙ e) (ap accepted (ap (λ (c : Shown). c.number) (sym q)))
    go false (later i) h ih = test (is_same_order (compare_names us vs)) refl
      where
        test : (t : Bool) → is_same_order (compare_names us vs) ≡ t → pick t (accepted j) (lowest us (shown_from (j + 1) ns)) ≡ accepted a.number
        test true q = let r = h (shown_as j vs) (first refl) q in let l = (shown-is (j + 1) ns a i).low in absurd (omega arith)
        test false q = ih i e (λ c k z. h c (later k) z)
