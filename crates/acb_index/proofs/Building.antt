-- Sorted keys of the shown records, by their numbers, are the index. Assumes nothing.
use Prim.Native.Nat.{ℕ, ◌+◌, ◌-◌, ◌/◌, ◌%◌, ◌≤◌, ◌<◌}
use mathlib.Core.Path.{◌≡◌, refl, sym, ap, ap₂, ◌∙◌, subst}
use mathlib.Core.List.{List, [], ◌++◌}
use mathlib.Core.Bool.{Bool, true, false}
use mathlib.Core.Logic.{◌⊎◌, inl, inr}
use lib.Dec.{eqb, ltb}
use lib.ListN.{length, get_or, set, drop, length-set}
use lib.Seq.{get_or-set_same, get_or-set_other}
use borrow.Author.Tests.{le-leb, lt-leb, eq-eqb, ne_eqb, ltb-true, ltb-false}
use native.Mathlib.Omega.{arith}
use Rattle.algebra.specs.Numbers.{Bytes}
use Rattle.algebra.specs.Reader.{Res, refuse, pick}
use Rattle.algebra.specs.Table.{accepted, refused}
use Rattle.acb.specs.Reading.{acb, Contents}
use Rattle.order.specs.Order.{less, or_else, compare}
use Rattle.order.proofs.Orders.{compare-less, compare-more, compare_same}
use Rattle.order.proofs.Lists.{turned-less}
use Rattle.order.proofs.Runs.{same_or}
use Rattle.acb_order.specs.Names.{compare_names}
use Rattle.acb_order.specs.Index.{shown_from, shown_at, by_name, index_of, names_of, indexed}
use Rattle.acb_order.specs.Places.{units_at, name_at}
use Rattle.acb_order.specs.scaffold.Places.{record_place, Opened, names_read, names_in}
use Rattle.acb_order.proofs.Index.{run_index, index-length}
use Rattle.acb_order.proofs.Files.{known, names-count, places-rise, places-apart}
use Rattle.acb_sort.specs.Keys.{key_order, SortedKeys}
use Rattle.acb_sort.proofs.Sorting.{keys-total}
use Rattle.acb_index.specs.scaffold.Drawn.{key_at, KeyOf, Drawing, Tabled, Numbered}

-- ---- tests

pub picked : {A : Type 0} (x : ℕ) (u v : A) → x ≡ 0 → u ≡ pick (eqb x 0) u v
picked x u v e = sym (rw (eq-eqb x 0 e))

pub unpicked : {A : Type 0} (x : ℕ) (u v : A) → (x ≡ 0 → ⊥) → v ≡ pick (eqb x 0) u v
unpicked x u v e = sym (rw (ne_eqb x 0 e))

-- ---- keys

-- a number less than 256 away, by the low bytes
low_byte : (i d : ℕ) → d < 256 → ((i + d) % 256 + 256 - i % 256) % 256 ≡ d
low_byte i d h = go (i % 256) (omega arith) (omega arith)
  where
    go : (q : ℕ) → q < 256 → i % 256 ≡ q → ((i + d) % 256 + 256 - i % 256) % 256 ≡ d
    go q l e = half (ltb (q + d) 256) refl
      where
        half : (b : Bool) → ltb (q + d) 256 ≡ b → ((i + d) % 256 + 256 - i % 256) % 256 ≡ d
        half true y =
            let z = ltb-true (q + d) 256 y in
            let w : (i + d) % 256 ≡ q + d = omega arith in
            let v : (i + d) % 256 + 256 - i % 256 ≡ d + 256 = omega (arith, w) in
            ap (λ (x : ℕ). x % 256) v ∙ (let u : (d + 256) % 256 ≡ d = omega (arith, h) in u)
        half false y =
            let z = ltb-false (q + d) 256 y in
            let w : (i + d) % 256 ≡ q + d - 256 = omega arith in
            let v : (i + d) % 256 + 256 - i % 256 ≡ d = omega (arith, w) in
            ap (λ (x : ℕ). x % 256) v ∙ (let u : d % 256 ≡ d = omega (arith, h) in u)

key-place : (n : ℕ) (s : List ℕ) (p i key : ℕ) → key ≡ key_at n s p i → key / 256 ≡ record_place n s p i
key-place n s p i key e = omega arith

module _ (s : List ℕ) (bytes : Bytes s) (count p n : ℕ) (a : Opened s count p n) where
  -- keys rise with the numbers
  pub keys-rise : (i j : ℕ) → i < j → key_at n s p i < key_at n s p j
  keys-rise i j h = omega (arith, places-rise s bytes count p n a i j h)

  compare-keys : (i j : ℕ) → compare (key_at n s p i) (key_at n s p j) ≡ compare i j
  compare-keys i j = go (ltb i j) (ltb j i) refl refl
    where
      go : (x y : Bool) → ltb i j ≡ x → ltb j i ≡ y → compare (key_at n s p i) (key_at n s p j) ≡ compare i j
      go true y u v = compare-less _ _ (keys-rise i j (ltb-true i j u)) ∙ sym (compare-less i j (ltb-true i j u))
      go false true u v = compare-more _ _ (keys-rise j i (ltb-true j i v)) ∙ sym (compare-more i j (ltb-true j i v))
      go false false u v =
          let e : i ≡ j = omega (arith, ltb-false i j u, ltb-false j i v) in
          compare_same _ _ (ap (key_at n s p) e) ∙ sym (compare_same i j e)

  -- the order of keys is the order of the records
  key-order : (i j : ℕ) → i < count → j < count → key_order s (key_at n s p i) (key_at n s p j) ≡ by_name (shown_at (names_in s) i) (shown_at (names_in s) j)
  key-order i j h l =
      ap₂ or_else
      (ap₂ (λ (x y : ℕ). compare_names (name_at s x) (name_at s y)) (key-place n s p i (key_at n s p i) refl) (key-place n s p j (key_at n s p j) refl)
      ∙ ap₂ compare_names (sym (known s bytes count p n a i h).name) (sym (known s bytes count p n a j l).name))
      (compare-keys i j)

  -- ---- the number of a key

  -- from a record that is not before it, in the same 2,048 bytes
  pub number_is : (i k key : ℕ) → i ≤ k → record_place n s p k / 2048 ≡ record_place n s p i / 2048 → key ≡ key_at n s p i → ((k % 256 + 256 - key % 256) % 256 ≤ k) × (k - (k % 256 + 256 - key % 256) % 256 ≡ i)
  number_is i k key h same e =
      let z : i + (k - i) ≡ k = omega arith in
      let d = places-apart s bytes count p n a i (k - i) in
      let near : k - i < 256 = omega (arith, d, ap (record_place n s p) z) in
      let low : key % 256 ≡ i % 256 = omega arith in
      let r : (k % 256 + 256 - key % 256) % 256 ≡ k - i = ap₂ (λ (x y : ℕ). (x % 256 + 256 - y) % 256) (sym z) low ∙ low_byte i (k - i) near in
      (omega (arith, r), omega (arith, r))

  -- by the table
  pub number-found : (ts : List ℕ) (key last : ℕ) → Tabled s n p count ts → KeyOf s n p count key → last ≡ get_or ts (key / 524288) 0
      → ((last % 256 + 256 - key % 256) % 256 ≤ last) × (last - (last % 256 + 256 - key % 256) % 256 < count) × (key ≡ key_at n s p (last - (last % 256 + 256 - key % 256) % 256))
  number-found ts key last t (i, h, e) l =
      let b : key / 524288 ≡ record_place n s p i / 2048 = omega arith in
      let r = t i h in
      let k : last ≡ r.0 = l ∙ ap (λ (x : ℕ). get_or ts x 0) b ∙ r.3 in
      let v = subst (λ (z : ℕ). ((z % 256 + 256 - key % 256) % 256 ≤ z) × (z - (z % 256 + 256 - key % 256) % 256 ≡ i)) (sym k) (number_is i r.0 key r.1 r.4 e) in
      (v.0, omega (arith, v.1, h), e ∙ ap (key_at n s p) (sym v.1))

  -- one record more in the table
  pub tabled-turn : (i at : ℕ) (ts : List ℕ) → i < count → length ts ≡ 8192 → at ≡ record_place n s p i → Tabled s n p i ts → Tabled s n p (i + 1) (set ts (at / 2048) i)
  tabled-turn i at ts h len e t j l = go (same_or (record_place n s p j / 2048) (at / 2048))
    where
      b : at / 2048 < 8192
      b = omega (arith, (known s bytes count p n a i h).place)

      go : (record_place n s p j / 2048 ≡ at / 2048) ⊎ (record_place n s p j / 2048 ≡ at / 2048 → ⊥)
          → (k : ℕ) × (j ≤ k) × (k < i + 1) × (get_or (set ts (at / 2048) i) (record_place n s p j / 2048) 0 ≡ k) × (record_place n s p k / 2048 ≡ record_place n s p j / 2048)
      go (inl z) = (i, omega arith, omega arith, ap (λ (x : ℕ). get_or (set ts (at / 2048) i) x 0) z ∙ get_or-set_same ts (at / 2048) i 0 (omega (arith, b)), ap (λ (x : ℕ). x / 2048) (sym e) ∙ sym z)
      go (inr z) = earlier (same_or j i)
        where
          earlier : (j ≡ i) ⊎ (j ≡ i → ⊥) → (k : ℕ) × (j ≤ k) × (k < i + 1) × (get_or (set ts (at / 2048) i) (record_place n s p j / 2048) 0 ≡ k) × (record_place n s p k / 2048 ≡ record_place n s p j / 2048)
          earlier (inl y) = absurd (z (ap (λ (x : ℕ). x / 2048) (ap (record_place n s p) y ∙ sym e)))
          earlier (inr y) = let r = t j (omega arith) in (r.0, r.1, omega (arith, r.2), get_or-set_other ts (at / 2048) (record_place n s p j / 2048) i 0 z ∙ r.3, r.4)

  -- ---- keys in a run

  module _ (i m : ℕ) (ys : List ℕ) (d : Drawing s n p i m ys) where
    pub drawing-skip : Drawing s n p (i + 1) m ys
    drawing-skip = record { keys = λ k h. let x = d.keys k h in (x.0, omega (arith, x.1), x.2); shown = d.shown; rising = d.rising }

    pub drawing-put : (key : ℕ) → m < length ys → key ≡ key_at n s p i → (units_at s (record_place n s p i) ≡ 0 → ⊥) → Drawing s n p (i + 1) (m + 1) (set ys m key)
    drawing-put key len e u = record { keys = λ k h. keys k h (same_or k m); shown = λ k h. shown k h (same_or k m); rising = λ j k h l. rising j k h l (same_or k m) }
      where
        here : get_or (set ys m key) m 0 ≡ key
        here = get_or-set_same ys m key 0 len

        other : (k : ℕ) → (k ≡ m → ⊥) → get_or (set ys m key) k 0 ≡ get_or ys k 0
        other k z = get_or-set_other ys m k key 0 z

        keys : (k : ℕ) → k < m + 1 → (k ≡ m) ⊎ (k ≡ m → ⊥) → KeyOf s n p (i + 1) (get_or (set ys m key) k 0)
        keys k h (inl z) = (i, omega arith, ap (λ (x : ℕ). get_or (set ys m key) x 0) z ∙ here ∙ e)
        keys k h (inr z) = let x = d.keys k (omega arith) in (x.0, omega (arith, x.1), other k z ∙ x.2)

        shown : (k : ℕ) → k < m + 1 → (k ≡ m) ⊎ (k ≡ m → ⊥) → units_at s (get_or (set ys m key) k 0 / 256) ≡ 0 → ⊥
        shown k h (inl z) w = u (ap (units_at s) (sym (ap (λ (x : ℕ). x / 256) (ap (λ (x : ℕ). get_or (set ys m key) x 0) z ∙ here) ∙ key-place n s p i key e)) ∙ w)
        shown k h (inr z) w = d.shown k (omega arith) (ap (λ (x : ℕ). units_at s (x / 256)) (sym (other k z)) ∙ w)

        rising : (j k : ℕ) → j < k → k < m + 1 → (k ≡ m) ⊎ (k ≡ m → ⊥) → get_or (set ys m key) j 0 < get_or (set ys m key) k 0
        rising j k h l (inl z) =
            let x = d.keys j (omega arith) in
            omega (arith, other j (λ w. omega arith), ap (λ (x : ℕ). get_or (set ys m key) x 0) z, here, e, x.2, keys-rise x.0 i x.1)
        rising j k h l (inr z) = omega (arith, other j (λ w. omega arith), other k z, d.rising j k h (omega arith))

  -- ---- the whole: drawn, sorted, numbered

  module _ (m : ℕ) (xs ys zs : List ℕ) (e : m ≡ length (shown_from 0 (names_in s))) (d : Drawing s n p count m xs) (len : length xs ≡ m) (sorted : SortedKeys s (length xs) xs ys) where
    o : SortedKeys s m xs ys
    o = subst (λ (k : ℕ). SortedKeys s k xs ys) len sorted

    ys-length : length ys ≡ m
    ys-length = sorted.moved.count ∙ len

    -- where an entry's key was drawn
    from : (k : ℕ) → k < m → (j : ℕ) × (j < m) × (get_or ys k 0 ≡ get_or xs j 0)
    from k h = (o.moved.from k, o.moved.inside k h, o.moved.is k)

    pub sorted-keys : (k : ℕ) → k < length ys → KeyOf s n p count (get_or ys k 0)
    sorted-keys k h = let f = from k (omega (arith, ys-length)) in subst (KeyOf s n p count) (sym f.2) (d.keys f.0 f.1)

    distinct : (j k : ℕ) → j < k → k < m → get_or ys j 0 ≡ get_or ys k 0 → ⊥
    distinct j k h l q = two (o.moved.from j) (o.moved.from k) (o.moved.inside j (omega arith)) (o.moved.inside k l) (λ z. let w = o.moved.once j k z in omega arith) (sym (o.moved.is j) ∙ q ∙ o.moved.is k)
      where
        two : (u v : ℕ) → u < m → v < m → (u ≡ v → ⊥) → get_or xs u 0 ≡ get_or xs v 0 → ⊥
        two u v a b ne w = go (ltb u v) refl
          where
            go : (t : Bool) → ltb u v ≡ t → ⊥
            go true y = omega (arith, d.rising u v (ltb-true u v y) b)
            go false y = let z = ltb-false u v y in apart ne z
              where
                apart : (u ≡ v → ⊥) → v ≤ u → ⊥
                apart ne z = let l : v < u = omega arith in omega (arith, d.rising v u l a)

    pub filled_is : Numbered s n p count (length ys) ys zs → zs ≡ index_of (names_in s)
    filled_is q =
        sym (run_index (names_in s) zs (zs-length ∙ e)
        (λ k h. listed k (omega (arith, zs-length)))
        (λ k h. rises k (omega (arith, zs-length))))
      where
        zs-length : length zs ≡ m
        zs-length = q.same_length ∙ ys-length

        at : (k : ℕ) → k < m → (get_or zs k 0 < count) × (get_or ys k 0 ≡ key_at n s p (get_or zs k 0))
        at k h = q.numbers k (omega (arith, ys-length))

        listed : (k : ℕ) → k < m → (get_or zs k 0 < length (names_in s)) × (Rattle.algebra.specs.Text.is_empty (get_or (names_in s) (get_or zs k 0) []) ≡ false)
        listed k h =
            let x = at k h in
            let f = from k h in
            let pl : get_or ys k 0 / 256 ≡ record_place n s p (get_or zs k 0) = key-place n s p (get_or zs k 0) (get_or ys k 0) x.1 in (
              omega (arith, x.0, names-count s bytes count p n a),
              (known s bytes count p n a (get_or zs k 0) x.0).empty
                  ∙ ne_eqb (units_at s (record_place n s p (get_or zs k 0))) 0 (λ z. d.shown f.0 f.1 (ap (λ (y : ℕ). units_at s (y / 256)) (sym f.2) ∙ ap (units_at s) pl ∙ z)),
            )

        rises : (k : ℕ) → k + 1 < m → by_name (shown_at (names_in s) (get_or zs k 0)) (shown_at (names_in s) (get_or zs (k + 1) 0)) ≡ less
        rises k h =
            let x = at k (omega arith) in
            let y = at (k + 1) h in
            sym (key-order (get_or zs k 0) (get_or zs (k + 1) 0) x.0 y.0) ∙ ap₂ (key_order s) (sym x.1) (sym y.1)
            ∙ turned-less (keys-total s) (get_or ys k 0) (get_or ys (k + 1) 0) (o.ordered k (k + 1) (omega arith) h) (distinct k (k + 1) (omega arith) h)

-- one more number
pub numbered-turn : (s : List ℕ) (n p count k : ℕ) (ys zs : List ℕ) (i : ℕ) → k < length ys → Numbered s n p count k ys zs → i < count → get_or zs k 0 ≡ key_at n s p i → Numbered s n p count (k + 1) ys (set zs k i)
numbered-turn s n p count k ys zs i h d c e = record {
  same_length = length-set zs k i ∙ d.same_length;
  numbers = λ j l. go j l (same_or j k);
  past = λ j l. get_or-set_other zs k j i 0 (λ z. omega arith) ∙ d.past j (omega arith);
}
  where
    at : get_or (set zs k i) k 0 ≡ i
    at = get_or-set_same zs k i 0 (omega (arith, d.same_length))

    go : (j : ℕ) → j < k + 1 → (j ≡ k) ⊎ (j ≡ k → ⊥) → (get_or (set zs k i) j 0 < count) × (get_or ys j 0 ≡ key_at n s p (get_or (set zs k i) j 0))
    go j l (inl z) =
        subst (λ (x : ℕ). (get_or (set zs k i) x 0 < count) × (get_or ys x 0 ≡ key_at n s p (get_or (set zs k i) x 0))) (sym z)
        (omega (arith, at), sym (d.past k (omega arith)) ∙ e ∙ ap (key_at n s p) (sym at))
    go j l (inr z) =
        let w = get_or-set_other zs k j i 0 z in
        subst (λ (x : ℕ). (x < count) × (get_or ys j 0 ≡ key_at n s p x)) (sym w) (d.numbers j (omega arith))

-- ---- what building answers

module _ (s t : List ℕ) where
  pub indexed-refused : {x p : ℕ} → acb s ≡ refuse x p 0 0 → (refused x p 0 0, t) ≡ indexed (acb s) t
  indexed-refused e = sym (ap (λ (m : Res Contents). indexed m t) e)

  module _ (count p n : ℕ) (a : Opened s count p n) (k : ℕ) (e : k ≡ length (shown_from 0 (names_in s))) where
    k-is : length (index_of (names_of a.contents)) ≡ k
    k-is = index-length (names_of a.contents) ∙ ap (λ (m : Res Contents). length (shown_from 0 (names_read m))) (sym a.read) ∙ sym e

    pub indexed-short : length t < k → (refused 11 0 0 0, t) ≡ indexed (acb s) t
    indexed-short h = sym (ap (λ (m : Res Contents). indexed m t) a.read ∙ rw (lt-leb (length (index_of (names_of a.contents))) (length t) (omega (arith, k-is))))

    pub indexed-is : k ≤ length t → (zs : List ℕ) → zs ≡ index_of (names_in s) → (accepted k, zs ++ drop k t) ≡ indexed (acb s) t
    indexed-is h zs w =
        let v : zs ≡ index_of (names_of a.contents) = w ∙ ap (λ (m : Res Contents). index_of (names_read m)) a.read in
        (λ i. (accepted (sym k-is i), v i ++ drop (sym k-is i) t)) ∙ sym (ap (λ (m : Res Contents). indexed m t) a.read ∙ rw (le-leb (length (index_of (names_of a.contents))) (length t) (omega (arith, k-is))))
