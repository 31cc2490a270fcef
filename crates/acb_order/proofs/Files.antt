-- The records of an accepted file, by their places, as those of an index. Assumes nothing.
use Prim.Native.Nat.{ℕ, zero, suc, ◌+◌, ◌-◌, ◌*◌, ◌/◌, ◌^◌, ◌≤◌, ◌<◌, min}
use mathlib.Core.Path.{◌≡◌, refl, sym, ap, ap₂, ◌∙◌, subst}
use mathlib.Core.List.{List, [], ◌∷◌, map}
use mathlib.Core.Bool.{Bool, true, false}
use lib.Dec.{leb, eqb, ltb}
use lib.ListN.{length, get_or, drop}
use lib.Seq.{drop-cons, drop-length}
use borrow.Author.Tests.{leb-true, le-leb, ne_eqb, ltb-true, ltb-false}
use native.Mathlib.Omega.{arith}
use native.Mathlib.Numerals.{add-one}
use Rattle.algebra.specs.Numbers.{num, nums, Bytes}
use Rattle.algebra.specs.Reader.{ok, pick, limit, field, body, each}
use Rattle.algebra.specs.Table.{accepted, verdict}
use Rattle.algebra.specs.Text.{Name, is_empty}
use Rattle.algebra.proofs.Inverse.{ok-value, ok-place, then-inv, pick_inv, field-inv, body-inv, each_none, each-inv, each-length}
use Rattle.algebra.proofs.Places.{length-nums}
use Rattle.algebra.proofs.Table.{accepted-of}
use Rattle.acb.specs.Grammar.{Tag}
use Rattle.acb.specs.Reading.{Entry, Contents, string, colour, components_of, header, closing, book, acb}
use Rattle.acb.proofs.Laws.{components-some, header-exact}
use Rattle.acb_judge.specs.Answer.{HeaderPlaces, Report, reported, report}
use Rattle.order.specs.Order.{or_else, compare}
use Rattle.order.proofs.Orders.{compare-less, compare-more, compare_same}
use Rattle.acb_order.specs.Names.{compare_names}
use Rattle.acb_order.specs.Index.{shown_as, shown_from, shown_at, by_name, names_of}
use Rattle.acb_order.specs.Places.{units_at, name_at}
use Rattle.acb_order.specs.scaffold.Places.{next_record, record_place, Opened, names_read, names_in, place_order}

abbrev units_held : Entry → List ℕ
units_held e = e.name.units

-- ---- one record

-- the record of n components at a place, its name, and the place behind it
record Standing (s : List ℕ) (n at : ℕ) (us : List ℕ) (q : ℕ) : Type 0 where
  pub start : at + 4 ≤ length s
  pub units : units_at s at ≡ num 4 s at
  pub name : us ≡ name_at s at
  pub next : next_record n s at ≡ q
  pub inside : q ≤ length s

pub units-whole : (s : List ℕ) (at : ℕ) → at + 4 + 2 * num 4 s at ≤ length s → units_at s at ≡ num 4 s at
units-whole s at h =
    let a : leb (at + 4) (length s) ≡ true = le-leb (at + 4) (length s) (omega arith) in
    let b : leb (num 4 s at) ((length s - 4 - at) / 2) ≡ true = le-leb (num 4 s at) ((length s - 4 - at) / 2) (omega arith) in
    ap₂ (λ (x y : Bool). pick x (pick y (num 4 s at) ((length s - 4 - at) / 2)) 0) a b

octets-end : (s : List ℕ) (n i at : ℕ) {vs : List ℕ} {q : ℕ} → each n i (λ k. field 1) s at ≡ ok vs q → (at + n ≡ q) × (n ≤ length s - at)
octets-end s zero i at e = let z = each_none (λ k. field 1) s i at e in (omega (arith, z.1), omega arith)
octets-end s (suc n) i at e =
    let t = each-inv (λ k. field 1) s n i at e in
    let x = field-inv 1 s at t.3 in
    let r = octets-end s n (i + 1) t.1 t.4 in
    (omega (arith, x.2, r.0), omega (arith, x.0, x.2, r.1))

standing : (s : List ℕ) (n at : ℕ) {e : Entry} {q : ℕ} → colour n s at ≡ ok e q → Standing s n at (units_held e) q
unfolding colour string
standing s n at {e} {q} h =
    let a = then-inv (string s at) _ h in
    let t = then-inv (field 4 s at) _ a.2 in
    let x = field-inv 4 s at t.2 in
    let u = then-inv (body 2 t.0 s t.1) _ t.3 in
    let y = body-inv 2 s t.1 t.0 u.2 in
    let b = then-inv (body 1 6 s a.1) _ a.3 in
    let z = body-inv 1 s a.1 6 b.2 in
    let c = then-inv (each n 0 (λ i. field 1) s b.1) _ b.3 in
    let w = octets-end s n 0 b.1 c.2 in
    let nm : units_held e ≡ u.0 = sym (ap units_held (ok-value c.3)) ∙ sym (ap (λ (k : Name). k.units) (ok-value u.3)) in
    let whole : units_at s at ≡ num 4 s at = units-whole s at (omega (arith, x.0, x.1, x.2, y.0)) in
    record {
      start = omega (arith, x.0);
      units = whole;
      name = nm ∙ sym y.1 ∙ ap₂ (λ (i j : ℕ). nums 2 i s j) (sym (whole ∙ x.1)) (sym x.2);
      next = omega (arith, whole, x.1, x.2, y.2, ok-place u.3, z.2, w.0, ok-place c.3);
      inside = omega (arith, whole, x.0, x.1, x.2, y.0, y.2, ok-place u.3, z.0, z.2, w.0, w.1, ok-place c.3);
    }

-- ---- the places of records

pub place-first : (n : ℕ) (s : List ℕ) (p : ℕ) → record_place n s p 0 ≡ p
unfolding record_place
place-first n s p = refl

pub place-next : (n : ℕ) (s : List ℕ) (p i : ℕ) → record_place n s p (i + 1) ≡ next_record n s (record_place n s p i)
unfolding record_place
place-next n s p i = ap (record_place n s p) (add-one i)

place-shift : (n : ℕ) (s : List ℕ) (p i : ℕ) → record_place n s p (suc i) ≡ record_place n s (next_record n s p) i
unfolding record_place
place-shift n s p zero = refl
place-shift n s p (suc i) = ap (next_record n s) (place-shift n s p i)

stands : (s : List ℕ) (n m i at : ℕ) {es : List Entry} {q : ℕ} → each m i (λ k. colour n) s at ≡ ok es q → (k : ℕ) → k < m → (to : ℕ) × Standing s n (record_place n s at k) (get_or (map units_held es) k []) to
stands s n zero i at e k h = absurd (omega arith)
stands s n (suc m) i at {es} {q} e zero h =
    let t = each-inv (λ k. colour n) s m i at e in (
      t.1,
      subst (λ (l : List Entry). Standing s n (record_place n s at 0) (get_or (map units_held l) 0 []) t.1) t.5
          (subst (λ (p : ℕ). Standing s n p (units_held t.0) t.1) (sym (place-first n s at)) (standing s n at t.3)),
    )
stands s n (suc m) i at {es} {q} e (suc k) h =
    let t = each-inv (λ k. colour n) s m i at e in
    let r = stands s n m (i + 1) t.1 {es = t.2} {q = q} t.4 k (omega arith) in
    let p : record_place n s t.1 k ≡ record_place n s at (suc k) = ap (λ (x : ℕ). record_place n s x k) (sym (standing s n at t.3).next) ∙ sym (place-shift n s at k) in (
      r.0,
      subst (λ (l : List Entry). Standing s n (record_place n s at (suc k)) (get_or (map units_held l) (suc k) []) r.0) t.5
          (subst (λ (x : ℕ). Standing s n x (get_or (map units_held t.2) k []) r.0) p r.1),
    )

-- ---- an accepted file

acb-inv : (s : List ℕ) → Bytes s → {c : Contents} {q : ℕ} → acb s ≡ ok c q
    → (length s ≤ limit) × (length c.entries < 65536) × (to : ℕ) × (each (length c.entries) 0 (λ i. colour (components_of c.header.numbers.space)) s c.first ≡ ok c.entries to)
unfolding acb book
acb-inv s bytes {c} {q} e =
    let i = pick_inv (leb (length s) limit) (book s 0) 1 0 0 0 e in
    let h = then-inv (header s 0) _ i.1 in
    let n : ℕ = components_of h.0.numbers.space in
    let u = then-inv (each h.0.numbers.count 0 (λ i. colour n) s h.1) _ h.3 in
    let v = then-inv (closing s u.1) _ u.3 in
    let l : h.0.numbers.count ≡ length u.0 = sym (each-length (λ i. colour n) s h.0.numbers.count 0 h.1 u.2) in
    let k : h.0.numbers.count < 65536 = ((header-exact s bytes).writes 0 (omega arith) h.0 h.1 h.2).0.numbers.count in
    subst (λ (d : Contents). (length s ≤ limit) × (length d.entries < 65536) × (to : ℕ) × (each (length d.entries) 0 (λ i. colour (components_of d.header.numbers.space)) s d.first ≡ ok d.entries to)) (ok-value v.3)
    (leb-true (length s) limit i.0, omega (arith, k, l), u.1, ap (λ (j : ℕ). each j 0 (λ i. colour n) s h.1) (sym l) ∙ u.2)

empty-is : (us : List ℕ) → is_empty us ≡ eqb (length us) 0
empty-is [] = refl
empty-is (u ∷ us) = sym (ne_eqb (length (u ∷ us)) 0 (λ e. omega arith))

names-length : (es : List Entry) → length (map units_held es) ≡ length es
names-length [] = refl
names-length (e ∷ es) = ap suc (names-length es)

-- as judging answers it
pub opened_of : (s : List ℕ) {h : HeaderPlaces} {n p : ℕ} {t : Tag} → accepted (reported h n p t) ≡ verdict report (acb s) → Opened s n p (components_of h.space)
opened_of s e =
    let a = accepted-of report (acb s) e in
    record {
      contents = a.0;
      end = a.1;
      read = a.2;
      counts = ap (λ (r : Report). r.count) a.3;
      starts = ap (λ (r : Report). r.first) a.3;
      sized = ap (λ (r : Report). components_of r.header.space) a.3;
    }

module _ (s : List ℕ) (bytes : Bytes s) (count p n : ℕ) (a : Opened s count p n) where
  abbrev c : Contents
  c = a.contents

  pub short : length s ≤ limit
  short = (acb-inv s bytes a.read).0

  pub count_most : count < 65536
  count_most = omega (arith, (acb-inv s bytes a.read).1, a.counts)

  pub few : (3 ≤ n) × (n ≤ 4)
  few = subst (λ (k : ℕ). (3 ≤ k) × (k ≤ 4)) a.sized (components-some c.header.numbers.space)

  pub names-are : names_in s ≡ names_of c
  names-are = ap names_read a.read

  pub names-count : length (names_in s) ≡ count
  names-count = ap length names-are ∙ names-length c.entries ∙ a.counts

  record-stands : (i : ℕ) → i < count → (to : ℕ) × Standing s n (record_place n s p i) (get_or (names_in s) i []) to
  record-stands i h =
      let r = stands s (components_of c.header.numbers.space) (length c.entries) 0 c.first (acb-inv s bytes a.read).3 i (omega (arith, a.counts)) in (
        r.0,
        subst (λ (l : List (List ℕ)). Standing s n (record_place n s p i) (get_or l i []) r.0) (sym names-are)
            (subst (λ (x : ℕ). Standing s n (record_place n s x i) (get_or (names_of c) i []) r.0) a.starts
            (subst (λ (x : ℕ). Standing s x (record_place x s c.first i) (get_or (names_of c) i []) r.0) a.sized r.1)),
      )

  -- what is known of record i
  pub record Known (i : ℕ) : Type 0 where
    pub start : record_place n s p i + 4 ≤ length s
    pub inside : next_record n s (record_place n s p i) ≤ length s
    pub place : record_place n s p i < 16777216
    pub units : units_at s (record_place n s p i) ≡ num 4 s (record_place n s p i)
    pub name : get_or (names_in s) i [] ≡ name_at s (record_place n s p i)
    pub empty : is_empty (get_or (names_in s) i []) ≡ eqb (units_at s (record_place n s p i)) 0

  pub known : (i : ℕ) → i < count → Known i
  known i h =
      let r = (record-stands i h).1 in
      record {
        start = r.start;
        inside = omega (arith, r.next, r.inside);
        place = omega (arith, r.next, r.inside, short);
        units = r.units;
        name = r.name;
        empty = ap is_empty r.name ∙ empty-is (name_at s (record_place n s p i)) ∙ ap (λ (m : ℕ). eqb m 0) (length-nums 2 (units_at s (record_place n s p i)) s (record_place n s p i + 4));
      }

  -- behind record i stands record i + 1
  pub passed : {at r : ℕ} (i : ℕ) → i < count → at ≡ record_place n s p i → r ≡ min (next_record n s at) (2 ^ 64 - 1) → r ≡ record_place n s p (i + 1)
  passed i h e f =
      omega (arith, f, ap (next_record n s) e, (known i h).inside, short, place-next n s p i)

  -- a record takes 13 bytes and more
  pub places-apart : (i k : ℕ) → record_place n s p i + 13 * k ≤ record_place n s p (i + k)
  places-apart i zero = let z : i + 0 ≡ i = omega arith in omega (arith, ap (record_place n s p) z)
  places-apart i (suc k) =
      let z : i + suc k ≡ i + k + 1 = omega arith in
      omega (arith, ap (record_place n s p) z, place-next n s p (i + k), places-apart i k, few.0)

  -- places rise with the numbers
  pub places-rise : (i j : ℕ) → i < j → record_place n s p i < record_place n s p j
  places-rise i j h = let z : i + (j - i) ≡ j = omega arith in omega (arith, places-apart i (j - i), ap (record_place n s p) z)

  pub compare-places : (i j : ℕ) → compare (record_place n s p i) (record_place n s p j) ≡ compare i j
  compare-places i j = go (ltb i j) (ltb j i) refl refl
    where
      go : (x y : Bool) → ltb i j ≡ x → ltb j i ≡ y → compare (record_place n s p i) (record_place n s p j) ≡ compare i j
      go true y u v = compare-less _ _ (places-rise i j (ltb-true i j u)) ∙ sym (compare-less i j (ltb-true i j u))
      go false true u v = compare-more _ _ (places-rise j i (ltb-true j i v)) ∙ sym (compare-more i j (ltb-true j i v))
      go false false u v =
          let e : i ≡ j = omega (arith, ltb-false i j u, ltb-false j i v) in
          compare_same _ _ (ap (record_place n s p) e) ∙ sym (compare_same i j e)

  -- the order of places is the order of the records there
  pub order_is : (i j : ℕ) → i < count → j < count → place_order s (record_place n s p i) (record_place n s p j) ≡ by_name (shown_at (names_in s) i) (shown_at (names_in s) j)
  order_is i j h l = ap₂ or_else (ap₂ compare_names (sym (known i h).name) (sym (known j l).name)) (compare-places i j)

  -- ---- counting the shown records

  -- those shown among the records from i on
  abbrev pub shownLeft : ℕ → ℕ
  shownLeft i = length (shown_from i (drop i (names_in s)))

  pub shown-turn : (i : ℕ) → i < count → shownLeft i ≡ pick (eqb (units_at s (record_place n s p i)) 0) 0 1 + shownLeft (i + 1)
  unfolding shown_from
  shown-turn i h =
      let l : i < length (names_in s) = omega (arith, names-count) in
      ap (λ (ns : List (List ℕ)). length (shown_from i ns)) (drop-cons (names_in s) i [] l)
      ∙ ap (λ (b : Bool). length (pick b (shown_from (i + 1) (drop (suc i) (names_in s))) (shown_as i (get_or (names_in s) i []) ∷ shown_from (i + 1) (drop (suc i) (names_in s))))) (known i h).empty
      ∙ go (eqb (units_at s (record_place n s p i)) 0) ∙ ap (λ (j : ℕ). pick (eqb (units_at s (record_place n s p i)) 0) 0 1 + length (shown_from (i + 1) (drop j (names_in s)))) (sym (add-one i))
    where
      go : (b : Bool) → length (pick b (shown_from (i + 1) (drop (suc i) (names_in s))) (shown_as i (get_or (names_in s) i []) ∷ shown_from (i + 1) (drop (suc i) (names_in s)))) ≡ pick b 0 1 + length (shown_from (i + 1) (drop (suc i) (names_in s)))
      go true = omega arith
      go false = omega arith

  pub shown-end : shownLeft count ≡ 0
  unfolding shown_from
  shown-end = ap (λ (ns : List (List ℕ)). length (shown_from count ns)) (ap (λ (k : ℕ). drop k (names_in s)) (sym names-count) ∙ drop-length (names_in s))

pub shown-most : (j : ℕ) (ns : List (List ℕ)) → length (shown_from j ns) ≤ length ns
unfolding shown_from
shown-most j [] = omega arith
shown-most j (us ∷ ns) = go (is_empty us) (shown-most (j + 1) ns)
  where
    go : (b : Bool) → length (shown_from (j + 1) ns) ≤ length ns → length (pick b (shown_from (j + 1) ns) (shown_as j us ∷ shown_from (j + 1) ns)) ≤ length (us ∷ ns)
    go true h = omega arith
    go false h = omega arith
