-- An index compared with a file, entry by entry. Assumes nothing.
use Prim.Native.Nat.{ℕ, ◌+◌, ◌-◌, ◌*◌, ◌/◌, ◌≤◌, ◌<◌}
use mathlib.Core.Path.{◌≡◌, refl, sym, ap, ap₂, ◌∙◌, subst}
use mathlib.Core.List.{List, []}
use mathlib.Core.Bool.{Bool, true, false, not}
use mathlib.Core.Logic.{◌⊎◌, inl, inr}
use lib.Dec.{eqb, leb, ltb}
use Rattle.std.specs.Prelude.{Option, Some, None}
use lib.ListN.{length, get_or, set, length-set}
use lib.Seq.{get_or-set_same, get_or-set_other}
use borrow.Author.Tests.{eq-eqb, ne_eqb, leb-true, leb-false, ltb-true, ltb-false}
use native.Mathlib.Omega.{arith}
use native.Mathlib.Numerals.{add-one}
use native.Mathlib.Nat.{mul_comm, mul-suc, mul-le-mul_left, div-add-mod'}
use Rattle.algebra.specs.Numbers.{Bytes}
use Rattle.algebra.specs.Reader.{Res, refuse, pick}
use Rattle.algebra.specs.Table.{refused}
use Rattle.algebra.specs.Text.{is_empty}
use Rattle.acb.specs.Reading.{acb, Contents}
use Rattle.std.specs.declared.cmp.Ordering.{Ordering}
use Rattle.std.specs.declared.cmp.Ordering.TheVariants.{Less, Equal, Greater}
use Rattle.std.specs.Ordering.{is_lt, is_ne, nat_cmp, ordering_then}
use Rattle.order.specs.Order.{Order, less, is_less, is_same_order, or_else}
use Rattle.acb_order.specs.Names.{compare_names}
use Rattle.acb_names.specs.Answer.{told}
use Rattle.acb_names.proofs.Units.{told_compare}
use Rattle.order.proofs.Lists.{is-less}
use Rattle.order.proofs.Runs.{same_or}
use Rattle.acb_order.specs.Index.{shown_from, shown_at, by_name, index_of, names_of}
use Rattle.acb_order.specs.Search.{begins, lowest, searched}
use Rattle.acb_order.specs.Places.{units_at, name_at}
use Rattle.acb_order.specs.scaffold.Places.{place_order, record_place, Opened, names_read, names_in}
use Rattle.acb_order.proofs.Index.{right-begins, begins-right}
use Rattle.acb_order.proofs.Files.{known, names-count, order_is}
use Rattle.acb_find.specs.scaffold.Marks.{Spaced, Marked}

-- the first k entries of an index t stand there rightly, and the last of them is the record at `last`
pub record SoFar (s : List ℕ) (n p : ℕ) (t : List ℕ) (k last : ℕ) : Type 0 where
  pub listed : (j : ℕ) → j < k → (get_or t j 0 < length (names_in s)) × (is_empty (get_or (names_in s) (get_or t j 0) []) ≡ false)
  pub rising : (j : ℕ) → j + 1 < k → by_name (shown_at (names_in s) (get_or t j 0)) (shown_at (names_in s) (get_or t (j + 1) 0)) ≡ less
  pub place : 0 < k → last ≡ record_place n s p (get_or t (k - 1) 0)

pub so-far-start : (s : List ℕ) (n p : ℕ) (t : List ℕ) → SoFar s n p t 0 0
so-far-start s n p t = record { listed = λ j h. absurd (omega arith); rising = λ j h. absurd (omega arith); place = λ h. absurd (omega arith) }

not-begins : (b : Bool) → (b ≡ true → ⊥) → false ≡ b
not-begins true h = absurd (h refl)
not-begins false h = refl

module _ (s : List ℕ) (bytes : Bytes s) (count p n : ℕ) (a : Opened s count p n) (t : List ℕ) (m : ℕ) (e : m ≡ length (shown_from 0 (names_in s))) where
  pub too_few : length t < m → false ≡ begins (index_of (names_in s)) t
  too_few h = not-begins (begins (index_of (names_in s)) t) (λ b. let r = begins-right (names_in s) t m e b in let q = r.room in omega arith)

  pub all_right : (last : ℕ) → m ≤ length t → SoFar s n p t m last → true ≡ begins (index_of (names_in s)) t
  all_right last h f = sym (right-begins (names_in s) t m e (record { room = h; listed = f.listed; rising = f.rising }))

  module _ (k : ℕ) (km : k < m) where
    pub no_record : count ≤ get_or t k 0 → false ≡ begins (index_of (names_in s)) t
    no_record h =
        not-begins (begins (index_of (names_in s)) t) (λ b. let r = (begins-right (names_in s) t m e b).listed k km in omega (arith, r.0, names-count s bytes count p n a))

    module _ (i : get_or t k 0 < count) (at : ℕ) (pl : at ≡ record_place n s p (get_or t k 0)) where
      pub dummy : units_at s at ≡ 0 → false ≡ begins (index_of (names_in s)) t
      dummy z =
          not-begins (begins (index_of (names_in s)) t) (λ b.
          let r = (begins-right (names_in s) t m e b).listed k km in
          let w : true ≡ false = sym (eq-eqb (units_at s at) 0 z) ∙ ap (λ (x : ℕ). eqb (units_at s x) 0) pl ∙ sym (known s bytes count p n a (get_or t k 0) i).empty ∙ r.1 in
          let y : ◌≡◌ {A = ℕ} 0 1 = cc in omega arith)

      module _ (last : ℕ) (f : SoFar s n p t k last) where
        -- the entry before, where there is one
        order-before : 0 < k → is_less (place_order s last at) ≡ is_less (by_name (shown_at (names_in s) (get_or t (k - 1) 0)) (shown_at (names_in s) (get_or t k 0)))
        order-before h =
            let l : get_or t (k - 1) 0 < count = omega (arith, (f.listed (k - 1) (omega arith)).0, names-count s bytes count p n a) in
            ap is_less (ap₂ (place_order s) (f.place h) pl ∙ order_is s bytes count p n a (get_or t (k - 1) 0) (get_or t k 0) l i)

        pub disorder : pick (eqb k 0) true (is_less (place_order s last at)) ≡ false → false ≡ begins (index_of (names_in s)) t
        disorder d = go (same_or k 0)
          where
            go : (k ≡ 0) ⊎ (k ≡ 0 → ⊥) → false ≡ begins (index_of (names_in s)) t
            go (inl z) = let w : true ≡ false = sym (ap (λ (b : Bool). pick b true (is_less (place_order s last at))) (eq-eqb k 0 z)) ∙ d in let y : ◌≡◌ {A = ℕ} 0 1 = cc in absurd (omega arith)
            go (inr z) =
                not-begins (begins (index_of (names_in s)) t) (λ b.
                let r = (begins-right (names_in s) t m e b).rising (k - 1) (omega arith) in
                let q : k - 1 + 1 ≡ k = omega arith in
                let x : is_less (by_name (shown_at (names_in s) (get_or t (k - 1) 0)) (shown_at (names_in s) (get_or t k 0))) ≡ true = ap is_less (subst (λ (j : ℕ). by_name (shown_at (names_in s) (get_or t (k - 1) 0)) (shown_at (names_in s) (get_or t j 0)) ≡ less) q r) in
                let w : true ≡ false = sym x ∙ sym (order-before (omega arith)) ∙ sym (ap (λ (v : Bool). pick v true (is_less (place_order s last at))) (ne_eqb k 0 z)) ∙ d in
                let y : ◌≡◌ {A = ℕ} 0 1 = cc in omega arith)

        pub so-far-turn : (units_at s at ≡ 0 → ⊥) → pick (eqb k 0) true (is_less (place_order s last at)) ≡ true → SoFar s n p t (k + 1) at
        so-far-turn u d = record {
          listed = λ j h. listed j h (same_or j k);
          rising = λ j h. rising j h (same_or (j + 1) k);
          place = λ h. pl ∙ ap (λ (x : ℕ). record_place n s p (get_or t x 0)) (let z : k ≡ k + 1 - 1 = omega arith in z);
        }
          where
            listed : (j : ℕ) → j < k + 1 → (j ≡ k) ⊎ (j ≡ k → ⊥) → (get_or t j 0 < length (names_in s)) × (is_empty (get_or (names_in s) (get_or t j 0) []) ≡ false)
            listed j h (inl z) =
                subst (λ (x : ℕ). (get_or t x 0 < length (names_in s)) × (is_empty (get_or (names_in s) (get_or t x 0) []) ≡ false)) (sym z)
                (omega (arith, names-count s bytes count p n a), (known s bytes count p n a (get_or t k 0) i).empty ∙ ne_eqb (units_at s (record_place n s p (get_or t k 0))) 0 (λ w. u (ap (units_at s) pl ∙ w)))
            listed j h (inr z) = f.listed j (omega arith)

            rising : (j : ℕ) → j + 1 < k + 1 → (j + 1 ≡ k) ⊎ (j + 1 ≡ k → ⊥) → by_name (shown_at (names_in s) (get_or t j 0)) (shown_at (names_in s) (get_or t (j + 1) 0)) ≡ less
            rising j h (inl z) =
                let q : k - 1 ≡ j = omega arith in
                let x = sym (order-before (omega arith)) ∙ (sym (ap (λ (v : Bool). pick v true (is_less (place_order s last at))) (ne_eqb k 0 (λ w. omega arith))) ∙ d) in
                ap₂ (λ (v w : ℕ). by_name (shown_at (names_in s) (get_or t v 0)) (shown_at (names_in s) (get_or t w 0))) (sym q) z ∙ is-less _ x
            rising j h (inr z) = f.rising j (omega arith)

-- ---- tests

pub picked : {A : Type 0} (x : ℕ) (u v : A) → x ≡ 0 → u ≡ pick (eqb x 0) u v
picked x u v e = sym (rw (eq-eqb x 0 e))

pub unpicked : {A : Type 0} (x : ℕ) (u v : A) → (x ≡ 0 → ⊥) → v ≡ pick (eqb x 0) u v
unpicked x u v e = sym (rw (ne_eqb x 0 e))

-- the place of a record, where there is one
abbrev held : Option ℕ → ℕ
held (Some x) = x
held None = 0

pub some-place : (i count x y : ℕ) → Some x ≡ pick (ltb i count) (Some y) None → (i < count) × (x ≡ y)
some-place i count x y e = go (ltb i count) refl e
  where
    go : (b : Bool) → ltb i count ≡ b → Some x ≡ pick b (Some y) None → (i < count) × (x ≡ y)
    go true h q = (ltb-true i count h, ap held q)
    go false h q = let z : ◌≡◌ {A = ℕ} 0 1 = cc in absurd (omega arith)

pub no-place : (i count y : ℕ) → None ≡ pick (ltb i count) (Some y) None → count ≤ i
no-place i count y e = go (ltb i count) refl e
  where
    go : (b : Bool) → ltb i count ≡ b → None ≡ pick b (Some y) None → count ≤ i
    go true h q = let z : ◌≡◌ {A = ℕ} 0 1 = cc in absurd (omega arith)
    go false h q = ltb-false i count h

-- a name that is that of a record, or not
pub same-told : (o : Ordering) (q : Order) (t : Bool) → told o ≡ q → t ≡ is_ne o → is_same_order q ≡ not t
same-told o q t e f = ap is_same_order (sym e) ∙ go o ∙ ap not (sym f)
  where
    go : (o : Ordering) → is_same_order (told o) ≡ not (is_ne o)
    go Less = refl
    go Equal = refl
    go Greater = refl

-- two places as the library compares them
less-told : (o p r : Ordering) (t : Bool) → r ≡ ordering_then o p → t ≡ is_lt r → t ≡ is_less (or_else (told o) (told p))
less-told o p r t e f = f ∙ ap is_lt e ∙ go o p
  where
    go : (o p : Ordering) → is_lt (ordering_then o p) ≡ is_less (or_else (told o) (told p))
    go Less p = refl
    go Equal Less = refl
    go Equal Equal = refl
    go Equal Greater = refl
    go Greater p = refl

pub both-places : (s : List ℕ) (x y : ℕ) (o p r : Ordering) (t : Bool) → told o ≡ compare_names (name_at s x) (name_at s y) → p ≡ nat_cmp x y → r ≡ ordering_then o p → t ≡ is_lt r → t ≡ is_less (place_order s x y)
both-places s x y o p r t d e f g = less-told o p r t f g ∙ ap is_less (ap₂ or_else d (told_compare x y p e))

-- ---- marks

-- what is less d times is less
less-times : (d i j : ℕ) → d * i < d * j → i < j
less-times d i j h = go (leb j i) refl
  where
    go : (b : Bool) → leb j i ≡ b → i < j
    go true e = absurd (omega (arith, mul-le-mul_left {m = j} {n = i} d (leb-true j i e)))
    go false e = omega (arith, leb-false j i e)

-- the mark that is due has a place
pub mark-room : (count d i j : ℕ) → Spaced count d → i < count → d * j ≡ i → j < 4096
mark-room count d i j s h e = less-times d j 4096 (omega (arith, s.enough))

-- the marks of the records before d j
abbrev pub MarkedTo : List ℕ → ℕ → ℕ → ℕ → ℕ → List ℕ → Type 0
MarkedTo s n p d j marks = (k : ℕ) → k < j → get_or marks k 0 ≡ record_place n s p (d * k)

pub marked_turn : (s : List ℕ) (n p d j i at : ℕ) (marks : List ℕ) → j < length marks → d * j ≡ i → at ≡ record_place n s p i → MarkedTo s n p d j marks → MarkedTo s n p d (j + 1) (set marks j at)
marked_turn s n p d j i at marks l e q m k h = go (same_or k j)
  where
    go : (k ≡ j) ⊎ (k ≡ j → ⊥) → get_or (set marks j at) k 0 ≡ record_place n s p (d * k)
    go (inl z) = ap (λ (x : ℕ). get_or (set marks j at) x 0) z ∙ get_or-set_same marks j at 0 l ∙ q ∙ ap (record_place n s p) (sym (ap (λ (x : ℕ). d * x) z ∙ e))
    go (inr z) = get_or-set_other marks j k at 0 z ∙ m k (omega arith)

pub marked_all : (s : List ℕ) (n p d j count : ℕ) (marks : List ℕ) → count ≤ d * j → MarkedTo s n p d j marks → Marked s n p d count marks
marked_all s n p d j count marks h m k l = m k (less-times d k j (omega arith))

-- one mark more
pub times-next : (d j i : ℕ) → d * j ≡ i → d * (j + 1) ≡ i + d
times-next d j i e = let z : d * (j + 1) ≡ d * j + d = mul-succ d j in omega (arith, z)
  where
    mul-succ : (d j : ℕ) → d * (j + 1) ≡ d * j + d
    mul-succ d j = ap (λ (x : ℕ). d * x) (add-one j) ∙ mul-suc d j

-- one record more
pub record Marking (s : List ℕ) (n p d i j due : ℕ) (marks : List ℕ) : Type 0 where
  pub ahead : d * j ≡ i + due
  pub soon : due < d
  pub marked : MarkedTo s n p d j marks
  pub room : length marks ≡ 4096

module _ (s : List ℕ) (n p count d i j due at : ℕ) (marks : List ℕ) (sp : Spaced count d) (h : i < count) (m : Marking s n p d i j due marks) where
  pub marking-put : due ≡ 0 → at ≡ record_place n s p i → Marking s n p d (i + 1) (j + 1) (d - 1) (set marks j at)
  marking-put z e =
      let some = sp.some in
      let dj : d * j ≡ i = omega (arith, m.ahead) in
      record {
        ahead = omega (arith, times-next d j i dj);
        soon = omega arith;
        marked = marked_turn s n p d j i at marks (omega (arith, m.room, mark-room count d i j sp h dj)) dj e m.marked;
        room = length-set marks j at ∙ m.room;
      }

  pub marking-skip : (due ≡ 0 → ⊥) → Marking s n p d (i + 1) j (due - 1) marks
  marking-skip ne = record { ahead = omega (arith, m.ahead); soon = omega (arith, m.soon); marked = m.marked; room = m.room }

-- the mark before a record
pub mark-before : (d i : ℕ) → 0 < d → d * (i / d) ≤ i
mark-before d i h = omega (arith, div-add-mod' i d, mul_comm (i / d) d)

pub mark-there : (count d i : ℕ) → Spaced count d → i < count → i / d < 4096
mark-there count d i s h = less-times d (i / d) 4096 (omega (arith, mark-before d i s.some, s.enough))

-- ---- what search answers

module _ (s t us : List ℕ) where
  pub searched-refused : {x p : ℕ} → acb s ≡ refuse x p 0 0 → refused x p 0 0 ≡ searched t us (acb s)
  searched-refused e = sym (ap (searched t us) e)

  module _ (count p n : ℕ) (a : Opened s count p n) where
    searched-by : (b : Bool) → begins (index_of (names_in s)) t ≡ b → searched t us (acb s) ≡ pick b (lowest us (shown_from 0 (names_in s))) (refused 5 0 0 0)
    searched-by b e =
        ap (searched t us) a.read
        ∙ ap (λ (d : Bool). pick d (lowest us (shown_from 0 (names_of a.contents))) (refused 5 0 0 0)) (sym (ap (λ (z : Res Contents). begins (index_of (names_read z)) t) a.read) ∙ e)
        ∙ ap (λ (z : Res Contents). pick b (lowest us (shown_from 0 (names_read z))) (refused 5 0 0 0)) (sym a.read)

    pub searched-wrong : begins (index_of (names_in s)) t ≡ false → refused 5 0 0 0 ≡ searched t us (acb s)
    searched-wrong e = sym (searched-by false e)

    pub searched-right : begins (index_of (names_in s)) t ≡ true → lowest us (shown_from 0 (names_in s)) ≡ searched t us (acb s)
    searched-right e = sym (searched-by true e)
