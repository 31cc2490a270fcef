-- A head of a kind whose value has one length: what stands before the value decides all of it. Assumes nothing.
use Prim.Native.Nat.{ℕ, ◌+◌, ◌-◌, ◌≤◌}
use mathlib.Core.Path.{◌≡◌, refl, sym, ap, ap₂, ◌∙◌, subst}
use mathlib.Core.List.{List}
use mathlib.Core.Bool.{Bool, true, false}
use lib.Dec.{leb, eqb}
use lib.ListN.{length}
use native.Mathlib.Omega.{arith}
use Rattle.algebra.specs.Chars.{chars}
use Rattle.algebra.specs.Reader.{Res, ok, Reader, field, body, fine, unless, judged}
use Rattle.algebra.specs.Algebra.{Same}
use Rattle.algebra.specs.Refusal.{Of}
use Rattle.algebra.proofs.Inverse.{clash, then-inv, done-inv, pick_inv, body-inv, judged-inv, field-inv, ok-value, ok-place}
use Rattle.algebra.proofs.Lawful.{same_left, same-right}
use Rattle.algebra.proofs.Placed.{of-each}
use Rattle.descriptor.specs.Reading.{Known, is, unknown, known, skip, id, boolean, flag, bits, double, unit, unit_double, Sort, leaf, sort_of, form_of, ref_value, column, column_type}
use Rattle.descriptor_heads.specs.Heads.{Due, items, pairs, forms, columns, Opened, opens, item_head, member_head, deepest, head_at}
use Rattle.descriptor_heads.specs.Changed.{scalars}
use Rattle.descriptor_heads.proofs.Local.{field-lawful, id-lawful}

known-inv : {A B : Type 0} (m : Known A) (p : ℕ) (f : A → Res B) {b : B} {q : ℕ} → known m p f ≡ ok b q → (a : A) × (m ≡ is a) × (f a ≡ ok b q)
known-inv (is a) p f e = (a, refl, e)
known-inv unknown p f e = clash e

-- fields of w bytes
abbrev Wide : ℕ → Reader Unit → Type 0
Wide w p = (s : List ℕ) (at q : ℕ) → p s at ≡ ok tt q → at + w ≡ q

flag-wide : Wide 1 flag
unfolding flag
flag-wide s at q e = let i = done-inv (judged 1 boolean s at) e in (judged-inv 1 s at boolean i.1).2

double-wide : Wide 8 double
unfolding double
double-wide s at q e = let i = done-inv (judged 8 bits s at) e in (judged-inv 8 s at bits i.1).2

skip-wide : (n : ℕ) → Wide n (skip n)
skip-wide n s at q e = let i = done-inv (body 1 n s at) e in omega (arith, (body-inv 1 s at n i.1).2)

unit-wide : Wide 12 unit_double
unfolding unit_double
unit-wide s at q e =
    let t = then-inv (judged 4 unit s at) _ e in
    omega (arith, (judged-inv 4 s at unit t.2).2, double-wide s t.1 q t.3)

-- such a kind is a type without members, no form, and not `UnFl`
pub record Scalar (t : ℕ) : Type 0 where
  pub width : ℕ
  pub value : Reader Unit
  pub type : sort_of t ≡ is (leaf value)
  pub wide : Wide width value
  pub form : form_of t ≡ unknown
  pub other : eqb t (chars "UnFl") ≡ false

pub scalar : {t : ℕ} → Of scalars t → Scalar t
unfolding sort_of form_of
scalar h =
    of-each Scalar scalars (
      record { width = 1; value = flag; type = refl; wide = flag-wide; form = refl; other = refl },
      (
        record { width = 4; value = skip 4; type = refl; wide = skip-wide 4; form = refl; other = refl },
        (
          record { width = 8; value = skip 8; type = refl; wide = skip-wide 8; form = refl; other = refl },
          (
            record { width = 8; value = double; type = refl; wide = double-wide; form = refl; other = refl },
            (record { width = 12; value = unit_double; type = refl; wide = unit-wide; form = refl; other = refl }, tt),
          ),
        ),
      ),
    )
    h

-- ---- two files that agree up to the value

-- what was read is the same, up to the same place, and has no child
pub record Agrees (o o' : Opened) (q q' : ℕ) : Type 0 where
  pub head : o' ≡ o
  pub end : q' ≡ q
  pub none : o.count ≡ 0

-- an item's head has its kind and the place behind it
record Parts (s : List ℕ) (d first at : ℕ) (o : Opened) (q : ℕ) : Type 0 where
  t : ℕ
  v : ℕ
  sort : Sort
  type : field 4 s at ≡ ok t v
  is_sort : sort_of t ≡ is sort
  below : Due × ℕ
  opened : opens sort s v ≡ ok below q
  whole : record { head = record { kind = t; first = first; depth = d; value = v }; below = below.0; count = below.1 } ≡ o

parts : (s : List ℕ) (d first at : ℕ) (o : Opened) (q : ℕ) → item_head d first s at ≡ ok o q → Parts s d first at o q
unfolding item_head
parts s d first at o q e =
    let x = then-inv (field 4 s at) _ e in
    let y = known-inv (sort_of x.0) at _ x.3 in
    let z = then-inv (opens y.0 s x.1) _ y.2 in
    record { t = x.0; v = x.1; sort = y.0; type = x.2; is_sort = y.1; below = z.0; opened = z.2 ∙ ap (λ (k : ℕ). ok z.0 k) (ok-place z.3); whole = ok-value z.3 }

is_same : {A : Type 0} {a b : A} → is a ≡ is b → a ≡ b
is_same e = cc

-- a leaf of w bytes
leaf-opened : (w : ℕ) (p : Reader Unit) → Wide w p → (s : List ℕ) (v : ℕ) (b : Due × ℕ) (q : ℕ) → opens (leaf p) s v ≡ ok b q → ((items, 0) ≡ b) × (v + w ≡ q)
leaf-opened w p wide s v b q e =
    let t = then-inv (p s v) _ e in
    (ok-value t.3, wide s v t.1 t.2 ∙ ok-place t.3)

item-agrees : (s u : List ℕ) (d first at : ℕ) (o o' : Opened) (q q' : ℕ) → at ≤ length s → item_head d first s at ≡ ok o q → item_head d first u at ≡ ok o' q'
    → Of scalars o.head.kind → Same s u at o.head.value → Agrees o o' q q'
item-agrees s u d first at o o' q q' le e f k same =
    let x = parts s d first at o q e in
    let y = parts u d first at o' q' f in
    let kt : o.head.kind ≡ x.t = ap (λ (z : Opened). z.head.kind) (sym x.whole) in
    let vt : o.head.value ≡ x.v = ap (λ (z : Opened). z.head.value) (sym x.whole) in
    let c = scalar (subst (Of scalars) kt k) in
    let g : field 4 u at ≡ ok x.t x.v = (field-lawful 4).local s at le x.t x.v x.type u (subst (Same s u at) vt same) in
    let tt' : x.t ≡ y.t = ok-value (sym g ∙ y.type) in
    let vv : x.v ≡ y.v = ok-place (sym g ∙ y.type) in
    let sx : x.sort ≡ leaf c.value = is_same (sym x.is_sort ∙ c.type) in
    let sy : y.sort ≡ leaf c.value = is_same (sym y.is_sort ∙ ap sort_of (sym tt') ∙ c.type) in
    let lx = leaf-opened c.width c.value c.wide s x.v x.below q (ap (λ (z : Sort). opens z s x.v) (sym sx) ∙ x.opened) in
    let ly = leaf-opened c.width c.value c.wide u y.v y.below q' (ap (λ (z : Sort). opens z u y.v) (sym sy) ∙ y.opened) in
    record {
      head = sym y.whole ∙ ap₂ (λ (z : ℕ) (b : Due × ℕ). record { head = record { kind = z; first = first; depth = d; value = y.v }; below = b.0; count = b.1 }) (sym tt') (sym ly.0 ∙ lx.0)
          ∙ ap (λ (z : ℕ). record { head = record { kind = x.t; first = first; depth = d; value = z }; below = x.below.0; count = x.below.1 }) (sym vv) ∙ x.whole;
      end = sym ly.1 ∙ ap (λ (z : ℕ). z + c.width) (sym vv) ∙ lx.1;
      none = ap (λ (z : Opened). z.count) (sym x.whole) ∙ ap (λ (b : Due × ℕ). b.1) (sym lx.0);
    }

-- a head's value begins behind its type
value-behind : (s : List ℕ) (d first at : ℕ) (o : Opened) (q : ℕ) → item_head d first s at ≡ ok o q → (4 ≤ length s - at) × (at + 4 ≡ o.head.value)
value-behind s d first at o q e = let x = parts s d first at o q e in let i = field-inv 4 s at x.type in (i.0, i.2 ∙ ap (λ (z : Opened). z.head.value) x.whole)

member-agrees : (s u : List ℕ) (d : ℕ) (c : Due) (at : ℕ) (o o' : Opened) (q q' : ℕ) → at ≤ length s → member_head d c s at ≡ ok o q → member_head d c u at ≡ ok o' q'
    → Of scalars o.head.kind → Same s u at o.head.value → Agrees o o' q q'
unfolding member_head
member-agrees s u d items at o o' q q' le e f k same = item-agrees s u d at at o o' q q' le e f k same
member-agrees s u d pairs at o o' q q' le e f k same =
    let x = then-inv (id s at) _ e in
    let y = then-inv (id u at) _ f in
    let w = id-lawful.moves s at le x.0 x.1 x.2 in
    let b = value-behind s d at x.1 o q x.3 in
    let g = id-lawful.local s at le x.0 x.1 x.2 u (same_left same x.1 (omega (arith, b.1))) in
    let z : x.1 ≡ y.1 = ok-place (sym g ∙ y.2) in
    item-agrees s u d at x.1 o o' q q' w.1 x.3 (ap (item_head d at u) z ∙ y.3) k (same-right same x.1 w.0)
member-agrees s u d forms at o o' q q' le e f k same =
    let x = then-inv (field 4 s at) _ e in
    let y = known-inv (form_of x.0) at _ x.3 in
    let z = then-inv (ref_value y.0 s x.1) _ y.2 in
    let t : o.head.kind ≡ x.0 = ap (λ (w : Opened). w.head.kind) (sym (ok-value z.3)) in
    absurd (not_known (sym (scalar k).form ∙ ap form_of t ∙ y.1))
  where
    not_known : {r : Reader Unit} → unknown ≡ is r → ⊥
    not_known h = let z : ◌≡◌ {A = ℕ} 0 1 = cc in omega arith
member-agrees s u d (columns m) at o o' q q' le e f k same =
    let x = then-inv (id s at) _ e in
    let y = then-inv (judged 4 column_type s x.1) _ x.3 in
    let z = then-inv (column m s y.1) _ y.3 in
    let t : o.head.kind ≡ y.0 = ap (λ (w : Opened). w.head.kind) (sym (ok-value z.3)) in
    absurd (not-column (eqb y.0 (chars "UnFl")) (judged-inv 4 s x.1 column_type y.2).3 (ap (λ (w : ℕ). eqb w (chars "UnFl")) (sym t) ∙ (scalar k).other))
  where
    not-column : (b : Bool) → unless b 4 ≡ fine → b ≡ false → ⊥
    not-column true h g = let z : ◌≡◌ {A = ℕ} 0 1 = cc in omega arith
    not-column false h g = let z : ◌≡◌ {A = ℕ} 0 1 = cc in omega arith

pub head-agrees : (s u : List ℕ) (d : ℕ) (c : Due) (at : ℕ) (o o' : Opened) (q q' : ℕ) → at ≤ length s → head_at d c s at ≡ ok o q → head_at d c u at ≡ ok o' q'
    → Of scalars o.head.kind → Same s u at o.head.value → Agrees o o' q q'
unfolding head_at
head-agrees s u d c at o o' q q' le e f k same =
    member-agrees s u d c at o o' q q' le (pick_inv (leb d deepest) (member_head d c s at) 10 at 0 0 e).1 (pick_inv (leb d deepest) (member_head d c u at) 10 at 0 0 f).1 k same

-- ---- any head's value begins behind its first byte, and in the file

pub record Behind (s : List ℕ) (at : ℕ) (o : Opened) : Type 0 where
  pub low : at ≤ o.head.value
  pub high : o.head.value ≤ length s

member-behind : (s : List ℕ) (d : ℕ) (c : Due) (at : ℕ) (o : Opened) (q : ℕ) → at ≤ length s → member_head d c s at ≡ ok o q → Behind s at o
unfolding member_head
member-behind s d items at o q le e = let i = value-behind s d at at o q e in record { low = omega (arith, i.1); high = omega (arith, i.0, i.1) }
member-behind s d pairs at o q le e =
    let x = then-inv (id s at) _ e in
    let w = id-lawful.moves s at le x.0 x.1 x.2 in
    let i = value-behind s d at x.1 o q x.3 in
    record { low = omega (arith, w.0, i.1); high = omega (arith, w.1, i.0, i.1) }
member-behind s d forms at o q le e =
    let x = then-inv (field 4 s at) _ e in
    let y = known-inv (form_of x.0) at _ x.3 in
    let z = then-inv (ref_value y.0 s x.1) _ y.2 in
    let t : x.1 ≡ o.head.value = ap (λ (w : Opened). w.head.value) (ok-value z.3) in
    let i = field-inv 4 s at x.2 in
    record { low = omega (arith, i.2); high = omega (arith, i.0, i.2) }
member-behind s d (columns m) at o q le e =
    let x = then-inv (id s at) _ e in
    let y = then-inv (judged 4 column_type s x.1) _ x.3 in
    let z = then-inv (column m s y.1) _ y.3 in
    let t : y.1 ≡ o.head.value = ap (λ (w : Opened). w.head.value) (ok-value z.3) in
    let w = id-lawful.moves s at le x.0 x.1 x.2 in
    let i = judged-inv 4 s x.1 column_type y.2 in
    record { low = omega (arith, w.0, i.2); high = omega (arith, w.1, i.0, i.2) }

pub head-behind : (s : List ℕ) (d : ℕ) (c : Due) (at : ℕ) (o : Opened) (q : ℕ) → at ≤ length s → head_at d c s at ≡ ok o q → Behind s at o
unfolding head_at
head-behind s d c at o q le e = member-behind s d c at o q le (pick_inv (leb d deepest) (member_head d c s at) 10 at 0 0 e).1
