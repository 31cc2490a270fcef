-- Values by their kind. Assumes nothing.
use Prim.Native.Nat.{ℕ, zero, suc, ◌+◌, ◌-◌, ◌≤◌}
use mathlib.Core.Path.{◌≡◌, refl, sym, ap, ◌∙◌, subst}
use mathlib.Core.List.{List, [], ◌∷◌}
use mathlib.Core.Bool.{Bool, true}
use lib.Dec.{eqb}
use lib.ListN.{length}
use lib.Ieee.{Float, binary64, of_bits}
use lib.Ieee.Scale.{finite}
use native.Mathlib.Omega.{arith}
use borrow.Author.Tests.{ne_eqb}
use Rattle.algebra.specs.Chars.{chars}
use Rattle.algebra.specs.Numbers.{num}
use Rattle.algebra.specs.Reader.{Res, ok, refuse, Reader, field, body, judged, or_zero, limit}
use Rattle.algebra.proofs.Laws.{field_in}
use Rattle.algebra.proofs.Inverse.{then-inv, judged-inv, body-inv, done-inv, unless-fine}
use Rattle.descriptor.specs.Reading.{Row, is, leaf, sort_of, skip, boolean, flag, bits, double, unit, unit_double, descriptor}
use Rattle.descriptor.specs.scaffold.Leaves.{Leafed}
use Rattle.descriptor.proofs.Leaves.{AllLeafed, rows-leafed}
use Rattle.descriptor_read.specs.Values.{found, row_at, row_in}
use Rattle.descriptor_read.specs.scaffold.Values.{extent_of}
use Rattle.descriptor_read.specs.scaffold.Values as values
use Rattle.descriptor_read.specs.declared.Typed.TheVariants as vt
use Rattle.descriptor_read.specs.Typed.{typed_in, typed_of}
use Rattle.descriptor_read.proofs.Values.{extent-is, extent-no, part_small}

-- ---- what stands in the file

load : (w : ℕ) (s : List ℕ) (v : ℕ) → w ≤ length s - v → or_zero (field w s v) ≡ num w s v
load w s v h = ap or_zero (field_in w s v h)

flag-sort : sort_of (chars "bool") ≡ is (leaf flag)
unfolding sort_of
flag-sort = refl

long-sort : sort_of (chars "long") ≡ is (leaf (skip 4))
unfolding sort_of
long-sort = refl

comp-sort : sort_of (chars "comp") ≡ is (leaf (skip 8))
unfolding sort_of
comp-sort = refl

double-sort : sort_of (chars "doub") ≡ is (leaf double)
unfolding sort_of
double-sort = refl

unit-sort : sort_of (chars "UntF") ≡ is (leaf unit_double)
unfolding sort_of
unit-sort = refl

flag-room : (s : List ℕ) (v q : ℕ) → flag s v ≡ ok tt q → 1 ≤ length s - v
unfolding flag
flag-room s v q e =
    let i = done-inv (judged 1 boolean s v) e in
    (judged-inv 1 s v boolean i.1).0

pub skip-room : (n : ℕ) (s : List ℕ) (v q : ℕ) → skip n s v ≡ ok tt q → n ≤ length s - v
skip-room n s v q e =
    let i = done-inv (body 1 n s v) e in
    let b = body-inv 1 s v n i.1 in
    omega (arith, b.0)

double-room : (s : List ℕ) (v q : ℕ) → double s v ≡ ok tt q → (8 ≤ length s - v) × (finite (of_bits binary64 (num 8 s v)) ≡ true)
unfolding double
double-room s v q e =
    let i = done-inv (judged 8 bits s v) e in
    let r = judged-inv 8 s v bits i.1 in
    (r.0, ap (λ (b : ℕ). finite (of_bits binary64 b)) r.1 ∙ unless-fine (finite (of_bits binary64 i.0)) _ r.3)

unit-room : (s : List ℕ) (v q : ℕ) → unit_double s v ≡ ok tt q → (4 ≤ length s - v) × (8 ≤ length s - (v + 4)) × (finite (of_bits binary64 (num 8 s (v + 4))) ≡ true)
unfolding unit_double
unit-room s v q e =
    let t = then-inv (judged 4 unit s v) _ e in
    let r = judged-inv 4 s v unit t.2 in
    let x : double s (v + 4) ≡ ok tt q = ap (λ (k : ℕ). double s k) r.2 ∙ t.3 in
    let d = double-room s (v + 4) q x in
    (r.0, d.0, d.1)

-- ---- by kind

module _ (s : List ℕ) (t v : ℕ) (h : Leafed s t v) where
  read_as : (p : Reader Unit) (k : ℕ) → sort_of k ≡ is (leaf p) → t ≡ k → (q : ℕ) × (p s v ≡ ok tt q)
  read_as p k e z = h.reads p (ap sort_of z ∙ e)

  pub typed-bool : t ≡ chars "bool" → (b : Bool) → b ≡ eqb (or_zero (field 1 s v)) 1 → vt.Bool b ≡ typed_in s t v
  unfolding typed_in
  typed-bool z b e =
      let r = read_as flag (chars "bool") flag-sort z in
      let x : b ≡ eqb (num 1 s v) 1 = e ∙ ap (λ (n : ℕ). eqb n 1) (load 1 s v (flag-room s v r.0 r.1)) in
      rw z (ap (λ (c : Bool). vt.Bool c) x)

  pub typed_long : t ≡ chars "long" → (n : ℕ) → n ≡ or_zero (field 4 s v) → vt.Long n ≡ typed_in s t v
  unfolding typed_in
  typed_long z n e =
      let r = read_as (skip 4) (chars "long") long-sort z in
      let x : n ≡ num 4 s v = e ∙ load 4 s v (skip-room 4 s v r.0 r.1) in
      rw z (ap (λ (c : ℕ). vt.Long c) x)

  pub typed-comp : t ≡ chars "comp" → (n : ℕ) → n ≡ or_zero (field 8 s v) → vt.Comp n ≡ typed_in s t v
  unfolding typed_in
  typed-comp z n e =
      let r = read_as (skip 8) (chars "comp") comp-sort z in
      let x : n ≡ num 8 s v = e ∙ load 8 s v (skip-room 8 s v r.0 r.1) in
      rw z (ap (λ (c : ℕ). vt.Comp c) x)

  pub double-ready : t ≡ chars "doub" → (8 ≤ length s - v) × (finite (of_bits binary64 (num 8 s v)) ≡ true)
  double-ready z = let r = read_as double (chars "doub") double-sort z in double-room s v r.0 r.1

  pub unit-ready : t ≡ chars "UntF" → (4 ≤ length s - v) × (8 ≤ length s - (v + 4)) × (finite (of_bits binary64 (num 8 s (v + 4))) ≡ true)
  unit-ready z = let r = read_as unit_double (chars "UntF") unit-sort z in unit-room s v r.0 r.1

  pub unit-loaded : t ≡ chars "UntF" → (n : ℕ) → n ≡ or_zero (field 4 s v) → n ≡ num 4 s v
  unit-loaded z n e = e ∙ load 4 s v (unit-ready z).0

  pub typed-double : t ≡ chars "doub" → (x : Float) → x ≡ of_bits binary64 (num 8 s v) → vt.Double x ≡ typed_in s t v
  unfolding typed_in
  typed-double z x e = rw z (ap (λ (c : Float). vt.Double c) e)

  pub typed-unit : t ≡ chars "UntF" → (n : ℕ) → n ≡ or_zero (field 4 s v) → (x : Float) → x ≡ of_bits binary64 (num 8 s (v + 4)) → vt.UnitDouble n x ≡ typed_in s t v
  unfolding typed_in
  typed-unit z n g x e =
      let m : n ≡ num 4 s v = unit-loaded z n g in
      rw z (ap (λ (c : Float). vt.UnitDouble n c) e ∙ ap (λ (c : ℕ). vt.UnitDouble c (of_bits binary64 (num 8 s (v + 4)))) m)

pub typed-other : (s : List ℕ) (t v : ℕ) → (t ≡ chars "bool" → ⊥) → (t ≡ chars "long" → ⊥) → (t ≡ chars "comp" → ⊥) → (t ≡ chars "doub" → ⊥) → (t ≡ chars "UntF" → ⊥) → vt.Other ≡ typed_in s t v
unfolding typed_in
typed-other s t v a b c d e = rw (ne_eqb t (chars "bool") a, ne_eqb t (chars "long") b, ne_eqb t (chars "comp") c, ne_eqb t (chars "doub") d, ne_eqb t (chars "UntF") e)

-- the bits of a double that is there
pub double-loaded : (s : List ℕ) (v n : ℕ) → 8 ≤ length s - v → n ≡ or_zero (field 8 s v) → n ≡ num 8 s v
double-loaded s v n h e = e ∙ load 8 s v h

-- ---- a row's

leafed-at : (s : List ℕ) (rs : List Row) (k : ℕ) (r : Row) → AllLeafed s rs → row_at k rs ≡ found r → Leafed s r.kind r.value
leafed-at s [] k r a e = let z : ◌≡◌ {A = ℕ} 0 1 = cc in absurd (omega arith)
leafed-at s (q ∷ rs) zero r a e = let w : q ≡ r = cc in subst (λ (x : Row). Leafed s x.kind x.value) w a.0
leafed-at s (q ∷ rs) (suc k) r a e = leafed-at s rs k r a.1 e

leafed-in : (s : List ℕ) (k : ℕ) (m : Res (List Row)) → descriptor s ≡ m → (r : Row) → row_in k m ≡ found r → Leafed s r.kind r.value
leafed-in s k (ok rs q) d r e = leafed-at s rs k r (rows-leafed s rs q d) e
leafed-in s k (refuse x p y f) d r e = let z : ◌≡◌ {A = ℕ} 0 1 = cc in absurd (omega arith)

module _ (s : List ℕ) (k : ℕ) where
  pub typed_no : (x p : ℕ) → values.refused x p ≡ extent_of (row_in k (descriptor s)) → refuse x p 0 0 ≡ typed_of s (row_in k (descriptor s))
  typed_no x p e = sym (ap (typed_of s) (extent-no (row_in k (descriptor s)) x p e))

  module _ (t v n : ℕ) (e : values.is t v n ≡ extent_of (row_in k (descriptor s))) where
    pub row-leafed : Leafed s t v
    row-leafed =
        let x = extent-is (row_in k (descriptor s)) t v n e in
        let l : Leafed s x.0.kind x.0.value = leafed-in s k (descriptor s) refl x.0 x.1 in
        subst (λ (a : ℕ). Leafed s a v) (sym x.2) (subst (λ (a : ℕ). Leafed s x.0.kind a) (sym x.3) l)

    pub row-value-small : v ≤ limit
    row-value-small = omega (arith, part_small s k t v n e)

    pub typed-is : ok (typed_in s t v) 0 ≡ typed_of s (row_in k (descriptor s))
    typed-is =
        let x = extent-is (row_in k (descriptor s)) t v n e in
        ap (λ (a : ℕ). ok (typed_in s a v) 0) x.2 ∙ ap (λ (a : ℕ). ok (typed_in s x.0.kind a) 0) x.3 ∙ sym (ap (typed_of s) x.1)
