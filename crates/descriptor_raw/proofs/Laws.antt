-- Where fields that are accepted end. Assumes nothing.
use Prim.Native.Nat.{ℕ, zero, suc, ◌+◌, ◌*◌, ◌≤◌, ◌<◌}
use mathlib.Core.Path.{◌≡◌, refl, sym, ap, ◌∙◌, subst}
use mathlib.Core.List.{List}
use mathlib.Core.Bool.{Bool, true, false}
use lib.Dec.{eqb, leb}
use native.Mathlib.Omega.{arith}
use borrow.Author.Tests.{eq-eqb, ne_eqb, eqb-true, eqb-false}
use lib.Ieee.{binary64, of_bits}
use lib.Ieee.Scale.{finite}
use Rattle.algebra.specs.Chars.{chars}
use Rattle.algebra.specs.Reader.{Res, Reader, ok, refuse, then, pick, field, body, rule, Judged, fine, fault, unless, judged, each, or_zero}
use Rattle.algebra.proofs.Inverse.{field-inv, body-inv, judged-inv, done-inv, clash, then-inv, ok-value, ok-place, each_none, each-inv}
use Rattle.descriptor.specs.Reading.{Known, is, unknown, known, Sort, leaf, list, object, reference, array, sort_of, id, skip, shut, unicode, class, raw_bytes, flag, double, is_unit, is_array_unit, unit_double, form_of, ref_value, column}
use Rattle.descriptor_fields.specs.scaffold.Answer.{reader_of}
use Rattle.descriptor_fields.specs.scaffold.Answer as DA
use Rattle.descriptor_fields.specs.declared.Form.{Form}
use Rattle.std.specs.Prelude.{Option, Some, None}
use Rattle.descriptor_judge.specs.scaffold.Cycle.{optional}
use Rattle.descriptor_raw.specs.Raw.{due_of, Sees}
use Rattle.descriptor_raw.specs.scaffold.Raw.{Ends, Values, Items}
use Rattle.descriptor_raw.specs.declared.RawHead.{RawHead}
use Rattle.descriptor_heads.specs.Heads.{Due, items, pairs, forms, columns, Opened, opens, item_head, bare, member_head, root_head}

pub skip-ends : (n : ℕ) (s : List ℕ) (at q : ℕ) → skip n s at ≡ ok tt q → at + n ≡ q
skip-ends n s at q e = let i = done-inv (body 1 n s at) e in let j = body-inv 1 s at n i.1 in omega arith

pub field-ends : (w : ℕ) (s : List ℕ) (at v q : ℕ) → field w s at ≡ ok v q → (or_zero (field w s at) ≡ v) × (at + w ≡ q)
field-ends w s at v q e = (ap or_zero e, (field-inv w s at e).2)

-- an ID
pub id-ends : (s : List ℕ) (at n r : ℕ) → n ≡ or_zero (field 4 s at) → (q : ℕ) → id s at ≡ ok tt q → at + 4 + pick (eqb n 0) 4 n ≡ q
unfolding id
id-ends s at n r h q e =
    let t = then-inv (field 4 s at) _ e in
    let f = field-ends 4 s at t.0 t.1 t.2 in
    let k = skip-ends (pick (eqb t.0 0) 4 t.0) s t.1 q t.3 in
    let z : t.0 ≡ n = sym f.0 ∙ sym h in
    let y : pick (eqb t.0 0) 4 t.0 ≡ pick (eqb n 0) 4 n = ap (λ (x : ℕ). pick (eqb x 0) 4 x) z in
    omega (arith, f.1, k, y)

pub id-zero : (s : List ℕ) (at n : ℕ) → n ≡ or_zero (field 4 s at) → n ≡ 0 → Ends (id s at) (at + 8589934592) (at + 8)
id-zero s at n h z = record { ends = λ q e. let y : pick (eqb n 0) 4 n ≡ 4 = ap (λ (b : Bool). pick b 4 n) (eq-eqb n 0 z) in omega (arith, id-ends s at n 0 h q e, y); near = omega arith }

pub id-some : (s : List ℕ) (at n : ℕ) → n ≡ or_zero (field 4 s at) → n < 4294967296 → (n ≡ 0 → ⊥) → Ends (id s at) (at + 8589934592) (at + 4 + n)
id-some s at n h l z = record { ends = λ q e. let y : pick (eqb n 0) 4 n ≡ n = ap (λ (b : Bool). pick b 4 n) (ne_eqb n 0 z) in omega (arith, id-ends s at n 0 h q e, y); near = omega arith }

-- a Unicode string
rule-ends : (j : Judged) (p e q : ℕ) → rule j p (ok (tt {0}) e) ≡ ok tt q → e ≡ q
rule-ends fine p e q h = ok-place h
rule-ends (fault n r f) p e q h = clash h

pub text-ends : (s : List ℕ) (at n : ℕ) → n ≡ or_zero (field 4 s at) → n < 4294967296 → Ends (unicode s at) (at + 17179869184) (at + 4 + 2 * n)
unfolding unicode
text-ends s at n h l = record {
  ends = λ q e.
      let t = then-inv (field 4 s at) _ e in
      let f = field-ends 4 s at t.0 t.1 t.2 in
      let u = then-inv (body 2 t.0 s t.1) _ t.3 in
      let b = body-inv 2 s t.1 t.0 u.2 in
      let r = rule-ends (unless (shut u.0) 8) at u.1 q u.3 in
      let z : t.0 ≡ n = sym f.0 ∙ sym h in
      omega (arith, f.1, b.2, r, z);
  near = omega arith;
}

-- one and then another
pub both_end : (m : Res Unit) (k : ℕ → Res Unit) (a b x y : ℕ) → Ends m a x → Ends (k x) b y → Ends (then m (λ u q. k q)) b y
both_end m k a b x y f g = record { ends = λ q e. let t = then-inv m _ e in g.ends q (ap k (f.ends t.1 t.2) ∙ t.3); near = g.near }

pub further : {m : Res Unit} {x : ℕ} (a b : ℕ) → a ≤ b → Ends m a x → Ends m b x
further a b l f = record { ends = f.ends; near = omega (arith, l, f.near) }

pub run_ends : (s : List ℕ) (at n : ℕ) → n ≡ or_zero (field 4 s at) → n < 4294967296 → Ends (raw_bytes s at) (at + 8589934592) (at + 4 + n)
unfolding raw_bytes
run_ends s at n h l = record {
  ends = λ q e.
      let t = then-inv (field 4 s at) _ e in
      let f = field-ends 4 s at t.0 t.1 t.2 in
      let k = skip-ends t.0 s t.1 q t.3 in
      let z : t.0 ≡ n = sym f.0 ∙ sym h in
      omega (arith, f.1, k, z);
  near = omega arith;
}

-- ---- fields of a fixed size

pub flag-ends : (s : List ℕ) (v q : ℕ) → flag s v ≡ ok tt q → v + 1 ≡ q
unfolding flag
flag-ends s v q e = let i = done-inv (judged 1 (λ b. unless (leb b 1) 5) s v) e in (judged-inv 1 s v (λ b. unless (leb b 1) 5) i.1).2

pub double-ends : (s : List ℕ) (v q : ℕ) → double s v ≡ ok tt q → v + 8 ≡ q
unfolding double
double-ends s v q e = let i = done-inv (judged 8 (λ b. unless (finite (of_bits binary64 b)) 5) s v) e in (judged-inv 8 s v (λ b. unless (finite (of_bits binary64 b)) 5) i.1).2

pub unit_ends : (s : List ℕ) (v q : ℕ) → unit_double s v ≡ ok tt q → v + 12 ≡ q
unfolding unit_double
unit_ends s v q e =
    let t = then-inv (judged 4 (λ u. unless (is_unit u) 4) s v) _ e in
    let j = judged-inv 4 s v (λ u. unless (is_unit u) 4) t.2 in
    let d = double-ends s t.1 q t.3 in
    omega (arith, j.2, d)

-- ---- a value by its type

value_of : {A : Type 0} {a b : A} → is a ≡ is b → a ≡ b
value_of e = cc

none : {A : Type 0} {a : A} → unknown ≡ is a → ⊥
none e = let z : ◌≡◌ {A = ℕ} 0 1 = cc in omega arith

leaf-inv : (m : Res Unit) (x : Due × ℕ) (q : ℕ) → then {B = Due × ℕ} m (λ u q. ok (items, 0) q) ≡ ok x q → (m ≡ ok tt q) × (items ≡ x.0) × (0 ≡ x.1)
leaf-inv (ok u r) x q e = (ap (λ (y : ℕ). ok tt y) (ok-place e), ap (λ (y : Due × ℕ). y.0) (ok-value e), ap (λ (y : Due × ℕ). y.1) (ok-value e))
leaf-inv (refuse y p r f) x q e = clash e

module _ (s : List ℕ) (t v : ℕ) where
  by-sort : (w : Sort) (r : RawHead) → sort_of t ≡ is w → r.kind ≡ t → r.value ≡ v → ((x : Due × ℕ) (q : ℕ) → opens w s v ≡ ok x q → (due_of r.what r.objects ≡ x.0) × (r.count ≡ x.1) × (r.end ≡ q)) → Values s t v r
  by-sort w r h k vl f = record { kind = k; value = vl; opened = λ sort e x q g. f x q (ap (λ (y : Sort). opens y s v) (value_of (sym h ∙ e)) ∙ g) }

  pub as-leaf : (p : Reader Unit) (e : ℕ) (r : RawHead) → r ≡ record { kind = t; what = 0; objects = 0; count = 0; value = v; end = e } → sort_of t ≡ is (leaf p) → ((q : ℕ) → p s v ≡ ok tt q → e ≡ q) → Values s t v r
  as-leaf p e r z h f = subst (Values s t v) (sym z) (by-sort (leaf p) _ h refl refl (λ x q g. let i = leaf-inv (p s v) x q g in (i.1, i.2, f q i.0)))

  counted-inv : (c : Due) (at : ℕ) (x : Due × ℕ) (q : ℕ) → then {B = Due × ℕ} (field 4 s at) (λ n e. ok (c, n) e) ≡ ok x q → (c ≡ x.0) × (or_zero (field 4 s at) ≡ x.1) × (at + 4 ≡ q)
  counted-inv c at x q e =
      let i = then-inv (field 4 s at) _ e in
      let f = field-ends 4 s at i.0 i.1 i.2 in
      (ap (λ (y : Due × ℕ). y.0) (ok-value i.3), f.0 ∙ ap (λ (y : Due × ℕ). y.1) (ok-value i.3), f.1 ∙ ok-place i.3)

  pub as-list : (r : RawHead) → r ≡ record { kind = t; what = 0; objects = 0; count = or_zero (field 4 s v); value = v; end = v + 4 } → sort_of t ≡ is list → Values s t v r
  as-list r z h = subst (Values s t v) (sym z) (by-sort list _ h refl refl (λ x q g. counted-inv items v x q g))

  pub as-reference : (r : RawHead) → r ≡ record { kind = t; what = 2; objects = 0; count = or_zero (field 4 s v); value = v; end = v + 4 } → sort_of t ≡ is reference → Values s t v r
  as-reference r z h = subst (Values s t v) (sym z) (by-sort reference _ h refl refl (λ x q g. counted-inv forms v x q g))

  class-inv : (c : Due) (at a e : ℕ) → Ends (class s at) a e → (x : Due × ℕ) (q : ℕ) → then {B = Due × ℕ} (class s at) (λ u r. then {B = Due × ℕ} (field 4 s r) (λ n e. ok (c, n) e)) ≡ ok x q → (c ≡ x.0) × (or_zero (field 4 s e) ≡ x.1) × (e + 4 ≡ q)
  class-inv c at a e f x q g =
      let i = then-inv (class s at) _ g in
      counted-inv c e x q (ap (λ (y : ℕ). then {B = Due × ℕ} (field 4 s y) (λ n e. ok (c, n) e)) (f.ends i.1 i.2) ∙ i.3)

  pub as-object : (a e : ℕ) (r : RawHead) → r ≡ record { kind = t; what = 1; objects = 0; count = or_zero (field 4 s e); value = v; end = e + 4 } → sort_of t ≡ is object → Ends (class s v) a e → Values s t v r
  as-object a e r z h f = subst (Values s t v) (sym z) (by-sort object _ h refl refl (λ x q g. class-inv pairs v a e f x q g))

  pub as-array : (a e m : ℕ) (r : RawHead) → m ≡ or_zero (field 4 s v) → r ≡ record { kind = t; what = 3; objects = m; count = or_zero (field 4 s e); value = v; end = e + 4 } → sort_of t ≡ is array → Ends (class s (v + 4)) a e → Values s t v r
  as-array a e m r n z h f = subst (Values s t v) (sym z) (by-sort array _ h refl refl (λ x q g.
      let i = then-inv (field 4 s v) _ g in
      let k = field-ends 4 s v i.0 i.1 i.2 in
      let y : i.0 ≡ m = sym k.0 ∙ sym n in
      class-inv (columns m) (v + 4) a e f x q
      (ap (λ (u : ℕ). then {B = Due × ℕ} (class s u) (λ w r. then {B = Due × ℕ} (field 4 s r) (λ n e. ok (columns m, n) e))) k.1
      ∙ ap (λ (u : ℕ). then {B = Due × ℕ} (class s i.1) (λ w r. then {B = Due × ℕ} (field 4 s r) (λ n e. ok (columns u, n) e))) (sym y) ∙ i.3)))

  pub as-unknown : (r : RawHead) → r.kind ≡ t → r.value ≡ v → sort_of t ≡ unknown → Values s t v r
  as-unknown r k vl h = record { kind = k; value = vl; opened = λ sort e x q g. absurd (none (sym h ∙ e)) }

-- ---- an item

pub item-sees : (s : List ℕ) (at t : ℕ) (r : RawHead) → t ≡ or_zero (field 4 s at) → Values s t (at + 4) r → Items s at r
unfolding item_head
item-sees s at t r z w = record {
  any = λ first. record {
    sees = λ d o q e.
        let i = then-inv (field 4 s at) _ e in
        let k = field-ends 4 s at i.0 i.1 i.2 in
        go first d o q i.0 i.1 k.0 k.1 (sort_of i.0) refl i.3;
  };
}
  where
    go : (first d : ℕ) (o : Opened) (q u v : ℕ) → or_zero (field 4 s at) ≡ u → at + 4 ≡ v → (g : Known Sort) → sort_of u ≡ g
        → known g at (λ sort. then (opens sort s v) (λ o q. ok (record { head = record { kind = u; first = first; depth = d; value = v }; below = o.0; count = o.1 }) q)) ≡ ok o q
        → (r.kind ≡ o.head.kind) × (due_of r.what r.objects ≡ o.below) × (r.count ≡ o.count) × (r.end ≡ q) × (r.value ≡ o.head.value)
    go first d o q u v a b (is sort) h e =
        let i = then-inv (opens sort s v) _ e in
        let y : t ≡ u = z ∙ a in
        let m = w.opened sort (ap sort_of y ∙ h) i.0 i.1 (ap (opens sort s) b ∙ i.2) in
        (w.kind ∙ y ∙ ap (λ (x : Opened). x.head.kind) (ok-value i.3), m.0 ∙ ap (λ (x : Opened). x.below) (ok-value i.3), m.1 ∙ ap (λ (x : Opened). x.count) (ok-value i.3), m.2 ∙ ok-place i.3, w.value ∙ b ∙ ap (λ (x : Opened). x.head.value) (ok-value i.3))
    go first d o q u v a b unknown h e = clash e

-- ---- reference items

pub nothing_ends : (s : List ℕ) (at : ℕ) → Ends (skip 0 s at) (at + 34359738368) at
nothing_ends s at = record { ends = λ q e. omega (arith, skip-ends 0 s at q e); near = omega arith }

pub long-ends : (s : List ℕ) (at : ℕ) → Ends (skip 4 s at) (at + 34359738368) (at + 4)
long-ends s at = record { ends = λ q e. omega (arith, skip-ends 4 s at q e); near = omega arith }

bare-inv : (m : Res Unit) (t at d v : ℕ) (o : Opened) (q : ℕ) → then m (λ u q. ok (bare t at d v) q) ≡ ok o q → (m ≡ ok tt q) × (t ≡ o.head.kind) × (items ≡ o.below) × (0 ≡ o.count) × (v ≡ o.head.value)
bare-inv (ok u r) t at d v o q e = (ap (λ (x : ℕ). ok tt x) (ok-place e), ap (λ (x : Opened). x.head.kind) (ok-value e), ap (λ (x : Opened). x.below) (ok-value e), ap (λ (x : Opened). x.count) (ok-value e), ap (λ (x : Opened). x.head.value) (ok-value e))
bare-inv (refuse x p r f) t at d v o q e = clash e

abbrev bare_head : (kind value end : ℕ) → RawHead
bare_head t v e = record { kind = t; what = 0; objects = 0; count = 0; value = v; end = e }

form-of-known : (s : List ℕ) (at t e : ℕ) → t ≡ or_zero (field 4 s at) → ((r : Reader Unit) → form_of t ≡ is r → (q : ℕ) → ref_value r s (at + 4) ≡ ok tt q → e ≡ q) → Sees (λ d. member_head d forms s at) (bare_head t (at + 4) e)
unfolding member_head
form-of-known s at t e z f = record {
  sees = λ d o q g.
      let i = then-inv (field 4 s at) _ g in
      let k = field-ends 4 s at i.0 i.1 i.2 in
      go d o q i.0 i.1 (z ∙ k.0) k.1 (form_of i.0) refl i.3;
}
  where
    go : (d : ℕ) (o : Opened) (q u v : ℕ) → t ≡ u → at + 4 ≡ v → (g : Known (Reader Unit)) → form_of u ≡ g → known g at (λ r. then (ref_value r s v) (λ w q. ok (bare u at d v) q)) ≡ ok o q
        → (t ≡ o.head.kind) × (items ≡ o.below) × (0 ≡ o.count) × (e ≡ q) × (at + 4 ≡ o.head.value)
    go d o q u v a b (is r) h g =
        let i = bare-inv (ref_value r s v) u at d v o q g in
        (a ∙ i.1, i.2, i.3, f r (ap form_of a ∙ h) q (ap (ref_value r s) b ∙ i.0), b ∙ i.4)
    go d o q u v a b unknown h g = clash g

pub as-form : (s : List ℕ) (at t c a b e : ℕ) (k : Option Form) (g : Form) (r : RawHead) → t ≡ or_zero (field 4 s at) → Ends (class s (at + 4)) a c → DA.known k ≡ form_of t → k ≡ Some g → Ends (reader_of g s c) b e → r ≡ bare_head t (at + 4) e → Sees (λ d. member_head d forms s at) r
unfolding ref_value
as-form s at t c a b e k g r z f h w x y = subst (Sees (λ d. member_head d forms s at)) (sym y) (form-of-known s at t e z (λ p u q v.
    let m : reader_of g ≡ p = value_of (sym (ap DA.known w) ∙ h ∙ u) in
    let i = then-inv (class s (at + 4)) _ v in
    x.ends q (ap (reader_of g s) (f.ends i.1 i.2) ∙ ap (λ (n : Reader Unit). n s i.1) m ∙ i.3)))

pub no-form : (s : List ℕ) (at t e : ℕ) (k : Option Form) (r : RawHead) → t ≡ or_zero (field 4 s at) → DA.known k ≡ form_of t → k ≡ None → r ≡ bare_head t (at + 4) e → Sees (λ d. member_head d forms s at) r
no-form s at t e k r z h w y = subst (Sees (λ d. member_head d forms s at)) (sym y) (form-of-known s at t e z (λ p u q v. absurd (none (sym (ap DA.known w) ∙ h ∙ u))))

-- ---- pairs of object arrays

each-ends : (s : List ℕ) (n i at : ℕ) (us : List Unit) (q : ℕ) → each n i (λ j. double) s at ≡ ok us q → at + n * 8 ≡ q
each-ends s zero i at us q e = let z = each_none (λ j. double) s i at e in omega (arith, z.1)
each-ends s (suc n) i at us q e =
    let t = each-inv (λ j. double) s n i at e in
    let d = double-ends s at t.1 t.3 in
    let r = each-ends s n (i + 1) t.1 t.2 q t.4 in
    omega (arith, d, r)

column-ends : (s : List ℕ) (m v q : ℕ) → column m s v ≡ ok tt q → v + 8 + m * 8 ≡ q
unfolding column
column-ends s m v q e =
    let t = then-inv (judged 4 (λ u. unless (is_array_unit u) 4) s v) _ e in
    let j = judged-inv 4 s v (λ u. unless (is_array_unit u) 4) t.2 in
    let u = then-inv (judged 4 (λ n. unless (eqb n m) 5) s t.1) _ t.3 in
    let k = judged-inv 4 s t.1 (λ n. unless (eqb n m) 5) u.2 in
    let i = done-inv (each u.0 0 (λ i. double) s u.1) u.3 in
    let x = each-ends s u.0 0 u.1 i.0 q i.1 in
    let y : u.0 ≡ m = fine-eq u.0 m k.3 in
    omega (arith, j.2, k.2, x, y)
  where
    fine-eq : (n m : ℕ) → unless (eqb n m) 5 ≡ fine → n ≡ m
    fine-eq n m e = go (eqb n m) refl e
      where
        go : (b : Bool) → eqb n m ≡ b → unless b 5 ≡ fine → n ≡ m
        go true x y = eqb-true n m x
        go false x y = let z : ◌≡◌ {A = ℕ} 0 1 = cc in absurd (omega (arith, z))

pub as-column : (s : List ℕ) (m at a e x : ℕ) (r : RawHead) → Ends (id s at) a e → x ≡ m → r ≡ bare_head (chars "UnFl") (e + 4) (e + 4 + 8 + 8 * x) → Sees (λ d. member_head d (columns m) s at) r
unfolding member_head
as-column s m at a e x r f xm y = subst (Sees (λ d. member_head d (columns m) s at)) (sym y) (record {
  sees = λ d o q g.
      let i = then-inv (id s at) _ g in
      let t = then-inv (judged 4 (λ t. unless (eqb t (chars "UnFl")) 4) s i.1) _ i.3 in
      let j = judged-inv 4 s i.1 (λ t. unless (eqb t (chars "UnFl")) 4) t.2 in
      let b = bare-inv (column m s t.1) t.0 at d t.1 o q t.3 in
      let n = column-ends s m t.1 q b.0 in
      let v = f.ends i.1 i.2 in
      (sym (tagged t.0 j.3) ∙ b.1, b.2, b.3, omega (arith, n, v, j.2, xm), omega (arith, v, j.2, b.4));
})
  where
    tagged : (n : ℕ) → unless (eqb n (chars "UnFl")) 4 ≡ fine → n ≡ chars "UnFl"
    tagged n e = go (eqb n (chars "UnFl")) refl e
      where
        go : (b : Bool) → eqb n (chars "UnFl") ≡ b → unless b 4 ≡ fine → n ≡ chars "UnFl"
        go true x y = eqb-true n (chars "UnFl") x
        go false x y = let z : ◌≡◌ {A = ℕ} 0 1 = cc in absurd (omega (arith, z))

-- ---- items and pairs

pub key-none : (s : List ℕ) (at : ℕ) (b : Bool) → b ≡ false → Ends (optional b id s at) (at + 8589934592) at
key-none s at true e = let z : ◌≡◌ {A = ℕ} 0 1 = cc in absurd (omega (arith, z))
key-none s at false e = record { ends = λ q h. ok-place h; near = omega arith }

pub key-some : (s : List ℕ) (at x : ℕ) (b : Bool) → b ≡ true → Ends (id s at) (at + 8589934592) x → Ends (optional b id s at) (at + 8589934592) x
key-some s at x true e f = f
key-some s at x false e f = let z : ◌≡◌ {A = ℕ} 0 1 = cc in absurd (omega (arith, z))

pub as-keyed : (s : List ℕ) (what m at a x : ℕ) (b : Bool) (r : RawHead) → what < 2 → eqb what 1 ≡ b → Ends (optional b id s at) a x → Items s x r → Sees (λ d. member_head d (due_of what m) s at) r
unfolding member_head
as-keyed s zero m at a x true r l e f g = absurd (omega (arith, eqb-true 0 1 e))
as-keyed s zero m at a x false r l e f g = record { sees = λ d o q h. (g.any at).sees d o q (ap (item_head d at s) (f.ends at refl) ∙ h) }
as-keyed s (suc zero) m at a x false r l e f g = absurd (eqb-false 1 1 e refl)
as-keyed s (suc zero) m at a x true r l e f g = record { sees = λ d o q h. let i = then-inv (id s at) _ h in (g.any at).sees d o q (ap (item_head d at s) (f.ends i.1 i.2) ∙ i.3) }
as-keyed s (suc (suc n)) m at a x b r l e f g = absurd (omega (arith, l))

pub due-forms : (what m : ℕ) → what ≡ 2 → forms ≡ due_of what m
due-forms what m e = ap (λ (w : ℕ). due_of w m) (sym e)

pub due-columns : (what m : ℕ) → 2 ≤ what → (what ≡ 2 → ⊥) → columns m ≡ due_of what m
due-columns zero m a b = absurd (omega (arith, a))
due-columns (suc zero) m a b = absurd (omega (arith, a))
due-columns (suc (suc zero)) m a b = absurd (b refl)
due-columns (suc (suc (suc n))) m a b = refl

pub sees-due : (s : List ℕ) (at : ℕ) (c k : Due) (r : RawHead) → c ≡ k → Sees (λ d. member_head d c s at) r → Sees (λ d. member_head d k s at) r
sees-due s at c k r e g = subst (λ (x : Due). Sees (λ d. member_head d x s at) r) e g

-- ---- the root

pub root-sees : (s : List ℕ) (a e : ℕ) (r : RawHead) → Ends (class s 4) a e → r ≡ record { kind = chars "Objc"; what = 1; objects = 0; count = or_zero (field 4 s e); value = 4; end = e + 4 } → Sees (λ d. root_head s 0) r
unfolding root_head
root-sees s a e r f y = subst (Sees (λ d. root_head s 0)) (sym y) (record {
  sees = λ d o q g.
      let i = then-inv (judged 4 (λ v. unless (eqb v 16) 3) s 0) _ g in
      let j = judged-inv 4 s 0 (λ v. unless (eqb v 16) 3) i.2 in
      let t = then-inv (class s i.1) _ i.3 in
      let u = then-inv (field 4 s t.1) _ t.3 in
      let k = field-ends 4 s t.1 u.0 u.1 u.2 in
      let p : 4 ≡ i.1 = omega (arith, j.2) in
      let v : e ≡ t.1 = f.ends t.1 (ap (class s) p ∙ t.2) in
      (ap (λ (x : Opened). x.head.kind) (ok-value u.3), ap (λ (x : Opened). x.below) (ok-value u.3), ap (λ (x : ℕ). or_zero (field 4 s x)) v ∙ k.0 ∙ ap (λ (x : Opened). x.count) (ok-value u.3), ap (λ (x : ℕ). x + 4) v ∙ k.1 ∙ ok-place u.3, p ∙ ap (λ (x : Opened). x.head.value) (ok-value u.3));
})

pub form-eq : (s : List ℕ) (at : ℕ) {m x : ℕ} {f g : Form} → f ≡ g → Ends (reader_of g s at) m x → Ends (reader_of f s at) m x
form-eq s at {m} {x} e h = subst (λ (w : Form). Ends (reader_of w s at) m x) (sym e) h
