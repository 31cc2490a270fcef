-- Each kind: where its fields end, as it is read, and that an entry made of them holds them. Assumes nothing.
use Prim.Native.Nat.{ℕ, zero, suc, ◌+◌, ◌*◌}
use mathlib.Core.Path.{◌≡◌, refl, ap, ◌∙◌}
use mathlib.Core.List.{List, [], ◌∷◌}
use native.Mathlib.Omega.{arith}
use Rattle.algebra.specs.Numbers.{num}
use Rattle.algebra.specs.Reader.{ok, Reader, then, field, body, judged, each}
use Rattle.algebra.proofs.Inverse.{ok-place, then-inv, rule-inv, done-inv, field-inv, body-inv, judged-inv, each_none, each-inv}
use Rattle.descriptor.specs.Reading as r
use Rattle.descriptor.specs.Reading.{Known, skip, id, shut, closing, unicode, class, flag, double, enumerated, raw_bytes, array_unit, unit_double, Sort, leaf, list, object, reference, array, types, forms, ref_value, column}
use Rattle.descriptor_heads.specs.Heads as h
use Rattle.descriptor_heads.specs.Heads.{Due, items, pairs, columns, opens}
use Rattle.descriptor_raw.proofs.Laws.{skip-ends, flag-ends, double-ends, unit_ends}
use Rattle.descriptor_entry.specs.Shapes as sh
use Rattle.descriptor_entry.specs.Shapes.{Entry, number_in, id_length, only, both, classed, holding, item_shapes, form_shapes, fields_of}
use Rattle.descriptor_entry.specs.declared.Field.{Field}
use Rattle.descriptor_entry.specs.declared.Field.TheVariants as f
use Rattle.descriptor_entry.specs.declared.Shape.{Shape}
use Rattle.descriptor_entry.proofs.Suited.{Paired, none, row}
use Rattle.descriptor_entries.specs.Taken.{put_all}
use Rattle.descriptor_entries.specs.scaffold.Spans.{end_of}
use Rattle.descriptor_entries.proofs.Held.{HoldsAll}

-- ---- what an entry of a kind holds

-- a kind and a key
abbrev pub keyed : (kind n place : ℕ) → Entry
keyed kind n place = kind ∷ n ∷ place ∷ 0 ∷ 0 ∷ 0 ∷ 0 ∷ 0 ∷ 0 ∷ 0 ∷ 0 ∷ 0 ∷ 0 ∷ 0 ∷ 0 ∷ 0 ∷ []

-- fields put into such an entry are held by it, and the kind and the key stay
pub record Made (xs : List Field) : Type 0 where
  pub holds : (s : List ℕ) (v k n p : ℕ) → HoldsAll s v (put_all s v xs (keyed k n p)) xs
  pub kind : (s : List ℕ) (v k n p : ℕ) → number_in (put_all s v xs (keyed k n p)) 0 ≡ k
  pub key : (s : List ℕ) (v k n p : ℕ) → number_in (put_all s v xs (keyed k n p)) 1 ≡ n
  pub place : (s : List ℕ) (v k n p : ℕ) → number_in (put_all s v xs (keyed k n p)) 2 ≡ p

none_made : Made (fields_of sh.no_shape)
unfolding put_all
none_made = record { holds = λ s v k n p. (tt, (tt, (tt, (tt, tt)))); kind = λ s v k n p. refl; key = λ s v k n p. refl; place = λ s v k n p. refl }

flag-made : Made (fields_of (only f.Flag))
unfolding put_all
flag-made = record { holds = λ s v k n p. (refl, (tt, (tt, (tt, tt)))); kind = λ s v k n p. refl; key = λ s v k n p. refl; place = λ s v k n p. refl }

double-made : Made (fields_of (only f.Double))
unfolding put_all
double-made = record { holds = λ s v k n p. ((refl, refl), (tt, (tt, (tt, tt)))); kind = λ s v k n p. refl; key = λ s v k n p. refl; place = λ s v k n p. refl }

wide-made : Made (fields_of (only f.Wide))
unfolding put_all
wide-made = record { holds = λ s v k n p. ((refl, refl), (tt, (tt, (tt, tt)))); kind = λ s v k n p. refl; key = λ s v k n p. refl; place = λ s v k n p. refl }

long-made : Made (fields_of (only (f.Word 13)))
unfolding put_all
long-made = record { holds = λ s v k n p. (refl, (tt, (tt, (tt, tt)))); kind = λ s v k n p. refl; key = λ s v k n p. refl; place = λ s v k n p. refl }

run-made : Made (fields_of (only (f.Run 7)))
unfolding put_all
run-made = record { holds = λ s v k n p. ((refl, refl), (tt, (tt, (tt, tt)))); kind = λ s v k n p. refl; key = λ s v k n p. refl; place = λ s v k n p. refl }

text-made : Made (fields_of (only (f.Text 7)))
unfolding put_all
text-made = record { holds = λ s v k n p. ((refl, refl), (tt, (tt, (tt, tt)))); kind = λ s v k n p. refl; key = λ s v k n p. refl; place = λ s v k n p. refl }

enumerated-made : Made (fields_of (both (f.Id 7) (f.Id 9)))
unfolding put_all
enumerated-made = record { holds = λ s v k n p. ((refl, refl), ((refl, refl), (tt, (tt, tt)))); kind = λ s v k n p. refl; key = λ s v k n p. refl; place = λ s v k n p. refl }

measure-made : Made (fields_of (both f.Measure f.Double))
unfolding put_all
measure-made = record { holds = λ s v k n p. (refl, ((refl, refl), (tt, (tt, tt)))); kind = λ s v k n p. refl; key = λ s v k n p. refl; place = λ s v k n p. refl }

pub column-made : Made (fields_of (both f.ArrayMeasure (f.Doubles 7)))
unfolding put_all
column-made = record { holds = λ s v k n p. (refl, ((refl, refl), (tt, (tt, tt)))); kind = λ s v k n p. refl; key = λ s v k n p. refl; place = λ s v k n p. refl }

class-made : Made (fields_of (classed f.Nothing f.Nothing))
unfolding put_all
class-made = record { holds = λ s v k n p. ((refl, refl), ((refl, refl), (tt, (tt, tt)))); kind = λ s v k n p. refl; key = λ s v k n p. refl; place = λ s v k n p. refl }

class-ids-made : Made (fields_of (classed (f.Id 7) (f.Id 9)))
unfolding put_all
class-ids-made = record { holds = λ s v k n p. ((refl, refl), ((refl, refl), ((refl, refl), ((refl, refl), tt)))); kind = λ s v k n p. refl; key = λ s v k n p. refl; place = λ s v k n p. refl }

class-id-made : Made (fields_of (classed (f.Id 7) f.Nothing))
unfolding put_all
class-id-made = record { holds = λ s v k n p. ((refl, refl), ((refl, refl), ((refl, refl), (tt, tt)))); kind = λ s v k n p. refl; key = λ s v k n p. refl; place = λ s v k n p. refl }

class-text-made : Made (fields_of (classed (f.Text 7) f.Nothing))
unfolding put_all
class-text-made = record { holds = λ s v k n p. ((refl, refl), ((refl, refl), ((refl, refl), (tt, tt)))); kind = λ s v k n p. refl; key = λ s v k n p. refl; place = λ s v k n p. refl }

class-long-made : Made (fields_of (classed (f.Word 13) f.Nothing))
unfolding put_all
class-long-made = record { holds = λ s v k n p. ((refl, refl), ((refl, refl), (refl, (tt, tt)))); kind = λ s v k n p. refl; key = λ s v k n p. refl; place = λ s v k n p. refl }

count-made : (what : ℕ) → Made (fields_of (holding what (f.Word 14) f.Nothing f.Nothing f.Nothing))
unfolding put_all
count-made what = record { holds = λ s v k n p. (refl, (tt, (tt, (tt, tt)))); kind = λ s v k n p. refl; key = λ s v k n p. refl; place = λ s v k n p. refl }

pub object-made : Made (fields_of sh.object)
unfolding put_all
object-made = record { holds = λ s v k n p. ((refl, refl), ((refl, refl), (refl, (tt, tt)))); kind = λ s v k n p. refl; key = λ s v k n p. refl; place = λ s v k n p. refl }

array_made : Made (fields_of (holding 3 (f.Word 15) (f.Text 3) (f.Id 5) (f.Word 14)))
unfolding put_all
array_made = record { holds = λ s v k n p. (refl, ((refl, refl), ((refl, refl), (refl, tt)))); kind = λ s v k n p. refl; key = λ s v k n p. refl; place = λ s v k n p. refl }

-- ---- where fields end, as they are read

module _ (s : List ℕ) where
  pub id-end : (at q : ℕ) → id s at ≡ ok tt q → at + (4 + id_length (num 4 s at)) ≡ q
  unfolding id
  id-end at q e =
      let t = then-inv (field 4 s at) _ e in
      let i = field-inv 4 s at t.2 in
      let k = skip-ends (id_length t.0) s t.1 q t.3 in
      let z : id_length (num 4 s at) ≡ id_length t.0 = ap id_length i.1 in
      omega (arith, i.2, k, z)

  text-end : (at q : ℕ) → unicode s at ≡ ok tt q → at + (4 + 2 * num 4 s at) ≡ q
  unfolding unicode
  text-end at q e =
      let t = then-inv (field 4 s at) _ e in
      let i = field-inv 4 s at t.2 in
      let u = then-inv (body 2 t.0 s t.1) _ t.3 in
      let b = body-inv 2 s t.1 t.0 u.2 in
      let x = ok-place (rule-inv (closing (shut u.0)) at (ok tt u.1) u.3).1 in
      omega (arith, i.1, i.2, b.2, x)

  run_end : (at q : ℕ) → raw_bytes s at ≡ ok tt q → at + (4 + num 4 s at) ≡ q
  unfolding raw_bytes
  run_end at q e =
      let t = then-inv (field 4 s at) _ e in
      let i = field-inv 4 s at t.2 in
      let k = skip-ends t.0 s t.1 q t.3 in
      omega (arith, i.1, i.2, k)

  pub class-end : (at q : ℕ) → class s at ≡ ok tt q → end_of s at (f.Text 3 ∷ f.Id 5 ∷ []) ≡ q
  unfolding class
  class-end at q e =
      let t = then-inv (unicode s at) _ e in
      let x = text-end at t.1 t.2 in
      id-end (at + (4 + 2 * num 4 s at)) q (ap (id s) x ∙ t.3)

  enumerated-end : (at q : ℕ) → enumerated s at ≡ ok tt q → end_of s at (f.Id 7 ∷ f.Id 9 ∷ []) ≡ q
  unfolding enumerated
  enumerated-end at q e =
      let t = then-inv (id s at) _ e in
      let x = id-end at t.1 t.2 in
      id-end (at + (4 + id_length (num 4 s at))) q (ap (id s) x ∙ t.3)

  each-end : (n i at : ℕ) (us : List Unit) (q : ℕ) → each n i (λ j. double) s at ≡ ok us q → at + 8 * n ≡ q
  each-end zero i at us q e = let z = each_none (λ j. double) s i at e in omega (arith, z.1)
  each-end (suc n) i at us q e =
      let t = each-inv (λ j. double) s n i at e in
      omega (arith, double-ends s at t.1 t.3, each-end n (i + 1) t.1 t.2 q t.4)

  pub column-end : (m v q : ℕ) → column m s v ≡ ok tt q → end_of s v (fields_of (both f.ArrayMeasure (f.Doubles 7))) ≡ q
  unfolding column
  column-end m v q e =
      let t = then-inv (judged 4 array_unit s v) _ e in
      let j = judged-inv 4 s v array_unit t.2 in
      let u = then-inv (judged 4 (r.doubles m) s t.1) _ t.3 in
      let k = judged-inv 4 s t.1 (r.doubles m) u.2 in
      let i = done-inv (each u.0 0 (λ i. double) s u.1) u.3 in
      let x = each-end u.0 0 u.1 i.0 q i.1 in
      let y : num 4 s (v + 4) ≡ u.0 = ap (num 4 s) j.2 ∙ k.1 in
      omega (arith, j.2, k.2, x, y)

-- ---- each kind, by the two tables

-- after an item's type
pub record Kind (sort : Sort) (sh : Shape) : Type 0 where
  pub made : Made (fields_of sh)
  pub ends : (s : List ℕ) (v : ℕ) (x : Due × ℕ) (q : ℕ) → opens sort s v ≡ ok x q → end_of s v (fields_of sh) ≡ q

-- after a reference item's form
pub record Form (r : Reader Unit) (sh : Shape) : Type 0 where
  pub made : Made (fields_of sh)
  pub ends : (s : List ℕ) (v q : ℕ) → ref_value r s v ≡ ok tt q → end_of s v (fields_of sh) ≡ q

leaf-kind : (p : Reader Unit) (sh : Shape) → Made (fields_of sh) → ((s : List ℕ) (v q : ℕ) → p s v ≡ ok tt q → end_of s v (fields_of sh) ≡ q) → Kind (leaf p) sh
leaf-kind p sh m g = record {
  made = m;
  ends = λ s v x q e. let t = then-inv {B = Due × ℕ} (p s v) _ e in g s v q (t.2 ∙ ap (λ (n : ℕ). ok tt n) (ok-place t.3));
}

-- a count behind what was read
counted : (s : List ℕ) (c : Due) (at : ℕ) (x : Due × ℕ) (q : ℕ) → then {B = Due × ℕ} (field 4 s at) (λ n e. ok (c, n) e) ≡ ok x q → at + 4 ≡ q
counted s c at x q e = let t = then-inv {B = Due × ℕ} (field 4 s at) _ e in (field-inv 4 s at t.2).2 ∙ ok-place t.3

list-kind : Kind list (holding 0 (f.Word 14) f.Nothing f.Nothing f.Nothing)
list-kind = record { made = count-made 0; ends = λ s v x q e. omega (arith, counted s items v x q e) }

reference-kind : Kind reference (holding 2 (f.Word 14) f.Nothing f.Nothing f.Nothing)
reference-kind = record { made = count-made 2; ends = λ s v x q e. omega (arith, counted s h.forms v x q e) }

-- a class and a count
class-counted : (s : List ℕ) (c : Due) (at : ℕ) (x : Due × ℕ) (q : ℕ) → then {B = Due × ℕ} (class s at) (λ u r. then {B = Due × ℕ} (field 4 s r) (λ n e. ok (c, n) e)) ≡ ok x q → end_of s at (f.Text 3 ∷ f.Id 5 ∷ []) + 4 ≡ q
class-counted s c at x q e =
    let t = then-inv {B = Due × ℕ} (class s at) _ e in
    omega (arith, class-end s at t.1 t.2, counted s c t.1 x q t.3)

object-kind : Kind object sh.object
object-kind = record { made = object-made; ends = λ s v x q e. omega (arith, class-counted s pairs v x q e) }

array_kind : Kind array (holding 3 (f.Word 15) (f.Text 3) (f.Id 5) (f.Word 14))
array_kind = record {
  made = array_made;
  ends = λ s v x q e.
      let t = then-inv {B = Due × ℕ} (field 4 s v) _ e in
      let i = field-inv 4 s v t.2 in
      class-counted s (columns t.0) (v + 4) x q (ap (λ (y : ℕ). then {B = Due × ℕ} (class s y) (λ w r. then {B = Due × ℕ} (field 4 s r) (λ n e. ok (columns t.0, n) e))) i.2 ∙ t.3);
}

pub item-kinds : Paired Kind types item_shapes
item-kinds =
    row (leaf-kind flag (only f.Flag) flag-made (λ s v q e. omega (arith, flag-ends s v q e)))
    (row class-leaf
    (row class-leaf
    (row (leaf-kind double (only f.Double) double-made (λ s v q e. omega (arith, double-ends s v q e)))
    (row (leaf-kind enumerated (both (f.Id 7) (f.Id 9)) enumerated-made (λ s v q e. omega (arith, enumerated-end s v q e)))
    (row run-leaf
    (row run-leaf
    (row run-leaf
    (row (leaf-kind (skip 4) (only (f.Word 13)) long-made (λ s v q e. omega (arith, skip-ends 4 s v q e)))
    (row (leaf-kind (skip 8) (only f.Wide) wide-made (λ s v q e. omega (arith, skip-ends 8 s v q e)))
    (row (leaf-kind unicode (only (f.Text 7)) text-made (λ s v q e. omega (arith, text-end s v q e)))
    (row (leaf-kind unit_double (both f.Measure f.Double) measure-made (λ s v q e. omega (arith, unit_ends s v q e)))
    (row list-kind
    (row object-kind
    (row object-kind
    (row reference-kind
    (row array_kind none))))))))))))))))
  where
    class-leaf : Kind (leaf class) (classed f.Nothing f.Nothing)
    class-leaf = leaf-kind class (classed f.Nothing f.Nothing) class-made (λ s v q e. omega (arith, class-end s v q e))

    run-leaf : Kind (leaf raw_bytes) (only (f.Run 7))
    run-leaf = leaf-kind raw_bytes (only (f.Run 7)) run-made (λ s v q e. omega (arith, run_end s v q e))

-- a class, and two fields behind it
form-kind : (p : Reader Unit) (c d : Field) → Made (fields_of (classed c d)) → ((s : List ℕ) (v q : ℕ) → p s v ≡ ok tt q → end_of s v (c ∷ d ∷ []) ≡ q) → Form p (classed c d)
unfolding ref_value
form-kind p c d m g = record {
  made = m;
  ends = λ s v q e.
      let t = then-inv (class s v) _ e in
      g s (end_of s v (f.Text 3 ∷ f.Id 5 ∷ [])) q (ap (p s) (class-end s v t.1 t.2) ∙ t.3);
}

pub form-kinds : Paired Form forms form_shapes
form-kinds =
    row (form-kind (skip 0) f.Nothing f.Nothing class-made (λ s v q e. omega (arith, skip-ends 0 s v q e)))
    (row (form-kind enumerated (f.Id 7) (f.Id 9) class-ids-made (λ s v q e. enumerated-end s v q e))
    (row (form-kind id (f.Id 7) f.Nothing class-id-made (λ s v q e. omega (arith, id-end s v q e)))
    (row (form-kind unicode (f.Text 7) f.Nothing class-text-made (λ s v q e. omega (arith, text-end s v q e)))
    (row word
    (row word
    (row word none))))))
  where
    word : Form (skip 4) (classed (f.Word 13) f.Nothing)
    word = form-kind (skip 4) (f.Word 13) f.Nothing class-long-made (λ s v q e. omega (arith, skip-ends 4 s v q e))
