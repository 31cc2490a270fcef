-- An item by what stands behind its type, and a list or an object by its class and count. Assumes nothing.
use Prim.Native.Nat.{ℕ, ◌-◌}
use mathlib.Core.Path.{◌≡◌, sym, ap, ◌∙◌}
use mathlib.Core.List.{List}
use mathlib.Core.Bool.{Bool}
use Rattle.std.specs.Prelude.{Option, Some, None}
use Rattle.algebra.specs.Reader.{Res, ok, refuse, field}
use native.Mathlib.Omega.{arith}
use Rattle.algebra.proofs.Laws.{field_next}
use Rattle.descriptor_fields.specs.declared.Value.{Value}
use Rattle.descriptor_fields.specs.declared.Value.TheVariants as vv
use Rattle.descriptor.specs.Reading.{is, unknown, class, Sort, leaf, sort_of, siblings, value_of, item}
use Rattle.descriptor_fields.specs.scaffold.Answer.{begun}
use Rattle.descriptor.proofs.Fields.{then-no, then_to}
use Rattle.descriptor_judge.specs.scaffold.Cycle.{optional, member_of, holder_of}
use Rattle.descriptor_judge.specs.scaffold.Counting.{walked, own_too, Within}
use Rattle.descriptor_judge.proofs.Steps.{NonZero, begun-ends, begun-no, begun-unknown, item-sort, children-short, children-is, holder-is}
use Rattle.descriptor_judge.proofs.Counting.{walked-no, walked-headed}

module _ (first : ℕ) (s : List ℕ) (at left : ℕ) {t v : ℕ} (z : NonZero left) (e : ok t v ≡ field 4 s at) where
  -- members below the item, counted by w
  pub item-holds : (sort : Sort) → sort_of t ≡ is sort → {w : Res ℕ} → w ≡ walked (value_of (item (left - 1)) (left - 1) 0 sort s v) → own_too w ≡ walked (item left 0 0 first s at)
  item-holds sort h x =
      ap own_too x ∙ walked-headed t (left - 1) 0 first v (value_of (item (left - 1)) (left - 1) 0 sort s v) ∙ sym (ap walked (item-sort 0 0 first s at left t v z e (is sort) h))

  pub item-ends : {q : ℕ} → ok (Some (vv.Ends q)) 0 ≡ begun (sort_of t) s v → ok 1 q ≡ walked (item left 0 0 first s at)
  item-ends {q} b = let k = begun-ends s v (sort_of t) q b in item-holds (leaf k.0) k.1 {w = ok 0 q} (sym (ap walked (then_to (k.0 s v) _ k.2)))

  pub item-stops : {x p : ℕ} → refuse x p 0 0 ≡ begun (sort_of t) s v → refuse x p 0 0 ≡ walked (item left 0 0 first s at)
  item-stops {x} {p} b = let k = begun-no s v (sort_of t) x p b in item-holds (leaf k.0) k.1 {w = refuse x p 0 0} (walked-no (then-no (k.0 s v) _ k.4))

  pub item-unknown : ok None 0 ≡ begun (sort_of t) s v → refuse 4 at 0 0 ≡ walked (item left 0 0 first s at)
  item-unknown b = walked-no (item-sort 0 0 first s at left t v z e unknown (begun-unknown s v (sort_of t) b))

module _ (b : Bool) (d : ℕ) (s : List ℕ) (at : ℕ) {q : ℕ} (e : optional b class s at ≡ ok tt q) where
  pub holder-short : refuse 2 q 0 0 ≡ field 4 s q → refuse 2 q 0 0 ≡ walked (holder_of b d 0 s at)
  holder-short x = walked-no (holder-is d 0 s at b e ∙ children-short (member_of b d 0) 0 s q x)

  pub holder-counts : {n r : ℕ} → ok n r ≡ field 4 s q → {w : Res ℕ} → w ≡ walked (siblings (member_of b d 0) n 1 s r) → w ≡ walked (holder_of b d 0 s at)
  holder-counts x h = h ∙ sym (ap walked (holder-is d 0 s at b e ∙ children-is (member_of b d 0) 0 s q _ _ x))

-- what the code says of an item's value, by its case
pub begun-some : {m : Res (Option Value)} {o : Option Value} {w v : Value} → ok o 0 ≡ m → o ≡ Some w → w ≡ v → ok (Some v) 0 ≡ m
begun-some e f g = ap (λ (x : Value). ok (Some x) 0) (sym g) ∙ ap (λ (x : Option Value). ok x 0) (sym f) ∙ e

pub begun-none : {m : Res (Option Value)} {o : Option Value} → ok o 0 ≡ m → o ≡ None → ok None 0 ≡ m
begun-none e f = ap (λ (x : Option Value). ok x 0) (sym f) ∙ e

-- behind the type, with a level less
pub under : {s : List ℕ} {left first at : ℕ} → Within s left first at → NonZero left → {t v : ℕ} → ok t v ≡ field 4 s at → Within s (left - 1) v v
under {s} {left} {first} {at} p z {t} {v} e = let h = field_next 4 s at t v e in record { size = p.size; levels = omega (arith, p.levels); order = omega arith; inside = omega arith }
