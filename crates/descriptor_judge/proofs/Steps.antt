-- What the layout says at each step of the readers. Assumes nothing.
use Prim.Native.Nat.{ℕ, zero, suc, ◌+◌, ◌-◌, ◌≤◌}
use mathlib.Core.Path.{◌≡◌, refl, sym, ap, ◌∙◌, subst}
use mathlib.Core.List.{List}
use mathlib.Core.Bool.{Bool, true, false}
use Rattle.std.specs.Prelude.{Option, Some, None}
use lib.ListN.{length}
use borrow.Author.Tests.{eq-eqb, ne_eqb}
use native.Mathlib.Omega.{arith}
use Rattle.algebra.specs.Chars.{chars}
use Rattle.algebra.specs.Reader.{Res, ok, refuse, Reader, then, field, unless, judged}
use Rattle.algebra.proofs.Laws.{judged-short, judged-bad, judged-ok}
use Rattle.algebra.proofs.Inverse.{clash}
use Rattle.descriptor_fields.specs.declared.Value.{Value}
use Rattle.descriptor_fields.specs.declared.Value.TheVariants as vv
use Rattle.descriptor.specs.Reading.{Known, is, unknown, known, Sort, leaf, list, object, reference, array, sort_of, form_of, id, class, Row, headed, plain, siblings, children, ref_value, ref_item, column, column_type, array_pair, array_of, keyed, object_of, value_of, item, pair, version, root}
use Rattle.descriptor_fields.specs.scaffold.Answer.{end_of, begun}
use Rattle.descriptor.proofs.Fields.{then-no, then_to}
use Rattle.descriptor.proofs.Ends.{Accepts, yes, Past, lower, id-past, class-past}
use Rattle.descriptor.proofs.Tiling.{Rows, keyed-rows, item-rows}
use Rattle.descriptor_judge.specs.scaffold.Cycle.{optional, member_of, holder_of}

-- a place or a number that cannot be another
abbrev pub NonZero : ℕ → Type 0
NonZero n = n ≡ 0 → ⊥

-- ---- what stands after a type

ends_at : (m : Res Unit) (q : ℕ) → ok (Some (vv.Ends q)) 0 ≡ end_of m → m ≡ ok tt q
ends_at (ok u r) q e = let z : r ≡ q = cc in ap (λ (k : ℕ). ok tt k) z
ends_at (refuse x p r f) q e = let z : ◌≡◌ {A = ℕ} 0 1 = cc in absurd (omega arith)

ends-no : (m : Res Unit) (x p : ℕ) → refuse x p 0 0 ≡ end_of m → (r : ℕ) × (f : ℕ) × (m ≡ refuse x p r f)
ends-no (ok u q) x p e = let z : ◌≡◌ {A = ℕ} 0 1 = cc in absurd (omega arith)
ends-no (refuse y q r f) x p e = let a : y ≡ x = cc in let b : q ≡ p = cc in (r, f, cc)

-- the end of fields is no sort of members
abbrev Plain : Res (Option Value) → Type 0
Plain (ok (Some (vv.Ends q)) n) = Unit {0}
Plain (ok (Some vv.List) n) = ⊥
Plain (ok (Some vv.Object) n) = ⊥
Plain (ok (Some vv.Reference) n) = ⊥
Plain (ok (Some vv.Array) n) = ⊥
Plain (ok None n) = ⊥
Plain (refuse x p r f) = Unit {0}

end-plain : (m : Res Unit) → Plain (end_of m)
end-plain (ok u q) = tt
end-plain (refuse x p r f) = tt

not_plain : (m : Res Unit) (w : Res (Option Value)) → w ≡ end_of m → Plain w
not_plain m w e = subst Plain (sym e) (end-plain m)

module _ (s : List ℕ) (v : ℕ) where
  pub begun-ends : (k : Known Sort) (q : ℕ) → ok (Some (vv.Ends q)) 0 ≡ begun k s v → (p : Reader Unit) × (k ≡ is (leaf p)) × (p s v ≡ ok tt q)
  begun-ends (is (leaf p)) q e = (p, refl, ends_at (p s v) q e)
  begun-ends (is list) q e = let z : ◌≡◌ {A = ℕ} 0 1 = cc in absurd (omega arith)
  begun-ends (is object) q e = let z : ◌≡◌ {A = ℕ} 0 1 = cc in absurd (omega arith)
  begun-ends (is reference) q e = let z : ◌≡◌ {A = ℕ} 0 1 = cc in absurd (omega arith)
  begun-ends (is array) q e = let z : ◌≡◌ {A = ℕ} 0 1 = cc in absurd (omega arith)
  begun-ends unknown q e = let z : ◌≡◌ {A = ℕ} 0 1 = cc in absurd (omega arith)

  pub begun-no : (k : Known Sort) (x q : ℕ) → refuse x q 0 0 ≡ begun k s v → (p : Reader Unit) × (k ≡ is (leaf p)) × (r : ℕ) × (f : ℕ) × (p s v ≡ refuse x q r f)
  begun-no (is (leaf p)) x q e = let i = ends-no (p s v) x q e in (p, refl, i.0, i.1, i.2)
  begun-no (is list) x q e = let z : ◌≡◌ {A = ℕ} 0 1 = cc in absurd (omega arith)
  begun-no (is object) x q e = let z : ◌≡◌ {A = ℕ} 0 1 = cc in absurd (omega arith)
  begun-no (is reference) x q e = let z : ◌≡◌ {A = ℕ} 0 1 = cc in absurd (omega arith)
  begun-no (is array) x q e = let z : ◌≡◌ {A = ℕ} 0 1 = cc in absurd (omega arith)
  begun-no unknown x q e = let z : ◌≡◌ {A = ℕ} 0 1 = cc in absurd (omega arith)

  pub begun-list : (k : Known Sort) → ok (Some vv.List) 0 ≡ begun k s v → k ≡ is list
  begun-list (is (leaf p)) e = absurd (not_plain (p s v) (ok (Some vv.List) 0) e)
  begun-list (is list) e = refl
  begun-list (is object) e = let z : ◌≡◌ {A = ℕ} 0 1 = cc in absurd (omega arith)
  begun-list (is reference) e = let z : ◌≡◌ {A = ℕ} 0 1 = cc in absurd (omega arith)
  begun-list (is array) e = let z : ◌≡◌ {A = ℕ} 0 1 = cc in absurd (omega arith)
  begun-list unknown e = let z : ◌≡◌ {A = ℕ} 0 1 = cc in absurd (omega arith)

  pub begun-object : (k : Known Sort) → ok (Some vv.Object) 0 ≡ begun k s v → k ≡ is object
  begun-object (is (leaf p)) e = absurd (not_plain (p s v) (ok (Some vv.Object) 0) e)
  begun-object (is list) e = let z : ◌≡◌ {A = ℕ} 0 1 = cc in absurd (omega arith)
  begun-object (is object) e = refl
  begun-object (is reference) e = let z : ◌≡◌ {A = ℕ} 0 1 = cc in absurd (omega arith)
  begun-object (is array) e = let z : ◌≡◌ {A = ℕ} 0 1 = cc in absurd (omega arith)
  begun-object unknown e = let z : ◌≡◌ {A = ℕ} 0 1 = cc in absurd (omega arith)

  pub begun-reference : (k : Known Sort) → ok (Some vv.Reference) 0 ≡ begun k s v → k ≡ is reference
  begun-reference (is (leaf p)) e = absurd (not_plain (p s v) (ok (Some vv.Reference) 0) e)
  begun-reference (is list) e = let z : ◌≡◌ {A = ℕ} 0 1 = cc in absurd (omega arith)
  begun-reference (is object) e = let z : ◌≡◌ {A = ℕ} 0 1 = cc in absurd (omega arith)
  begun-reference (is reference) e = refl
  begun-reference (is array) e = let z : ◌≡◌ {A = ℕ} 0 1 = cc in absurd (omega arith)
  begun-reference unknown e = let z : ◌≡◌ {A = ℕ} 0 1 = cc in absurd (omega arith)

  pub begun-array : (k : Known Sort) → ok (Some vv.Array) 0 ≡ begun k s v → k ≡ is array
  begun-array (is (leaf p)) e = absurd (not_plain (p s v) (ok (Some vv.Array) 0) e)
  begun-array (is list) e = let z : ◌≡◌ {A = ℕ} 0 1 = cc in absurd (omega arith)
  begun-array (is object) e = let z : ◌≡◌ {A = ℕ} 0 1 = cc in absurd (omega arith)
  begun-array (is reference) e = let z : ◌≡◌ {A = ℕ} 0 1 = cc in absurd (omega arith)
  begun-array (is array) e = refl
  begun-array unknown e = let z : ◌≡◌ {A = ℕ} 0 1 = cc in absurd (omega arith)

  pub begun-unknown : (k : Known Sort) → ok None 0 ≡ begun k s v → k ≡ unknown
  begun-unknown (is (leaf p)) e = absurd (not_plain (p s v) (ok None 0) e)
  begun-unknown (is list) e = let z : ◌≡◌ {A = ℕ} 0 1 = cc in absurd (omega arith)
  begun-unknown (is object) e = let z : ◌≡◌ {A = ℕ} 0 1 = cc in absurd (omega arith)
  begun-unknown (is reference) e = let z : ◌≡◌ {A = ℕ} 0 1 = cc in absurd (omega arith)
  begun-unknown (is array) e = let z : ◌≡◌ {A = ℕ} 0 1 = cc in absurd (omega arith)
  begun-unknown unknown e = refl

-- ---- a count and the members

module _ (f : ℕ → Reader (List Row)) (k : ℕ) (s : List ℕ) (at : ℕ) where
  pub children-short : refuse 2 at 0 0 ≡ field 4 s at → children f k s at ≡ refuse 2 at 0 0
  unfolding children
  children-short e = then-no (field 4 s at) _ (sym e)

  pub children-is : (n q : ℕ) → ok n q ≡ field 4 s at → children f k s at ≡ siblings f n (k + 1) s q
  unfolding children
  children-is n q e = then_to (field 4 s at) _ (sym e)

-- ---- a member

module _ (p k : ℕ) (s : List ℕ) (at : ℕ) where
  pub ref-deep : (left : ℕ) → left ≡ 0 → ref_item left p k s at ≡ refuse 10 at 0 0
  unfolding ref_item
  ref-deep left z = rw z

  pub ref-short : (left : ℕ) → NonZero left → refuse 2 at 0 0 ≡ field 4 s at → ref_item left p k s at ≡ refuse 2 at 0 0
  unfolding ref_item
  ref-short zero z e = absurd (z refl)
  ref-short (suc d) z e = then-no (field 4 s at) _ (sym e)

  ref-form : (left t v : ℕ) → NonZero left → ok t v ≡ field 4 s at → (g : Known (Reader Unit)) → form_of t ≡ g
      → ref_item left p k s at ≡ known g at (λ r. headed t (left - 1) p at v (plain (ref_value r) s v))
  unfolding ref_item
  ref-form zero t v z e g h = absurd (z refl)
  ref-form (suc d) t v z e g h =
      let x : suc d - 1 ≡ d = omega arith in
      rw x (then_to (field 4 s at) _ (sym e) ∙ ap (λ w. known w at (λ r. headed t d p at v (plain (ref_value r) s v))) h)

  pub ref-unknown : (left t v : ℕ) → NonZero left → ok t v ≡ field 4 s at → form_of t ≡ unknown → ref_item left p k s at ≡ refuse 4 at 0 0
  ref-unknown left t v z e h = ref-form left t v z e unknown h

  pub ref-is : (left t v : ℕ) (r : Reader Unit) → NonZero left → ok t v ≡ field 4 s at → form_of t ≡ is r → ref_item left p k s at ≡ headed t (left - 1) p at v (plain (ref_value r) s v)
  ref-is left t v r z e h = ref-form left t v z e (is r) h

  module _ (m : ℕ) where
    pub array-deep : (left : ℕ) → left ≡ 0 → array_pair m left p k s at ≡ refuse 10 at 0 0
    unfolding array_pair
    array-deep left z = rw z

    pub array-id : (left : ℕ) → NonZero left → {x q r f : ℕ} → id s at ≡ refuse x q r f → array_pair m left p k s at ≡ refuse x q r f
    unfolding array_pair
    array-id zero z e = absurd (z refl)
    array-id (suc d) z e = then-no (id s at) _ e

    array_typed : (left e : ℕ) → NonZero left → id s at ≡ ok tt e
        → array_pair m left p k s at ≡ then (judged 4 column_type s e) (λ t v. headed t (left - 1) p at v (plain (column m) s v))
    unfolding array_pair
    array_typed zero e z h = absurd (z refl)
    array_typed (suc d) e z h = let x : suc d - 1 ≡ d = omega arith in rw x (then_to (id s at) _ h)

    pub array-short : (left e : ℕ) → NonZero left → id s at ≡ ok tt e → refuse 2 e 0 0 ≡ field 4 s e → array_pair m left p k s at ≡ refuse 2 e 0 0
    array-short left e z h x = array_typed left e z h ∙ then-no (judged 4 column_type s e) _ (judged-short 4 s e column_type x)

    pub array-other : (left e t v : ℕ) → NonZero left → id s at ≡ ok tt e → ok t v ≡ field 4 s e → (t ≡ chars "UnFl" → ⊥) → array_pair m left p k s at ≡ refuse 4 e 0 0
    array-other left e t v z h x y =
        array_typed left e z h
        ∙ then-no (judged 4 column_type s e) _ (judged-bad 4 s e column_type 4 0 0 x (ap (λ (b : Bool). unless b 4) (ne_eqb t (chars "UnFl") y)))

    pub array-is : (left e t v : ℕ) → NonZero left → id s at ≡ ok tt e → ok t v ≡ field 4 s e → t ≡ chars "UnFl" → array_pair m left p k s at ≡ headed t (left - 1) p at v (plain (column m) s v)
    array-is left e t v z h x y =
        array_typed left e z h
        ∙ then_to (judged 4 column_type s e) _ (judged-ok 4 s e column_type x (ap (λ (b : Bool). unless b 4) (eq-eqb t (chars "UnFl") y)))

  pub pair-deep : (left : ℕ) → left ≡ 0 → pair left p k s at ≡ refuse 10 at 0 0
  unfolding keyed
  pair-deep left z = rw z

  pub pair-id : (left : ℕ) → NonZero left → {x q r f : ℕ} → id s at ≡ refuse x q r f → pair left p k s at ≡ refuse x q r f
  unfolding keyed
  pair-id zero z e = absurd (z refl)
  pair-id (suc d) z e = then-no (id s at) _ e

  pub pair-item : (left e : ℕ) → NonZero left → id s at ≡ ok tt e → pair left p k s at ≡ item left p k at s e
  unfolding keyed
  pair-item zero e z h = absurd (z refl)
  pair-item (suc d) e z h = then_to (id s at) _ h

module _ (p k first : ℕ) (s : List ℕ) (at : ℕ) where
  pub item-deep : (left : ℕ) → left ≡ 0 → item left p k first s at ≡ refuse 10 first 0 0
  unfolding item
  item-deep left z = rw z

  pub item-short : (left : ℕ) → NonZero left → refuse 2 at 0 0 ≡ field 4 s at → item left p k first s at ≡ refuse 2 at 0 0
  unfolding item
  item-short zero z e = absurd (z refl)
  item-short (suc d) z e = then-no (field 4 s at) _ (sym e)

  pub item-sort : (left t v : ℕ) → NonZero left → ok t v ≡ field 4 s at → (g : Known Sort) → sort_of t ≡ g
      → item left p k first s at ≡ known g at (λ sort. headed t (left - 1) p first v (value_of (item (left - 1)) (left - 1) k sort s v))
  unfolding item
  item-sort zero t v z e g h = absurd (z refl)
  item-sort (suc d) t v z e g h =
      let x : suc d - 1 ≡ d = omega arith in
      rw x (then_to (field 4 s at) _ (sym e) ∙ ap (λ w. known w at (λ sort. headed t d p first v (value_of (item d) d k sort s v))) h)

-- ---- a class before the members

module _ (f : ℕ → ℕ → ℕ → Reader (List Row)) (d k : ℕ) (s : List ℕ) (at : ℕ) where
  pub object-no : {x q r g : ℕ} → class s at ≡ refuse x q r g → object_of f d k s at ≡ refuse x q r g
  unfolding object_of
  object-no e = then-no (class s at) _ e

  pub object-is : {q : ℕ} → class s at ≡ ok tt q → object_of f d k s at ≡ children (keyed f d k) k s q
  unfolding object_of
  object-is e = then_to (class s at) _ e

module _ (d k : ℕ) (s : List ℕ) (at : ℕ) where
  pub array-cut : refuse 2 at 0 0 ≡ field 4 s at → array_of d k s at ≡ refuse 2 at 0 0
  unfolding array_of
  array-cut e = then-no (field 4 s at) _ (sym e)

  pub array-no : {m q x p r g : ℕ} → ok m q ≡ field 4 s at → class s q ≡ refuse x p r g → array_of d k s at ≡ refuse x p r g
  unfolding array_of
  array-no {m} {q} e h = then_to (field 4 s at) _ (sym e) ∙ then-no (class s q) _ h

  pub array-in : {m q e : ℕ} → ok m q ≡ field 4 s at → class s q ≡ ok tt e → array_of d k s at ≡ children (array_pair m d k) k s e
  unfolding array_of
  array-in {m} {q} x h = then_to (field 4 s at) _ (sym x) ∙ then_to (class s q) _ h

-- ---- lists and objects by one reader

-- a field that is not there ends where it begins
none-ends : (at e : ℕ) → ◌≡◌ {A = Res Unit} (ok tt at) (ok tt e) → at ≡ e
none-ends at e h = cc

module _ (d p k : ℕ) (s : List ℕ) (at : ℕ) where
  pub member-deep : (b : Bool) → d ≡ 0 → member_of b d p k s at ≡ refuse 10 at 0 0
  member-deep true z = pair-deep p k s at d z
  member-deep false z = item-deep p k at s at d z

  pub member-no : (b : Bool) → NonZero d → {x q r f : ℕ} → optional b id s at ≡ refuse x q r f → member_of b d p k s at ≡ refuse x q r f
  member-no true z e = pair-id p k s at d z e
  member-no false z e = clash (sym e)

  pub member-item : (b : Bool) (e : ℕ) → NonZero d → optional b id s at ≡ ok tt e → member_of b d p k s at ≡ item d p k at s e
  member-item true e z h = pair-item p k s at d e z h
  member-item false e z h = ap (item d p k at s) (none-ends at e h)

module _ (d k : ℕ) (s : List ℕ) (at : ℕ) where
  pub holder-no : (b : Bool) {x q r g : ℕ} → optional b class s at ≡ refuse x q r g → holder_of b d k s at ≡ refuse x q r g
  holder-no true e = object-no (item d) d k s at e
  holder-no false e = clash (sym e)

  pub holder-is : (b : Bool) {q : ℕ} → optional b class s at ≡ ok tt q → holder_of b d k s at ≡ children (member_of b d k) k s q
  holder-is true e = object-is (item d) d k s at e
  holder-is false {q} e = ap (children (member_of false d k) k s) (none-ends at q e)

  -- a list's count stands where the list begins, an object's behind its class
  pub holder-past : (b : Bool) → at ≤ length s → Accepts (Past s at) (optional b class s at)
  holder-past true w = lower at (at + 9) (omega arith) (class-past s at w)
  holder-past false w = yes tt at (record { low = omega arith; high = w })

  pub member-rows : (b : Bool) → d ≤ 33 → (j q : ℕ) → q ≤ length s → Accepts (Rows s (33 - d) k j q) (member_of b d k j s q)
  member-rows true l j q w = keyed-rows s d (item d) (item-rows s d l) k j q w
  member-rows false l j q w = item-rows s d l k j q q (omega arith) w

-- a key, where there is one
pub key-past : (s : List ℕ) (at : ℕ) (b : Bool) → at ≤ length s → Accepts (Past s at) (optional b id s at)
key-past s at true w = lower at (at + 5) (omega arith) (id-past s at w)
key-past s at false w = yes tt at (record { low = omega arith; high = w })

-- ---- the root

module _ (s : List ℕ) (at : ℕ) where
  pub root-short : refuse 2 at 0 0 ≡ field 4 s at → root s at ≡ refuse 2 at 0 0
  unfolding root
  root-short e = then-no (judged 4 version s at) _ (judged-short 4 s at version e)

  pub root-other : {v q : ℕ} → ok v q ≡ field 4 s at → (v ≡ 16 → ⊥) → root s at ≡ refuse 3 at 0 0
  unfolding root
  root-other {v} e h = then-no (judged 4 version s at) _ (judged-bad 4 s at version 3 0 0 e (ap (λ (b : Bool). unless b 3) (ne_eqb v 16 h)))

  pub root_is : {v q : ℕ} → ok v q ≡ field 4 s at → v ≡ 16 → root s at ≡ headed (chars "Objc") 32 0 at q (object_of (item 32) 32 0 s q)
  unfolding root
  root_is {v} e h = then_to (judged 4 version s at) _ (judged-ok 4 s at version e (ap (λ (b : Bool). unless b 3) (eq-eqb v 16 h)))
