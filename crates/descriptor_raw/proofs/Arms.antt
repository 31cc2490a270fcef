-- Items by their type: what the keys of each arm read, and their heads. One law for each arm serves the readers of all loops. Assumes nothing.
use Prim.Native.Nat.{ℕ, ◌+◌}
use mathlib.Core.Path.{◌≡◌, refl, ap}
use mathlib.Core.List.{List, [], ◌∷◌}
use package.types.Run.{OneOf}
use Rattle.algebra.specs.Chars.{chars}
use Rattle.algebra.specs.Reader.{field, or_zero}
use Rattle.descriptor.specs.Reading.{is, leaf, list, object, reference, array, skip, unicode, class, flag, double, enumerated, raw_bytes, unit_double, types, sort_of}
use Rattle.descriptor.proofs.Keys.{at-keys, past-keys, None}
use Rattle.descriptor_raw.specs.declared.RawHead.{RawHead}
use Rattle.descriptor_raw.specs.scaffold.Raw.{Values, Leaf, Object, Array}
use Rattle.descriptor_raw.proofs.Laws as L

-- ---- the tags of each arm, in ascending order

abbrev bools : List ℕ
bools = chars "bool" ∷ []

abbrev longs : List ℕ
longs = chars "long" ∷ []

abbrev comps : List ℕ
comps = chars "comp" ∷ []

abbrev doubles : List ℕ
doubles = chars "doub" ∷ []

abbrev unit_doubles : List ℕ
unit_doubles = chars "UntF" ∷ []

abbrev runs : List ℕ
runs = chars "Pth " ∷ chars "alis" ∷ chars "tdta" ∷ []

abbrev texts : List ℕ
texts = chars "TEXT" ∷ []

abbrev enums : List ℕ
enums = chars "enum" ∷ []

abbrev classes : List ℕ
classes = chars "GlbC" ∷ chars "type" ∷ []

abbrev lists : List ℕ
lists = chars "VlLs" ∷ []

abbrev references : List ℕ
references = chars "obj " ∷ []

abbrev objects : List ℕ
objects = chars "GlbO" ∷ chars "Objc" ∷ []

abbrev arrays : List ℕ
arrays = chars "ObAr" ∷ []

-- none of some lists, the last first, as a `match` tells it
abbrev Rest : List (List ℕ) → ℕ → Type 0
Rest [] x = Unit {0}
Rest (ks ∷ kss) x = Rest kss x × (OneOf ks x → ⊥)

rest-none : (kss : List (List ℕ)) (x : ℕ) → Rest kss x → None kss x
rest-none [] x r = tt
rest-none (ks ∷ kss) x r = (r.1, rest-none kss x r.0)

-- ---- heads

-- fields of a fixed size
abbrev Fixed : (size t v : ℕ) → RawHead → Type 0
Fixed n t v r = r ≡ record { kind = t; what = 0; objects = 0; count = 0; value = v; end = v + n }

module _ (s : List ℕ) (t v : ℕ) (r : RawHead) where
  pub bool-head : OneOf bools t → Fixed 1 t v r → Values s t v r
  unfolding sort_of
  bool-head k e = L.as-leaf s t v flag _ r e (at-keys sort_of (is (leaf flag)) bools t (refl, tt) k) (λ q h. L.flag-ends s v q h)

  pub long-head : OneOf longs t → Fixed 4 t v r → Values s t v r
  unfolding sort_of
  long-head k e = L.as-leaf s t v (skip 4) _ r e (at-keys sort_of (is (leaf (skip 4))) longs t (refl, tt) k) (λ q h. L.skip-ends 4 s v q h)

  pub comp-head : OneOf comps t → Fixed 8 t v r → Values s t v r
  unfolding sort_of
  comp-head k e = L.as-leaf s t v (skip 8) _ r e (at-keys sort_of (is (leaf (skip 8))) comps t (refl, tt) k) (λ q h. L.skip-ends 8 s v q h)

  pub double-head : OneOf doubles t → Fixed 8 t v r → Values s t v r
  unfolding sort_of
  double-head k e = L.as-leaf s t v double _ r e (at-keys sort_of (is (leaf double)) doubles t (refl, tt) k) (λ q h. L.double-ends s v q h)

  pub unit-head : OneOf unit_doubles t → Fixed 12 t v r → Values s t v r
  unfolding sort_of
  unit-head k e = L.as-leaf s t v unit_double _ r e (at-keys sort_of (is (leaf unit_double)) unit_doubles t (refl, tt) k) (λ q h. L.unit_ends s v q h)

  -- the others
  pub run-head : OneOf runs t → Leaf raw_bytes s t v r → Values s t v r
  unfolding sort_of
  run-head k e = e (at-keys sort_of (is (leaf raw_bytes)) runs t (refl, (refl, (refl, tt))) k)

  pub text_head : OneOf texts t → Leaf unicode s t v r → Values s t v r
  unfolding sort_of
  text_head k e = e (at-keys sort_of (is (leaf unicode)) texts t (refl, tt) k)

  pub enumerated-head : OneOf enums t → Leaf enumerated s t v r → Values s t v r
  unfolding sort_of
  enumerated-head k e = e (at-keys sort_of (is (leaf enumerated)) enums t (refl, tt) k)

  pub class-head : OneOf classes t → Leaf class s t v r → Values s t v r
  unfolding sort_of
  class-head k e = e (at-keys sort_of (is (leaf class)) classes t (refl, (refl, tt)) k)

  pub list-head : OneOf lists t → r ≡ record { kind = t; what = 0; objects = 0; count = or_zero (field 4 s v); value = v; end = v + 4 } → Values s t v r
  unfolding sort_of
  list-head k e = L.as-list s t v r e (at-keys sort_of (is list) lists t (refl, tt) k)

  pub reference-head : OneOf references t → r ≡ record { kind = t; what = 2; objects = 0; count = or_zero (field 4 s v); value = v; end = v + 4 } → Values s t v r
  unfolding sort_of
  reference-head k e = L.as-reference s t v r e (at-keys sort_of (is reference) references t (refl, tt) k)

  pub object-head : OneOf objects t → Object s t v r → Values s t v r
  unfolding sort_of
  object-head k e = e (at-keys sort_of (is object) objects t (refl, (refl, tt)) k)

  pub array_head : (m : ℕ) → OneOf arrays t → m ≡ or_zero (field 4 s v) → Array m s t v r → Values s t v r
  unfolding sort_of
  array_head m k n e = e n (at-keys sort_of (is array) arrays t (refl, tt) k)

  pub unknown-head : Rest (arrays ∷ objects ∷ references ∷ lists ∷ classes ∷ enums ∷ texts ∷ runs ∷ unit_doubles ∷ doubles ∷ comps ∷ longs ∷ bools ∷ []) t → Fixed 0 t v r → Values s t v r
  unfolding sort_of
  unknown-head k e =
      let kss : List (List ℕ) = arrays ∷ objects ∷ references ∷ lists ∷ classes ∷ enums ∷ texts ∷ runs ∷ unit_doubles ∷ doubles ∷ comps ∷ longs ∷ bools ∷ [] in
      L.as-unknown s t v r (ap (λ h. h.kind) e) (ap (λ h. h.value) e) (past-keys kss types t tt (rest-none kss t k))
