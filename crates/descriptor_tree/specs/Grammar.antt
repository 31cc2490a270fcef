-- The fields of descriptors as sets of byte strings: what may stand in a file. Nothing here reads.
-- Types, forms and units are written here by themselves, from docs/RULES.md, and not taken from the reader's.
use Rattle.std.specs.Prelude.{ℕ, suc, ◌*◌, ◌%◌, ◌≤◌, ◌<◌, ◌≡◌, List, [], ◌∷◌, ◌++◌, length}
use Rattle.algebra.specs.Chars.{chars}
use Rattle.algebra.specs.Refusal.{Of}
use Rattle.algebra.specs.Sets.{Field, Size, Number, Seq, Prefixed, When, Run}

-- ---- primitives

-- ID: a length, then that many bytes, or 4 where the length is 0
pub data IdBody : ℕ → List ℕ → Type 0 where
  char : {b : List ℕ} → length b ≡ 4 → IdBody 0 b
  string : {n : ℕ} {b : List ℕ} → 0 < n → length b ≡ n → IdBody n b

abbrev pub Id : Field
Id = Prefixed IdBody

-- Unicode string: a count, then the units of two bytes; none, or the last is zero
pub data Units : ℕ → List ℕ → Type 0 where
  none : Units 0 []
  closed : (n : ℕ) (b : List ℕ) → length b ≡ n * 2 → Units (suc n) (b ++ (0 ∷ 0 ∷ []))

abbrev pub Text : Field
Text = Prefixed Units

-- a name and an ID
abbrev pub Class : Field
Class = Seq Text Id

-- the type's ID and the value's
abbrev pub Enumerated : Field
Enumerated = Seq Id Id

-- a length, and that many bytes
abbrev pub Raw : Field
Raw = Prefixed Size

-- 0 or 1
abbrev pub Boolean : Field
Boolean = Number 1 (λ n. n ≤ 1)

-- the bits of a finite double: those of its exponent are not all ones
abbrev pub Double : Field
Double = Number 8 (λ n. n % 0x8000_0000_0000_0000 < 0x7FF0_0000_0000_0000)

-- `#Ang`, `#Rsl`, `#Rlt`, `#Nne`, `#Prc`, `#Pxl`, `#Mlm`, `#Pnt`
abbrev pub measures : List ℕ
measures = chars "#Ang" ∷ chars "#Rsl" ∷ chars "#Rlt" ∷ chars "#Nne" ∷ chars "#Prc" ∷ chars "#Pxl" ∷ chars "#Mlm" ∷ chars "#Pnt" ∷ []

abbrev pub Measure : ℕ → Type 0
Measure u = Of measures u

abbrev pub UnitDouble : Field
UnitDouble = Prefixed (λ u. When (Measure u) Double)

-- ---- values by type and form

-- an item's value, where it holds no items:
-- `bool`, `type`, `GlbC`, `doub`, `enum`, `alis`, `Pth `, `long`, `comp`, `tdta`, `TEXT`, `UntF`
pub data Leaf : ℕ → List ℕ → Type 0 where
  boolean : {b : List ℕ} → Boolean b → Leaf (chars "bool") b
  class : {b : List ℕ} → Class b → Leaf (chars "type") b
  global_class : {b : List ℕ} → Class b → Leaf (chars "GlbC") b
  double : {b : List ℕ} → Double b → Leaf (chars "doub") b
  enumerated : {b : List ℕ} → Enumerated b → Leaf (chars "enum") b
  alias : {b : List ℕ} → Raw b → Leaf (chars "alis") b
  path : {b : List ℕ} → Raw b → Leaf (chars "Pth ") b
  integer : {b : List ℕ} → Size 4 b → Leaf (chars "long") b
  large : {b : List ℕ} → Size 8 b → Leaf (chars "comp") b
  raw : {b : List ℕ} → Raw b → Leaf (chars "tdta") b
  text : {b : List ℕ} → Text b → Leaf (chars "TEXT") b
  unit_double : {b : List ℕ} → UnitDouble b → Leaf (chars "UntF") b

-- what stands behind the class of a reference item:
-- `Clss`, `Enmr`, `Idnt`, `indx`, `name`, `rele`, `prop`
pub data Form : ℕ → List ℕ → Type 0 where
  class : Form (chars "Clss") []
  enumerated : {b : List ℕ} → Enumerated b → Form (chars "Enmr") b
  identifier : {b : List ℕ} → Size 4 b → Form (chars "Idnt") b
  index : {b : List ℕ} → Size 4 b → Form (chars "indx") b
  name : {b : List ℕ} → Text b → Form (chars "name") b
  offset : {b : List ℕ} → Size 4 b → Form (chars "rele") b
  property : {b : List ℕ} → Id b → Form (chars "prop") b

-- ---- object arrays

-- `#Rlt`, `#Prc`, `#Pxl`
abbrev pub array_measures : List ℕ
array_measures = chars "#Rlt" ∷ chars "#Prc" ∷ chars "#Pxl" ∷ []

abbrev pub ArrayMeasure : ℕ → Type 0
ArrayMeasure u = Of array_measures u

-- the unit doubles of a pair: a unit, a count that is the number m of objects, and as many doubles
abbrev pub UnitDoubles : ℕ → Field
UnitDoubles m = Prefixed (λ u. When (ArrayMeasure u) (Prefixed (λ n. When (n ≡ m) (Run Double n))))
