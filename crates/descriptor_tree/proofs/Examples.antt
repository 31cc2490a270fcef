-- P11 and P12 as trees: their bytes, rows and heads by computation, and that they are allowed. Assumes nothing.
use Prim.Native.Nat.{ℕ, zero, suc, ◌<◌}
use mathlib.Core.Path.{◌≡◌, refl}
use mathlib.Core.List.{List, [], ◌∷◌, ◌++◌}
use native.Mathlib.Omega.{arith}
use Rattle.algebra.specs.Chars.{chars}
use Rattle.algebra.specs.Numbers.{be, Bytes}
use Rattle.algebra.specs.Refusal.{among}
use Rattle.algebra.specs.Sets.{Number, Seq, Prefixed}
use Rattle.algebra.proofs.Places.{length-be, bytes-append}
use Rattle.descriptor.specs.Reading.{Row}
use Rattle.descriptor_tree.specs.Grammar.{IdBody, Id, Units, Class, Leaf, Form, UnitDoubles}
use Rattle.descriptor_tree.specs.Tree.{Members, none, one, Descriptor, bytes, root_head, file_bytes, member_heads, file_heads, rows, file_rows, Place, Item, Member, Allowed, File, file}

-- the ID `a`, and a class without a name that has it
abbrev key : List ℕ
key = 0 ∷ 0 ∷ 0 ∷ 1 ∷ 0x61 ∷ []

abbrev class : List ℕ
class = 0 ∷ 0 ∷ 0 ∷ 0 ∷ key

abbrev row : ℕ → ℕ → ℕ → ℕ → ℕ → ℕ → Row
row k p f n d v = record { kind = k; parent = p; first = f; size = n; depth = d; value = v }

abbrev pub p11 : Descriptor
p11 = record { class = class; pairs = none }

pub p11-bytes : file_bytes p11 ≡ 0 ∷ 0 ∷ 0 ∷ 16 ∷ 0 ∷ 0 ∷ 0 ∷ 0 ∷ 0 ∷ 0 ∷ 0 ∷ 1 ∷ 0x61 ∷ 0 ∷ 0 ∷ 0 ∷ 0 ∷ []
unfolding file_bytes root_head bytes be
p11-bytes = refl

pub p11-rows : file_rows p11 ≡ row (chars "Objc") 0 0 17 0 4 ∷ []
unfolding file_rows rows file_bytes root_head bytes be
p11-rows = refl

-- `VlLs` of two `bool`
abbrev pub p12 : Descriptor
p12 = record { class = class; pairs = one key (chars "VlLs") (be 4 2) (one [] (chars "bool") (1 ∷ []) none (one [] (chars "bool") (1 ∷ []) none none)) none }

pub p12-bytes : file_bytes p12
    ≡ 0 ∷ 0 ∷ 0 ∷ 16 ∷ 0 ∷ 0 ∷ 0 ∷ 0 ∷ 0 ∷ 0 ∷ 0 ∷ 1 ∷ 0x61 ∷ 0 ∷ 0 ∷ 0 ∷ 1 ∷ 0 ∷ 0 ∷ 0 ∷ 1 ∷ 0x61 ∷ 0x56 ∷ 0x6C ∷ 0x4C ∷ 0x73
    ∷ 0 ∷ 0 ∷ 0 ∷ 2 ∷ 0x62 ∷ 0x6F ∷ 0x6F ∷ 0x6C ∷ 1 ∷ 0x62 ∷ 0x6F ∷ 0x6F ∷ 0x6C ∷ 1 ∷ []
unfolding file_bytes root_head bytes be
p12-bytes = refl

pub p12-rows : file_rows p12 ≡ row (chars "Objc") 0 0 40 0 4 ∷ row (chars "VlLs") 0 17 23 1 26 ∷ row (chars "bool") 1 30 5 2 34 ∷ row (chars "bool") 1 35 5 2 39 ∷ []
unfolding file_rows rows file_bytes root_head bytes be
p12-rows = refl

pub p12-heads : file_heads p12 ≡ 17 ∷ 13 ∷ 5 ∷ 5 ∷ []
unfolding file_heads member_heads root_head be
p12-heads = refl

-- ---- all that may nest: `Objc` of `VlLs` (of `obj ` of `Enmr`, and `bool`) and `long`; `ObAr` of `UnFl`; `UntF`

-- the ID of one character, and of four
abbrev letter : ℕ → List ℕ
letter x = 0 ∷ 0 ∷ 0 ∷ 1 ∷ x ∷ []

abbrev four : ℕ → List ℕ
four t = be 4 0 ++ be 4 t

abbrev column : List ℕ
column = be 4 (chars "#Pxl") ++ (be 4 2 ++ (be 8 0x3FF0_0000_0000_0000 ++ (be 8 0xC000_0000_0000_0000 ++ [])))

abbrev percents : List ℕ
percents = be 4 (chars "#Prc") ++ be 8 0x4059_0000_0000_0000

abbrev references : Members
references = one [] (chars "Enmr") (class ++ (letter 0x74 ++ four (chars "valu"))) none none

abbrev inner : Members
inner = one (four (chars "list")) (chars "VlLs") (be 4 2) (one [] (chars "obj ") (be 4 1) references (one [] (chars "bool") (1 ∷ []) none none)) (one (letter 0x6E) (chars "long") (be 4 7) none none)

abbrev nested : Descriptor
nested = record {
  class = class;
  pairs = one (letter 0x6F) (chars "Objc") (class ++ be 4 2) inner
      (one (letter 0x70) (chars "ObAr") (be 4 2 ++ (class ++ be 4 1)) (one (letter 0x78) (chars "UnFl") column none none)
      (one (letter 0x75) (chars "UntF") percents none none));
}

pub nested-rows : file_rows nested
    ≡ row (chars "Objc") 0 0 187 0 4 ∷ row (chars "Objc") 0 17 90 1 26 ∷ row (chars "VlLs") 1 39 55 2 51 ∷ row (chars "obj ") 2 55 34 3 59 ∷ row (chars "Enmr") 3 63 26 4 67
    ∷ row (chars "bool") 2 89 5 3 93 ∷ row (chars "long") 1 94 13 2 103 ∷ row (chars "ObAr") 0 107 59 1 116 ∷ row (chars "UnFl") 7 133 33 2 142 ∷ row (chars "UntF") 0 166 21 1 175 ∷ []
unfolding file_rows rows file_bytes root_head bytes be
nested-rows = refl

pub nested-heads : file_heads nested ≡ 17 ∷ 22 ∷ 16 ∷ 8 ∷ 26 ∷ 5 ∷ 13 ∷ 26 ∷ 33 ∷ 21 ∷ []
unfolding file_heads member_heads root_head be
nested-heads = refl

-- ---- they are allowed

key-id : Id key
unfolding be
key-id = Prefixed.prefixed 1 {y = 0x61 ∷ []} (omega arith) (IdBody.string {n = 1} (omega arith) refl)

class-class : Class class
unfolding be
class-class = Seq.seq {x = 0 ∷ 0 ∷ 0 ∷ 0 ∷ []} (Prefixed.prefixed 0 {y = []} (omega arith) Units.none) key-id

-- every number of a list is a byte
abbrev Each : List ℕ → Type 0
Each [] = Unit
Each (x ∷ l) = (x < 256) × Each l

each-bytes : (l : List ℕ) → Each l → Bytes l
each-bytes [] h k = omega arith
each-bytes (x ∷ l) h zero = h.0
each-bytes (x ∷ l) h (suc k) = each-bytes l h.1 k

pub p11-file : File p11 (file_bytes p11)
unfolding file_bytes root_head bytes be
p11-file = file {t = p11} class-class (omega arith) tt (each-bytes (file_bytes p11) (omega arith)) (omega arith)

one-flag : Leaf (chars "bool") (1 ∷ [])
unfolding be
one-flag = Leaf.boolean (Number.number 1 (omega arith) (omega arith))

pub p12-file : File p12 (file_bytes p12)
unfolding file_bytes root_head bytes be
p12-file =
    file {t = p12} class-class (omega arith) (
      Place.items,
      omega arith,
      Member.pair key-id (Item.list 2 (omega arith)),
      (Place.nowhere, omega arith, Member.item (Item.leaf one-flag), tt, (Place.nowhere, omega arith, Member.item (Item.leaf one-flag), tt, tt)),
      tt,
    ) (bytes-append (root_head p12) (bytes p12.pairs) (each-bytes (root_head p12) (omega arith)) (each-bytes (bytes p12.pairs) (omega arith))) (omega arith)

-- ---- and so is the nested one

letter-id : (x : ℕ) → Id (letter x)
unfolding be
letter-id x = Prefixed.prefixed 1 {y = x ∷ []} (omega arith) (IdBody.string {n = 1} (omega arith) refl)

four-id : (t : ℕ) → Id (four t)
four-id t = Prefixed.prefixed 0 {y = be 4 t} (omega arith) (IdBody.char (length-be 4 t))

column-is : UnitDoubles 2 column
column-is =
    Prefixed.prefixed (chars "#Pxl") (omega arith) (
      among refl,
      Prefixed.prefixed 2 (omega arith) (
        omega arith,
        Seq.seq {x = be 8 0x3FF0_0000_0000_0000} (Number.number 0x3FF0_0000_0000_0000 (omega arith) (omega arith)) (Seq.seq {x = be 8 0xC000_0000_0000_0000} {y = []} (Number.number 0xC000_0000_0000_0000 (omega arith) (omega arith)) refl),
      ),
    )

percents-is : Leaf (chars "UntF") percents
percents-is = Leaf.unit_double (Prefixed.prefixed (chars "#Prc") (omega arith) (among refl, Number.number 0x4059_0000_0000_0000 (omega arith) (omega arith)))

references-allowed : Allowed Place.forms 4 references
references-allowed = (Place.nowhere, omega arith, Member.form (Seq.seq class-class (Form.enumerated (Seq.seq (letter-id 0x74) (four-id (chars "valu"))))), tt, tt)

inner-allowed : Allowed Place.pairs 2 inner
inner-allowed = (
  Place.items,
  omega arith,
  Member.pair (four-id (chars "list")) (Item.list 2 (omega arith)),
  (Place.forms, omega arith, Member.item (Item.reference 1 (omega arith)), references-allowed, (Place.nowhere, omega arith, Member.item (Item.leaf one-flag), tt, tt)),
  (Place.nowhere, omega arith, Member.pair (letter-id 0x6E) (Item.leaf (Leaf.integer (length-be 4 7))), tt, tt),
)

pub nested-allowed : Allowed Place.pairs 1 nested.pairs
nested-allowed = (
  Place.pairs,
  omega arith,
  Member.pair (letter-id 0x6F) (Item.object 2 (omega arith) class-class),
  inner-allowed,
  (
    Place.columns 2,
    omega arith,
    Member.pair (letter-id 0x70) (Item.array 2 1 (omega arith) (omega arith) class-class),
    (Place.nowhere, omega arith, Member.column (letter-id 0x78) column-is, tt, tt),
    (Place.nowhere, omega arith, Member.pair (letter-id 0x75) (Item.leaf percents-is), tt, tt),
  ),
)
