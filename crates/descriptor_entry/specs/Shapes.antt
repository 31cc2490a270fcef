-- An entry of a descriptor to be built: 16 numbers, and which of them the head of each kind has, in the order of the file.
-- 0 the kind; 1, 2 the key's ID; 3, 4 the class's Unicode string; 5, 6 the class's ID; 7, 8 the first part; 9, 10 the second; of each two the length or count
-- field, and the place of its bytes in the text; 11 the unit; 12, 13 a number's high and low 32 bits; 14 the count of members; 15 the number of objects.
use Rattle.std.specs.Prelude.{ℕ, ◌+◌, ◌*◌, List, [], ◌∷◌, true, false, Option, Some, None, leb, eqb, get_or}
use Rattle.std.specs.Float.{binary64}
use Rattle.std.specs.Float.Ieee.{of_bits}
use Rattle.std.specs.Float.Ieee.Scale.{finite}
use Rattle.algebra.specs.Chars.{chars}
use Rattle.algebra.specs.Reader.{pick}
use Rattle.descriptor.specs.Reading.{Known, is, unknown, beside, is_unit, is_array_unit}
use Rattle.descriptor_heads.specs.Heads.{Due, items, pairs, forms, columns}
use Rattle.descriptor_entry.specs.Pieces.{Piece, number, run, units, doubles}
use Rattle.descriptor_entry.specs.declared.Field.{Field}
use Rattle.descriptor_entry.specs.declared.Field.TheVariants as f
use Rattle.descriptor_entry.specs.declared.Shape.{Shape}

abbrev pub width : ℕ
width = 16

abbrev pub Entry : Type 0
Entry = List ℕ

-- number i of an entry
abbrev pub number_in : Entry → ℕ → ℕ
number_in e i = get_or e i 0

abbrev pub kind_of : Entry → ℕ
kind_of e = number_in e 0

-- the high and the low 32 bits of a number
abbrev pub wide_of : Entry → ℕ
wide_of e = number_in e 12 * 4294967296 + number_in e 13

abbrev pub count_of : Entry → ℕ
count_of e = number_in e 14

abbrev pub objects_of : Entry → ℕ
objects_of e = number_in e 15

-- ---- fields

-- how many bytes stand behind an ID's length: four where it is 0
abbrev pub id_length : ℕ → ℕ
id_length n = pick (eqb n 0) 4 n

-- the pieces of a field, in an object array of m objects: a unit that is none is 4, a `bool` above 1 is 5, a double that is not finite 5, a count of doubles
-- that is not the objects' 5
abbrev pub pieces_of : (m : ℕ) → Entry → Field → List Piece
pieces_of m e f.Nothing = []
pieces_of m e (f.Word i) = number 4 (number_in e i) 0 ∷ []
pieces_of m e f.Measure = number 4 (number_in e 11) (pick (is_unit (number_in e 11)) 0 4) ∷ []
pieces_of m e f.ArrayMeasure = number 4 (number_in e 11) (pick (is_array_unit (number_in e 11)) 0 4) ∷ []
pieces_of m e f.Flag = number 1 (number_in e 13) (pick (leb (number_in e 13) 1) 0 5) ∷ []
pieces_of m e f.Wide = number 8 (wide_of e) 0 ∷ []
pieces_of m e f.Double = number 8 (wide_of e) (pick (finite (of_bits binary64 (wide_of e))) 0 5) ∷ []
pieces_of m e (f.Id i) = number 4 (number_in e i) 0 ∷ run (number_in e (i + 1)) (id_length (number_in e i)) ∷ []
pieces_of m e (f.Text i) = number 4 (number_in e i) 0 ∷ units (number_in e (i + 1)) (number_in e i) ∷ []
pieces_of m e (f.Run i) = number 4 (number_in e i) 0 ∷ run (number_in e (i + 1)) (number_in e i) ∷ []
pieces_of m e (f.Doubles i) = number 4 (number_in e i) (pick (eqb (number_in e i) m) 0 5) ∷ doubles (number_in e (i + 1)) (number_in e i) ∷ []

-- ---- the fields of each kind

-- no member below
abbrev pub bare : (a b c d : Field) → Shape
bare a b c d = record { known = true; first = a; second = b; third = c; fourth = d; below = None }

-- members below: 0 items, 1 pairs, 2 reference items, 3 the pairs of an object array
abbrev pub holding : (what : ℕ) (a b c d : Field) → Shape
holding what a b c d = record { known = true; first = a; second = b; third = c; fourth = d; below = Some what }

abbrev pub only : Field → Shape
only a = bare a f.Nothing f.Nothing f.Nothing

abbrev pub both : Field → Field → Shape
both a b = bare a b f.Nothing f.Nothing

-- a class, and two fields behind it
abbrev pub classed : Field → Field → Shape
classed c d = bare (f.Text 3) (f.Id 5) c d

abbrev pub object : Shape
object = holding 1 (f.Text 3) (f.Id 5) (f.Word 14) f.Nothing

-- an item's, by its type
abbrev pub item_shapes : List (ℕ × Shape)
item_shapes =
    (chars "bool", only f.Flag) ∷ (chars "type", classed f.Nothing f.Nothing) ∷ (chars "GlbC", classed f.Nothing f.Nothing) ∷ (chars "doub", only f.Double)
    ∷ (chars "enum", both (f.Id 7) (f.Id 9)) ∷ (chars "alis", only (f.Run 7)) ∷ (chars "Pth ", only (f.Run 7)) ∷ (chars "tdta", only (f.Run 7))
    ∷ (chars "long", only (f.Word 13)) ∷ (chars "comp", only f.Wide) ∷ (chars "TEXT", only (f.Text 7)) ∷ (chars "UntF", both f.Measure f.Double)
    ∷ (chars "VlLs", holding 0 (f.Word 14) f.Nothing f.Nothing f.Nothing) ∷ (chars "Objc", object) ∷ (chars "GlbO", object)
    ∷ (chars "obj ", holding 2 (f.Word 14) f.Nothing f.Nothing f.Nothing) ∷ (chars "ObAr", holding 3 (f.Word 15) (f.Text 3) (f.Id 5) (f.Word 14)) ∷ []

-- a reference item's, by its form
abbrev pub form_shapes : List (ℕ × Shape)
form_shapes =
    (chars "Clss", classed f.Nothing f.Nothing) ∷ (chars "Enmr", classed (f.Id 7) (f.Id 9)) ∷ (chars "prop", classed (f.Id 7) f.Nothing)
    ∷ (chars "name", classed (f.Text 7) f.Nothing) ∷ (chars "Idnt", classed (f.Word 13) f.Nothing) ∷ (chars "indx", classed (f.Word 13) f.Nothing)
    ∷ (chars "rele", classed (f.Word 13) f.Nothing) ∷ []

-- that of an object array's pair
abbrev pub column_shapes : List (ℕ × Shape)
column_shapes = (chars "UnFl", both f.ArrayMeasure (f.Doubles 7)) ∷ []

-- a kind that may not stand there has no field and wants no members
abbrev pub no_shape : Shape
no_shape = record { known = false; first = f.Nothing; second = f.Nothing; third = f.Nothing; fourth = f.Nothing; below = None }

abbrev pub shape_in : Known Shape → Shape
shape_in (is sh) = sh
shape_in unknown = no_shape

unfoldable pub item_shape : ℕ → Shape
item_shape t = shape_in (beside item_shapes t)

unfoldable pub form_shape : ℕ → Shape
form_shape t = shape_in (beside form_shapes t)

unfoldable pub column_shape : ℕ → Shape
column_shape t = shape_in (beside column_shapes t)

-- where such members are due
abbrev pub shape_of : Due → ℕ → Shape
shape_of items t = item_shape t
shape_of pairs t = item_shape t
shape_of forms t = form_shape t
shape_of (columns m) t = column_shape t

-- so many members, where there are any
abbrev pub wanted : Option ℕ → ℕ → ℕ
wanted None n = 0
wanted (Some what) n = n

-- its fields in their order
abbrev pub fields_of : Shape → List Field
fields_of sh = sh.first ∷ sh.second ∷ sh.third ∷ sh.fourth ∷ []
