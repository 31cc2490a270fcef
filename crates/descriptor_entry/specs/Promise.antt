-- What is promised of a descriptor that was built, in the words of the layout's reading: every head of the file carries its entry. Its key and the fields of its
-- kind are read one behind the other, and each holds what the entry asks for: the number, the length or count field as it was given, 0 too, and the same bytes.
use Rattle.std.specs.Prelude.{ℕ, ◌+◌, ◌*◌, ◌≡◌, List, [], ◌∷◌, length}
use Rattle.algebra.specs.Numbers.{num}
use Rattle.algebra.specs.Reader.{ok, Reader, field, judged, give, ◌>>=◌, each}
use Rattle.algebra.specs.Store.{part}
use Rattle.descriptor.specs.Reading as count
use Rattle.descriptor.specs.Reading.{passing, skip, id, unicode, flag, double, raw_bytes, unit, array_unit}
use Rattle.descriptor_heads.specs.Heads.{Due, items, pairs, forms, columns, Opened, Stack, settled, after}
use Rattle.descriptor_entry.specs.Shapes.{Entry, number_in, kind_of, wide_of, id_length, object, shape_of, fields_of}
use Rattle.descriptor_entry.specs.declared.Field.{Field}
use Rattle.descriptor_entry.specs.declared.Field.TheVariants as f

-- ---- one field

-- how the layout reads a field, in an object array of m objects
abbrev pub reader_of : (m : ℕ) → Field → Reader Unit
reader_of m f.Nothing = give tt
reader_of m (f.Word i) = skip 4
reader_of m f.Measure = passing (judged 4 unit)
reader_of m f.ArrayMeasure = passing (judged 4 array_unit)
reader_of m f.Flag = flag
reader_of m f.Wide = skip 8
reader_of m f.Double = double
reader_of m (f.Id i) = id
reader_of m (f.Text i) = unicode
reader_of m (f.Run i) = raw_bytes
reader_of m (f.Doubles i) = do
  n ← judged 4 (count.doubles m)
  passing (each n 0 (λ i. double))

-- a part by the numbers i and i + 1 of an entry: its length or count field, and behind it the same k bytes as in the text
abbrev pub SamePart : (text file : List ℕ) → Entry → (i k at : ℕ) → Type 0
SamePart text file e i k at = (num 4 file at ≡ number_in e i) × (part file (at + 4) k ≡ part text (number_in e (i + 1)) k)

-- what a field at a place is to hold
abbrev pub Holds : (text file : List ℕ) → Entry → Field → (at : ℕ) → Type 0
Holds text file e f.Nothing at = Unit {0}
Holds text file e (f.Word i) at = num 4 file at ≡ number_in e i
Holds text file e f.Measure at = num 4 file at ≡ number_in e 11
Holds text file e f.ArrayMeasure at = num 4 file at ≡ number_in e 11
Holds text file e f.Flag at = num 1 file at ≡ number_in e 13
Holds text file e f.Wide at = num 8 file at ≡ wide_of e
Holds text file e f.Double at = num 8 file at ≡ wide_of e
Holds text file e (f.Id i) at = SamePart text file e i (id_length (number_in e i)) at
Holds text file e (f.Text i) at = SamePart text file e i (2 * number_in e i) at
Holds text file e (f.Run i) at = SamePart text file e i (number_in e i) at
Holds text file e (f.Doubles i) at = SamePart text file e i (8 * number_in e i) at

-- it is read from `at` to q, and holds it
pub record Held (text file : List ℕ) (m : ℕ) (e : Entry) (x : Field) (at q : ℕ) : Type 0 where
  pub reads : reader_of m x file at ≡ ok tt q
  pub holds : Holds text file e x at

-- fields one behind the other
pub data AllHeld (text file : List ℕ) (m : ℕ) (e : Entry) : List Field → (at end : ℕ) → Type 0 where
  none : {at : ℕ} → AllHeld text file m e [] at at
  more : {x : Field} {xs : List Field} {at q end : ℕ} → Held text file m e x at q → AllHeld text file m e xs q end → AllHeld text file m e (x ∷ xs) at end

-- ---- heads

-- a pair has a key, number 1 and 2 of its entry
abbrev pub key_field : Due → Field
key_field items = f.Nothing
key_field pairs = f.Id 1
key_field forms = f.Nothing
key_field (columns m) = f.Id 1

-- how many objects the array has whose pair it is
abbrev pub objects_in : Due → ℕ
objects_in items = 0
objects_in pairs = 0
objects_in forms = 0
objects_in (columns m) = m

-- a head that ends at `end` carries an entry: its key from its first byte on, then its kind, and from its value on the fields of the kind
pub record Carries (text file : List ℕ) (c : Due) (e : Entry) (o : Opened) (end : ℕ) : Type 0 where
  pub key_end : ℕ
  pub key : Held text file 0 e (key_field c) o.head.first key_end
  pub kind : field 4 file key_end ≡ ok (kind_of e) o.head.value
  pub fields : AllHeld text file (objects_in c) e (fields_of (shape_of c (kind_of e))) o.head.value end

-- heads that tile the file from a place to its end, nested as they are read, carry entries in their order
pub data Carried (text file : List ℕ) : List Entry → Stack → List Opened → (at : ℕ) → Type 0 where
  over : {at : ℕ} → at ≡ length file → Carried text file [] [] [] at
  member : {e : Entry} {es : List Entry} {x : Due × ℕ} {st : Stack} {o : Opened} {os : List Opened} {at q : ℕ}
      → o.head.first ≡ at → Carries text file x.0 e o q → Carried text file es (after (x ∷ st) o) os q → Carried text file (e ∷ es) (x ∷ st) (o ∷ os) at

-- the root's head carries the first entry, behind the version, and the others the rest
pub record RootCarried (text file : List ℕ) (e : Entry) (es : List Entry) (o : Opened) (os : List Opened) : Type 0 where
  pub end : ℕ
  pub fields : AllHeld text file 0 e (fields_of object) 4 end
  pub members : Carried text file es (settled ((o.below, o.count) ∷ [])) os end

abbrev pub FileCarried : (text file : List ℕ) → List Entry → List Opened → Type 0
FileCarried text file [] os = ⊥
FileCarried text file (e ∷ es) [] = ⊥
FileCarried text file (e ∷ es) (o ∷ os) = RootCarried text file e es o os
