-- The entries of an accepted file: of each head the numbers of which it is to be built again, the file's own bytes being the text.
use Rattle.std.specs.Prelude.{ℕ, ◌+◌, ◌*◌, List, [], ◌∷◌, set}
use Rattle.algebra.specs.Numbers.{num}
use Rattle.algebra.specs.Reader.{Res, ok, refuse}
use Rattle.descriptor_heads.specs.Heads.{Due, items, pairs, forms, columns, Head, Opened, Stack, settled, after, file_heads}
use Rattle.descriptor_entry.specs.Shapes.{Entry, id_length, shape_of, fields_of}
use Rattle.descriptor_entry.specs.declared.Field.{Field}
use Rattle.descriptor_entry.specs.declared.Field.TheVariants as f

-- ---- one field, at a place of the file

-- its numbers in an entry: a word, the high and the low 32 bits, or a length or count field and the place behind it, where its bytes begin
abbrev pub put : (s : List ℕ) (at : ℕ) → Field → Entry → Entry
put s at f.Nothing e = e
put s at (f.Word i) e = set e i (num 4 s at)
put s at f.Measure e = set e 11 (num 4 s at)
put s at f.ArrayMeasure e = set e 11 (num 4 s at)
put s at f.Flag e = set e 13 (num 1 s at)
put s at f.Wide e = set (set e 12 (num 4 s at)) 13 (num 4 s (at + 4))
put s at f.Double e = set (set e 12 (num 4 s at)) 13 (num 4 s (at + 4))
put s at (f.Id i) e = set (set e i (num 4 s at)) (i + 1) (at + 4)
put s at (f.Text i) e = set (set e i (num 4 s at)) (i + 1) (at + 4)
put s at (f.Run i) e = set (set e i (num 4 s at)) (i + 1) (at + 4)
put s at (f.Doubles i) e = set (set e i (num 4 s at)) (i + 1) (at + 4)

-- how many bytes it takes
abbrev pub span : (s : List ℕ) (at : ℕ) → Field → ℕ
span s at f.Nothing = 0
span s at (f.Word i) = 4
span s at f.Measure = 4
span s at f.ArrayMeasure = 4
span s at f.Flag = 1
span s at f.Wide = 8
span s at f.Double = 8
span s at (f.Id i) = 4 + id_length (num 4 s at)
span s at (f.Text i) = 4 + 2 * num 4 s at
span s at (f.Run i) = 4 + num 4 s at
span s at (f.Doubles i) = 4 + 8 * num 4 s at

-- fields one after the other
unfoldable pub put_all : (s : List ℕ) (at : ℕ) → List Field → Entry → Entry
put_all s at [] e = e
put_all s at (x ∷ xs) e = put_all s (at + span s at x) xs (put s at x e)

-- ---- one head

-- places that a kind does not use are 0
abbrev pub blank : (kind : ℕ) → Entry
blank kind = kind ∷ 0 ∷ 0 ∷ 0 ∷ 0 ∷ 0 ∷ 0 ∷ 0 ∷ 0 ∷ 0 ∷ 0 ∷ 0 ∷ 0 ∷ 0 ∷ 0 ∷ 0 ∷ []

-- the key, where a pair is due
abbrev pub put_key : (s : List ℕ) (at : ℕ) → Due → Entry → Entry
put_key s at items e = e
put_key s at pairs e = put s at (f.Id 1) e
put_key s at forms e = e
put_key s at (columns m) e = put s at (f.Id 1) e

-- the kind, the key, and the fields of the kind from the place of the value on
unfoldable pub entry_of : (s : List ℕ) → Due → Head → Entry
entry_of s c h = put_all s h.value (fields_of (shape_of c h.kind)) (put_key s h.first c (blank h.kind))

-- ---- the file

-- of the heads of members that are due
unfoldable pub members_of : (s : List ℕ) → Stack → List Opened → List Entry
members_of s st [] = []
members_of s [] (o ∷ os) = []
members_of s (x ∷ st) (o ∷ os) = entry_of s x.0 o.head ∷ members_of s (after (x ∷ st) o) os

-- of a file's heads; the root has no key
unfoldable pub entries_of : (s : List ℕ) → List Opened → List Entry
entries_of s [] = []
entries_of s (o ∷ os) = entry_of s items o.head ∷ members_of s (settled ((o.below, o.count) ∷ [])) os

abbrev pub entries_in : (s : List ℕ) → Res (List Opened) → List Entry
entries_in s (ok os q) = entries_of s os
entries_in s (refuse x p r f) = []

-- of a file that is accepted; else none
abbrev pub entries : List ℕ → List Entry
entries s = entries_in s (file_heads s)
