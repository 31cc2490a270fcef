-- A descriptor as a tree of members: its bytes, its rows, and which trees are allowed. Nothing here reads.
use Rattle.std.specs.Prelude.{ℕ, suc, ◌+◌, ◌^◌, ◌≤◌, ◌<◌, List, [], ◌∷◌, ◌++◌, length}
use Rattle.algebra.specs.Chars.{chars}
use Rattle.algebra.specs.Numbers.{be, Bytes}
use Rattle.descriptor.specs.Reading.{Row}
use Rattle.algebra.specs.Sets.{Seq}
use Rattle.descriptor_tree.specs.Grammar.{Id, Class, Leaf, Form, UnitDoubles}

-- ---- trees

-- members that stand one after the other. A member: its key (no byte, unless it is a pair), its type or form,
-- the fields behind that, and its children
pub data Members : Type 0 where
  none : Members
  one : (key : List ℕ) (kind : ℕ) (fields : List ℕ) (children rest : Members) → Members

-- the class of the root object, and its pairs
pub record Descriptor : Type 0 where
  pub class : List ℕ
  pub pairs : Members

abbrev pub count : Members → ℕ
count none = 0
count (one key kind fields children rest) = suc (count rest)

-- ---- bytes

-- a member's head: its fields besides its children, which stand before the first child
abbrev pub head : List ℕ → ℕ → List ℕ → List ℕ
head key kind fields = key ++ (be 4 kind ++ fields)

unfoldable pub bytes : Members → List ℕ
bytes none = []
bytes (one key kind fields children rest) = head key kind fields ++ (bytes children ++ bytes rest)

-- the root's head: version 16, class, pair count
unfoldable pub root_head : Descriptor → List ℕ
root_head t = be 4 16 ++ (t.class ++ be 4 (count t.pairs))

unfoldable pub file_bytes : Descriptor → List ℕ
file_bytes t = root_head t ++ bytes t.pairs

-- the lengths of the heads, in file order
unfoldable pub member_heads : Members → List ℕ
member_heads none = []
member_heads (one key kind fields children rest) = length (head key kind fields) ∷ (member_heads children ++ member_heads rest)

unfoldable pub file_heads : Descriptor → List ℕ
file_heads t = length (root_head t) ∷ member_heads t.pairs

-- ---- rows

-- the rows of members at a depth, under the row p, the first with number k and at the place lo: a member, then those below it.
-- A row's value begins behind its type or form
unfoldable pub rows : ℕ → ℕ → ℕ → ℕ → Members → List Row
rows d p k lo none = []
rows d p k lo (one key kind fields children rest) =
    let h = length (head key kind fields) in
    let n = h + length (bytes children) in
    let row : Row = record { kind = kind; parent = p; first = lo; size = n; depth = d; value = lo + length key + 4 } in
    let below = rows (d + 1) k (k + 1) (lo + h) children in
    row ∷ (below ++ rows d p (k + 1 + length below) (lo + n) rest)

-- the root is `Objc`, and its value is all after the version
unfoldable pub file_rows : Descriptor → List Row
file_rows t = record { kind = chars "Objc"; parent = 0; first = 0; size = length (file_bytes t); depth = 0; value = 4 } ∷ rows 1 0 1 (length (root_head t)) t.pairs

-- how many rows it has
abbrev pub row_count : Descriptor → ℕ
row_count t = length (file_rows t)

-- how many rows members have, with those below them
unfoldable pub rows_in : Members → ℕ
rows_in none = 0
rows_in (one key kind fields children rest) = 1 + rows_in children + rows_in rest

-- the first of some members, where it has the number k; n where there is none
abbrev pub first_of : (n k : ℕ) → Members → ℕ
first_of n k none = n
first_of n k (one key kind fields children rest) = k

-- the next siblings of members, the first with number k, and of those below them, in a file of n rows: the next member, and n for the last
unfoldable pub nexts : (n k : ℕ) → Members → List ℕ
nexts n k none = []
nexts n k (one key kind fields children rest) = first_of n (k + 1 + rows_in children) rest ∷ (nexts n (k + 1) children ++ nexts n (k + 1 + rows_in children) rest)

-- the root has none
unfoldable pub file_nexts : Descriptor → List ℕ
file_nexts t = row_count t ∷ nexts (row_count t) 1 t.pairs

-- the values of the rows, in file order: what stands behind a type or form, with the children; for the root all after the version
unfoldable pub member_values : Members → List (List ℕ)
member_values none = []
member_values (one key kind fields children rest) = (fields ++ bytes children) ∷ (member_values children ++ member_values rest)

unfoldable pub file_values : Descriptor → List (List ℕ)
file_values t = ((t.class ++ be 4 (count t.pairs)) ++ bytes t.pairs) ∷ member_values t.pairs

-- ---- which trees are allowed

-- where members stand: in a list, an object, a reference, an object array of m objects; or nowhere
pub data Place : Type 0 where
  items pairs forms nowhere : Place
  columns : ℕ → Place

-- an item's type, what its children are and how many, and its fields: a value without items; `VlLs`; `Objc`, `GlbO`; `obj `; `ObAr`
pub data Item : ℕ → Place → ℕ → List ℕ → Type 0 where
  leaf : {kind : ℕ} {b : List ℕ} → Leaf kind b → Item kind nowhere 0 b
  list : (n : ℕ) → n < 256 ^ 4 → Item (chars "VlLs") items n (be 4 n)
  object : (n : ℕ) {b : List ℕ} → n < 256 ^ 4 → Class b → Item (chars "Objc") pairs n (b ++ be 4 n)
  global : (n : ℕ) {b : List ℕ} → n < 256 ^ 4 → Class b → Item (chars "GlbO") pairs n (b ++ be 4 n)
  reference : (n : ℕ) → n < 256 ^ 4 → Item (chars "obj ") forms n (be 4 n)
  array : (m n : ℕ) {b : List ℕ} → m < 256 ^ 4 → n < 256 ^ 4 → Class b → Item (chars "ObAr") (columns m) n (be 4 m ++ (b ++ be 4 n))

-- what may stand where: key, type or form, what its children are and how many, fields; an object array's pair is `UnFl`
pub data Member : Place → List ℕ → ℕ → Place → ℕ → List ℕ → Type 0 where
  item : {kind n : ℕ} {c : Place} {b : List ℕ} → Item kind c n b → Member items [] kind c n b
  pair : {key : List ℕ} {kind n : ℕ} {c : Place} {b : List ℕ} → Id key → Item kind c n b → Member pairs key kind c n b
  form : {kind : ℕ} {b : List ℕ} → Seq Class (Form kind) b → Member forms [] kind nowhere 0 b
  column : {m : ℕ} {key b : List ℕ} → Id key → UnitDoubles m b → Member (columns m) key (chars "UnFl") nowhere 0 b

-- members at a depth: none is deeper than 32
abbrev pub Allowed : Place → ℕ → Members → Type 0
Allowed c d none = Unit
Allowed c d (one key kind fields children rest) =
    (below : Place) × (d ≤ 32) × Member c key kind below (count children) fields × Allowed below (d + 1) children × Allowed c d rest

-- ---- a file: at most 16,777,216 bytes

pub data File : Descriptor → List ℕ → Type 0 where
  file : {t : Descriptor} → Class t.class → count t.pairs < 256 ^ 4 → Allowed pairs 1 t.pairs
      → Bytes (file_bytes t) → length (file_bytes t) ≤ 16777216 → File t (file_bytes t)
