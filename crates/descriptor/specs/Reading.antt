-- Descriptors as they are read, by recursion: what each field must be, which fault is found first, and the rows. The readable account of a file is its tree
-- (descriptor_tree/Tree); descriptor_heads/Heads reads it as heads one after the other. Theorems tie the three.
use Rattle.std.specs.Prelude.{ℕ, zero, suc, ◌+◌, ◌-◌, List, [], ◌∷◌, ◌++◌, Bool, true, leb, eqb, length}
use Rattle.std.specs.Float.{binary64}
use Rattle.std.specs.Float.Ieee.{of_bits}
use Rattle.std.specs.Float.Ieee.Scale.{finite}
use Rattle.algebra.specs.Chars.{chars}
use Rattle.algebra.specs.Reader.{Res, ok, refuse, Reader, then, pick, field, body, rule, Judged, unless, judged, give, ◌>>=◌, each, ended, done, limit}
use Rattle.algebra.specs.Refusal.{one_of}

-- ---- tables by a tag

pub data Known (A : Type 0) : Type 0 where
  is : A → Known A
  unknown : Known A

-- what stands beside a tag
abbrev pub beside : {A : Type 0} → List (ℕ × A) → ℕ → Known A
beside [] t = unknown
beside (c ∷ cs) t = pick (eqb t c.0) (is c.1) (beside cs t)

-- what follows a tag at the place p that is known; one that is not is 4
abbrev pub known : {A B : Type 0} → Known A → ℕ → (A → Res B) → Res B
known (is a) p k = k a
known unknown p k = refuse 4 p 0 0

-- ---- fields

-- only where a field ends
abbrev pub passing : {A : Type 0} → Reader A → Reader Unit
passing p s at = done (p s at)

-- n bytes
abbrev pub skip : ℕ → Reader Unit
skip n = passing (body 1 n)

-- an ID: a length, and that many bytes, or 4 where it is 0
unfoldable pub id : Reader Unit
id = do
  n ← field 4
  skip (pick (eqb n 0) 4 n)

-- the last unit is zero, or there is none
unfoldable pub shut : List ℕ → Bool
shut [] = true
shut (u ∷ []) = eqb u 0
shut (u ∷ v ∷ us) = shut (v ∷ us)

-- one that is not is 8
abbrev pub closing : Bool → Judged
closing b = unless b 8

-- a Unicode string: a count and the units, 2 where they pass the end; a last unit that is not zero is 8 at the count
unfoldable pub unicode : Reader Unit
unicode s at = then (field 4 s at) (λ n first. then (body 2 n s first) (λ us end. rule (closing (shut us)) at (ok tt end)))

-- a class: a Unicode string and an ID
unfoldable pub class : Reader Unit
class = do
  u ← unicode
  id

-- 0 or 1, else 5
abbrev pub boolean : ℕ → Judged
boolean b = unless (leb b 1) 5

unfoldable pub flag : Reader Unit
flag = passing (judged 1 boolean)

-- the bits of a finite double, else 5
abbrev pub bits : ℕ → Judged
bits b = unless (finite (of_bits binary64 b)) 5

unfoldable pub double : Reader Unit
double = passing (judged 8 bits)

-- two IDs, of the type and of the value
unfoldable pub enumerated : Reader Unit
enumerated = do
  t ← id
  id

-- a length and that many bytes
unfoldable pub raw_bytes : Reader Unit
raw_bytes = do
  n ← field 4
  skip n

-- `#Ang`, `#Rsl`, `#Rlt`, `#Nne`, `#Prc`, `#Pxl`, `#Mlm`, `#Pnt`
abbrev pub units : List ℕ
units = chars "#Ang" ∷ chars "#Rsl" ∷ chars "#Rlt" ∷ chars "#Nne" ∷ chars "#Prc" ∷ chars "#Pxl" ∷ chars "#Mlm" ∷ chars "#Pnt" ∷ []

-- those of object arrays: `#Rlt`, `#Prc`, `#Pxl`
abbrev pub array_units : List ℕ
array_units = chars "#Rlt" ∷ chars "#Prc" ∷ chars "#Pxl" ∷ []

unfoldable pub is_unit : ℕ → Bool
is_unit u = one_of units u

unfoldable pub is_array_unit : ℕ → Bool
is_array_unit u = one_of array_units u

-- a unit, else 4
abbrev pub unit : ℕ → Judged
unit u = unless (is_unit u) 4

-- a unit of object arrays, else 4
abbrev pub array_unit : ℕ → Judged
array_unit u = unless (is_array_unit u) 4

-- a unit and a double
unfoldable pub unit_double : Reader Unit
unit_double = do
  u ← judged 4 unit
  double

-- ---- types and forms

-- what stands after an item's type: fields alone, or members
pub data Sort : Type 0 where
  leaf : Reader Unit → Sort
  list object reference array : Sort

-- `bool`, `type`, `GlbC`, `doub`, `enum`, `alis`, `Pth `, `tdta`, `long`, `comp`, `TEXT`, `UntF`; `VlLs`, `Objc`, `GlbO`, `obj `, `ObAr`
abbrev pub types : List (ℕ × Sort)
types =
    (chars "bool", leaf flag) ∷ (chars "type", leaf class) ∷ (chars "GlbC", leaf class) ∷ (chars "doub", leaf double) ∷ (chars "enum", leaf enumerated)
    ∷ (chars "alis", leaf raw_bytes) ∷ (chars "Pth ", leaf raw_bytes) ∷ (chars "tdta", leaf raw_bytes) ∷ (chars "long", leaf (skip 4)) ∷ (chars "comp", leaf (skip 8))
    ∷ (chars "TEXT", leaf unicode) ∷ (chars "UntF", leaf unit_double)
    ∷ (chars "VlLs", list) ∷ (chars "Objc", object) ∷ (chars "GlbO", object) ∷ (chars "obj ", reference) ∷ (chars "ObAr", array) ∷ []

unfoldable pub sort_of : ℕ → Known Sort
sort_of t = beside types t

-- what stands after a reference item's class: `Clss`, `Enmr`, `prop`, `name`, `Idnt`, `indx`, `rele`
abbrev pub forms : List (ℕ × Reader Unit)
forms =
    (chars "Clss", skip 0) ∷ (chars "Enmr", enumerated) ∷ (chars "prop", id) ∷ (chars "name", unicode) ∷ (chars "Idnt", skip 4)
    ∷ (chars "indx", skip 4) ∷ (chars "rele", skip 4) ∷ []

unfoldable pub form_of : ℕ → Known (Reader Unit)
form_of t = beside forms t

-- ---- rows

-- a row: its kind, its parent's row number, its first byte, how many bytes it has, its depth, and the place at which its value begins
pub record Row : Type 0 where
  pub kind : ℕ
  pub parent : ℕ
  pub first : ℕ
  pub size : ℕ
  pub depth : ℕ
  pub value : ℕ

-- the row of a member, with `left` levels left below it, before the rows below it, which end where it ends
abbrev pub headed : (kind left parent first value : ℕ) → Res (List Row) → Res (List Row)
headed kind left parent first value m = then m (λ rs q. ok (record { kind = kind; parent = parent; first = first; size = q - first; depth = 32 - left; value = value } ∷ rs) q)

-- fields with no member among them
abbrev pub plain : Reader Unit → Reader (List Row)
plain p = do
  u ← p
  give []

-- n members one after the other, the first with the number `row`; f reads one, given its row number
unfoldable pub siblings : (f : (row : ℕ) → Reader (List Row)) (n row : ℕ) → Reader (List Row)
siblings f zero row s at = ok [] at
siblings f (suc n) row s at = then (f row s at) (λ rs q. then (siblings f n (row + length rs) s q) (λ qs e. ok (rs ++ qs) e))

-- a count and that many children of the row `row`
unfoldable pub children : (f : (row : ℕ) → Reader (List Row)) (row : ℕ) → Reader (List Row)
children f row = do
  n ← field 4
  siblings f n (row + 1)

-- ---- references. In each reader of members `left` is the levels left: with none, a child is 10 at its first byte, before any of it is read

-- after the form: a class, and the form's value
unfoldable pub ref_value : Reader Unit → Reader Unit
ref_value r = do
  c ← class
  r

-- one reference item
unfoldable pub ref_item : (left parent row : ℕ) → Reader (List Row)
ref_item zero parent row s at = refuse 10 at 0 0
ref_item (suc left) parent row s at = then (field 4 s at) (λ t v. known (form_of t) at (λ r. headed t left parent at v (plain (ref_value r) s v)))

-- the items of the reference `row`
abbrev pub reference_of : (left row : ℕ) → Reader (List Row)
reference_of left row = children (ref_item left row) row

-- ---- object arrays

-- there are as many doubles as objects, m, else 5
abbrev pub doubles : ℕ → ℕ → Judged
doubles m n = unless (eqb n m) 5

-- after `UnFl`: a unit, a count of doubles, and the doubles
unfoldable pub column : (objects : ℕ) → Reader Unit
column m = do
  u ← judged 4 array_unit
  n ← judged 4 (doubles m)
  passing (each n 0 (λ i. double))

-- `UnFl`, else 4
abbrev pub column_type : ℕ → Judged
column_type t = unless (eqb t (chars "UnFl")) 4

-- a key, `UnFl`, and its column
unfoldable pub array_pair : (objects left parent row : ℕ) → Reader (List Row)
array_pair m zero parent row s at = refuse 10 at 0 0
array_pair m (suc left) parent row s at =
    then (id s at) (λ u e.
    then (judged 4 column_type s e) (λ t v.
    headed t left parent at v (plain (column m) s v)))

-- the number of objects, a class, and the pairs
unfoldable pub array_of : (left row : ℕ) → Reader (List Row)
array_of left row = do
  m ← field 4
  c ← class
  children (array_pair m left row) row

-- ---- items

-- a reader of items is told the row's first byte, which in a pair is the key's
abbrev pub Items : Type 0
Items = (parent row first : ℕ) → Reader (List Row)

-- a key and an item
unfoldable pub keyed : (f : Items) (left parent row : ℕ) → Reader (List Row)
keyed f zero parent row s at = refuse 10 at 0 0
keyed f (suc left) parent row s at = then (id s at) (λ u e. f parent row at s e)

abbrev pub list_of : (f : Items) (row : ℕ) → Reader (List Row)
list_of f row = children (λ child s q. f row child q s q) row

-- a class and the pairs
unfoldable pub object_of : (f : Items) (left row : ℕ) → Reader (List Row)
object_of f left row = do
  c ← class
  children (keyed f left row) row

-- what follows the type of the row `row`, with `left` levels left below it; f reads an item below
abbrev pub value_of : (f : Items) (left row : ℕ) → Sort → Reader (List Row)
value_of f left row (leaf p) = plain p
value_of f left row list = list_of f row
value_of f left row object = object_of f left row
value_of f left row reference = reference_of left row
value_of f left row array = array_of left row

unfoldable pub item : (left parent row first : ℕ) → Reader (List Row)
item zero parent row first s at = refuse 10 first 0 0
item (suc left) parent row first s at = then (field 4 s at) (λ t v. known (sort_of t) at (λ sort. headed t left parent first v (value_of (item left) left row sort s v)))

-- a key and an item, with as many levels left
abbrev pub pair : (left parent row : ℕ) → Reader (List Row)
pair left parent row = keyed (item left) left parent row

-- ---- the file

-- 16, else 3
abbrev pub version : ℕ → Judged
version v = unless (eqb v 16) 3

-- the version, and an object of which all 32 levels are left
unfoldable pub root : Reader (List Row)
root s at = then (judged 4 version s at) (λ v e. headed (chars "Objc") 32 0 at e (object_of (item 32) 32 0 s e))

unfoldable pub whole : Reader (List Row)
whole = do
  rs ← root
  ended rs

-- a whole file; 1 where it is longer than the limit
unfoldable pub descriptor : List ℕ → Res (List Row)
descriptor s = pick (leb (length s) limit) (whole s 0) (refuse 1 0 0 0)
