-- Files of which one field is damaged: it is cut, or it is whole and lies outside its set. Each set here has the bytes up to where that field ends,
-- the refusal's number, and its place, counted from the first of those bytes. Nothing here reads.
use Rattle.std.specs.Prelude.{ℕ, suc, ◌+◌, ◌*◌, ◌^◌, ◌≤◌, ◌<◌, ◌≡◌, List, [], ◌++◌, length}
use Rattle.algebra.specs.Chars.{chars}
use Rattle.algebra.specs.Numbers.{be}
use Rattle.algebra.specs.Sets.{Field, Size, Number, Run}
use Rattle.descriptor_tree.specs.Grammar.{Id, Text, Class, Boolean, Double, Measure, ArrayMeasure, Form}
use Rattle.descriptor_tree.specs.Tree.{Members, Descriptor, count, head, bytes, Place, Item, Member, Allowed, File}

-- ---- fields

-- a field of w bytes of which fewer are there: 2 where it begins; nothing can stand behind it
pub data Cut (w : ℕ) : List ℕ → ℕ → ℕ → Type 0 where
  cut : {b : List ℕ} → length b < w → Cut w b 2 0

-- a field of w bytes that is cut, or is whole and not of X: x where it begins
pub data Wrong (w : ℕ) (X : Field) (x : ℕ) : List ℕ → ℕ → ℕ → Type 0 where
  cut : {b : List ℕ} → length b < w → Wrong w X x b 2 0
  outside : {b : List ℕ} → Size w b → (X b → ⊥) → Wrong w X x b x 0

-- an ID: its length, or its body, of 4 bytes where the length is 0
pub data WrongId : List ℕ → ℕ → ℕ → Type 0 where
  size : {b : List ℕ} {x o : ℕ} → Cut 4 b x o → WrongId b x o
  char : {b : List ℕ} {x o : ℕ} → Cut 4 b x o → WrongId (be 4 0 ++ b) x (4 + o)
  string : (n : ℕ) {b : List ℕ} {x o : ℕ} → 0 < n → n < 256 ^ 4 → Cut n b x o → WrongId (be 4 n ++ b) x (4 + o)

-- a Unicode string: its count, its units, or, behind n units, a last one that is not zero: 8 at the count
pub data WrongText : List ℕ → ℕ → ℕ → Type 0 where
  size : {b : List ℕ} {x o : ℕ} → Cut 4 b x o → WrongText b x o
  units : (n : ℕ) {b : List ℕ} {x o : ℕ} → n < 256 ^ 4 → Cut (n * 2) b x o → WrongText (be 4 n ++ b) x (4 + o)
  unclosed : (n u : ℕ) (b : List ℕ) → suc n < 256 ^ 4 → length b ≡ n * 2 → 0 < u → u < 256 ^ 2 → WrongText (be 4 (suc n) ++ (b ++ be 2 u)) 8 0

-- a class: its name, or its ID
pub data WrongClass : List ℕ → ℕ → ℕ → Type 0 where
  name : {b : List ℕ} {x o : ℕ} → WrongText b x o → WrongClass b x o
  id : {t b : List ℕ} {x o : ℕ} → Text t → WrongId b x o → WrongClass (t ++ b) x (length t + o)

-- the ID of an enumerated value's type, or that of the value
pub data WrongEnumerated : List ℕ → ℕ → ℕ → Type 0 where
  type : {b : List ℕ} {x o : ℕ} → WrongId b x o → WrongEnumerated b x o
  value : {t b : List ℕ} {x o : ℕ} → Id t → WrongId b x o → WrongEnumerated (t ++ b) x (length t + o)

-- a length, or the bytes behind it
pub data WrongRaw : List ℕ → ℕ → ℕ → Type 0 where
  size : {b : List ℕ} {x o : ℕ} → Cut 4 b x o → WrongRaw b x o
  body : (n : ℕ) {b : List ℕ} {x o : ℕ} → n < 256 ^ 4 → Cut n b x o → WrongRaw (be 4 n ++ b) x (4 + o)

-- ---- values

-- the value of an item that holds no items, by its type
pub data WrongLeaf : ℕ → List ℕ → ℕ → ℕ → Type 0 where
  boolean : {b : List ℕ} {x o : ℕ} → Wrong 1 Boolean 5 b x o → WrongLeaf (chars "bool") b x o
  class : {b : List ℕ} {x o : ℕ} → WrongClass b x o → WrongLeaf (chars "type") b x o
  global_class : {b : List ℕ} {x o : ℕ} → WrongClass b x o → WrongLeaf (chars "GlbC") b x o
  double : {b : List ℕ} {x o : ℕ} → Wrong 8 Double 5 b x o → WrongLeaf (chars "doub") b x o
  enumerated : {b : List ℕ} {x o : ℕ} → WrongEnumerated b x o → WrongLeaf (chars "enum") b x o
  alias : {b : List ℕ} {x o : ℕ} → WrongRaw b x o → WrongLeaf (chars "alis") b x o
  path : {b : List ℕ} {x o : ℕ} → WrongRaw b x o → WrongLeaf (chars "Pth ") b x o
  integer : {b : List ℕ} {x o : ℕ} → Cut 4 b x o → WrongLeaf (chars "long") b x o
  large : {b : List ℕ} {x o : ℕ} → Cut 8 b x o → WrongLeaf (chars "comp") b x o
  raw : {b : List ℕ} {x o : ℕ} → WrongRaw b x o → WrongLeaf (chars "tdta") b x o
  text : {b : List ℕ} {x o : ℕ} → WrongText b x o → WrongLeaf (chars "TEXT") b x o
  unit : {b : List ℕ} {x o : ℕ} → Wrong 4 (Number 4 Measure) 4 b x o → WrongLeaf (chars "UntF") b x o
  unit_double : {u b : List ℕ} {x o : ℕ} → Number 4 Measure u → Wrong 8 Double 5 b x o → WrongLeaf (chars "UntF") (u ++ b) x (4 + o)

-- what stands behind the class of a reference item, by its form
pub data WrongForm : ℕ → List ℕ → ℕ → ℕ → Type 0 where
  enumerated : {b : List ℕ} {x o : ℕ} → WrongEnumerated b x o → WrongForm (chars "Enmr") b x o
  identifier : {b : List ℕ} {x o : ℕ} → Cut 4 b x o → WrongForm (chars "Idnt") b x o
  index : {b : List ℕ} {x o : ℕ} → Cut 4 b x o → WrongForm (chars "indx") b x o
  name : {b : List ℕ} {x o : ℕ} → WrongText b x o → WrongForm (chars "name") b x o
  offset : {b : List ℕ} {x o : ℕ} → Cut 4 b x o → WrongForm (chars "rele") b x o
  property : {b : List ℕ} {x o : ℕ} → WrongId b x o → WrongForm (chars "prop") b x o

-- the unit doubles of an object array of m objects: the unit; the count; a double, behind k others
pub data WrongDoubles (m : ℕ) : List ℕ → ℕ → ℕ → Type 0 where
  unit : {b : List ℕ} {x o : ℕ} → Wrong 4 (Number 4 ArrayMeasure) 4 b x o → WrongDoubles m b x o
  number : {u b : List ℕ} {x o : ℕ} → Number 4 ArrayMeasure u → Wrong 4 (Number 4 (λ n. n ≡ m)) 5 b x o → WrongDoubles m (u ++ b) x (4 + o)
  double : (k : ℕ) (c : List ℕ) {u b : List ℕ} {x o : ℕ} → Number 4 ArrayMeasure u → m < 256 ^ 4 → k < m → Run Double k c → Wrong 8 Double 5 b x o
      → WrongDoubles m (u ++ (be 4 m ++ (c ++ b))) x (8 + length c + o)

-- the class of an object, or its pair count
pub data WrongObject : List ℕ → ℕ → ℕ → Type 0 where
  class : {b : List ℕ} {x o : ℕ} → WrongClass b x o → WrongObject b x o
  pairs : {c b : List ℕ} {x o : ℕ} → Class c → Cut 4 b x o → WrongObject (c ++ b) x (length c + o)

-- ---- members

-- the types of items, and the forms of reference items
pub data ItemType : ℕ → Type 0 where
  type : {kind n : ℕ} {c : Place} {b : List ℕ} → Item kind c n b → ItemType kind

pub data ItemForm : ℕ → Type 0 where
  form : {kind : ℕ} {b : List ℕ} → Form kind b → ItemForm kind

-- an item: its type; behind that its value, or what stands there before its members
pub data WrongItem : List ℕ → ℕ → ℕ → Type 0 where
  type : {b : List ℕ} {x o : ℕ} → Wrong 4 (Number 4 ItemType) 4 b x o → WrongItem b x o
  leaf : {kind : ℕ} {b : List ℕ} {x o : ℕ} → WrongLeaf kind b x o → WrongItem (be 4 kind ++ b) x (4 + o)
  list : {b : List ℕ} {x o : ℕ} → Cut 4 b x o → WrongItem (be 4 (chars "VlLs") ++ b) x (4 + o)
  object : {b : List ℕ} {x o : ℕ} → WrongObject b x o → WrongItem (be 4 (chars "Objc") ++ b) x (4 + o)
  global : {b : List ℕ} {x o : ℕ} → WrongObject b x o → WrongItem (be 4 (chars "GlbO") ++ b) x (4 + o)
  reference : {b : List ℕ} {x o : ℕ} → Cut 4 b x o → WrongItem (be 4 (chars "obj ") ++ b) x (4 + o)
  objects : {b : List ℕ} {x o : ℕ} → Cut 4 b x o → WrongItem (be 4 (chars "ObAr") ++ b) x (4 + o)
  array : (m : ℕ) {b : List ℕ} {x o : ℕ} → m < 256 ^ 4 → WrongObject b x o → WrongItem (be 4 (chars "ObAr") ++ (be 4 m ++ b)) x (8 + o)

-- a member of a place: its key, where it has one; its type or form; what stands behind that. In an object array the type is `UnFl`
pub data WrongMember : Place → List ℕ → ℕ → ℕ → Type 0 where
  item : {b : List ℕ} {x o : ℕ} → WrongItem b x o → WrongMember Place.items b x o
  key : {b : List ℕ} {x o : ℕ} → WrongId b x o → WrongMember Place.pairs b x o
  pair : {key b : List ℕ} {x o : ℕ} → Id key → WrongItem b x o → WrongMember Place.pairs (key ++ b) x (length key + o)
  form : {b : List ℕ} {x o : ℕ} → Wrong 4 (Number 4 ItemForm) 4 b x o → WrongMember Place.forms b x o
  class : {kind : ℕ} {b : List ℕ} {x o : ℕ} → ItemForm kind → WrongClass b x o → WrongMember Place.forms (be 4 kind ++ b) x (4 + o)
  value : {kind : ℕ} {c b : List ℕ} {x o : ℕ} → Class c → WrongForm kind b x o → WrongMember Place.forms (be 4 kind ++ (c ++ b)) x (4 + length c + o)
  column_key : {m : ℕ} {b : List ℕ} {x o : ℕ} → WrongId b x o → WrongMember (Place.columns m) b x o
  column_type : {m : ℕ} {key b : List ℕ} {x o : ℕ} → Id key → Wrong 4 (Number 4 (λ t. t ≡ chars "UnFl")) 4 b x o → WrongMember (Place.columns m) (key ++ b) x (length key + o)
  column : {m : ℕ} {key b : List ℕ} {x o : ℕ} → Id key → WrongDoubles m b x o → WrongMember (Place.columns m) (key ++ (be 4 (chars "UnFl") ++ b)) x (length key + 4 + o)

-- n members of a place at a depth, of which one is damaged, or is at depth 33: 10 at its first byte, and no byte of it need be there.
-- It is the first; it is below the first, whose head is allowed; or it is behind the first, which is allowed with all below it
pub data Damaged : Place → ℕ → ℕ → List ℕ → ℕ → ℕ → Type 0 where
  deep : {c : Place} {n : ℕ} → Damaged c 33 (suc n) [] 10 0
  here : {c : Place} {d n : ℕ} {b : List ℕ} {x o : ℕ} → d ≤ 32 → WrongMember c b x o → Damaged c d (suc n) b x o
  under : {c kids : Place} {d n m kind : ℕ} {key fields b : List ℕ} {x o : ℕ} → d ≤ 32 → Member c key kind kids m fields → Damaged kids (d + 1) m b x o
      → Damaged c d (suc n) (head key kind fields ++ b) x (length (head key kind fields) + o)
  behind : {c kids : Place} {d n kind : ℕ} {key fields b : List ℕ} {x o : ℕ} (children : Members) → d ≤ 32 → Member c key kind kids (count children) fields → Allowed kids (d + 1) children
      → Damaged c d n b x o → Damaged c d (suc n) (head key kind fields ++ (bytes children ++ b)) x (length (head key kind fields) + length (bytes children) + o)

-- ---- a file: the version; the root's class or pair count; a member

pub data DamagedFile : List ℕ → ℕ → ℕ → Type 0 where
  version : {b : List ℕ} {x o : ℕ} → Wrong 4 (Number 4 (λ v. v ≡ 16)) 3 b x o → DamagedFile b x o
  root : {b : List ℕ} {x o : ℕ} → WrongObject b x o → DamagedFile (be 4 16 ++ b) x (4 + o)
  pairs : (n : ℕ) {c b : List ℕ} {x o : ℕ} → Class c → n < 256 ^ 4 → Damaged Place.pairs 1 n b x o → DamagedFile (be 4 16 ++ (c ++ (be 4 n ++ b))) x (8 + length c + o)

-- ---- a file that is refused: it is too long; or it begins with a damaged file, behind which anything may stand, or nothing where a field is cut;
-- or bytes are left over behind a file

pub data Refusal : List ℕ → ℕ → ℕ → Type 0 where
  long : {s : List ℕ} → 16777216 < length s → Refusal s 1 0
  damaged : {b : List ℕ} {x p : ℕ} (more : List ℕ) → DamagedFile b x p → (x ≡ 2 → more ≡ []) → length (b ++ more) ≤ 16777216 → Refusal (b ++ more) x p
  left : {t : Descriptor} {b : List ℕ} (more : List ℕ) → File t b → 0 < length more → length (b ++ more) ≤ 16777216 → Refusal (b ++ more) 6 (length b)
