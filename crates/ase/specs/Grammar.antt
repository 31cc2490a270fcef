-- ASE files as byte strings, joined from blocks: what may stand in a file. Nothing here reads.
-- The types, the models and the limits are written here by themselves, from docs/RULES.md, and not taken from the reader's.
use Rattle.std.specs.Prelude.{ℕ, ◌+◌, ◌-◌, ◌%◌, ◌^◌, ◌≤◌, ◌<◌, ◌≡◌, List, [], ◌∷◌, ◌++◌, length}
use Rattle.algebra.specs.Chars.{chars}
use Rattle.algebra.specs.Numbers.{be, joined, All}
use Rattle.algebra.specs.Text.{name_bytes, Named}

-- a block: the start of a group with the units of its name; the end of a group;
-- a colour: the units of its name, the tag of its model, the bits of its channels, and its ink by its number, which is its type;
-- or a block of another type, without a payload, which no file has and a writer may be given
pub data Block : Type 0 where
  group_start : List ℕ → Block
  group_end : Block
  colour : List ℕ → ℕ → List ℕ → ℕ → Block
  other : ℕ → Block

-- ---- its bytes

abbrev pub type_of : Block → ℕ
type_of (group_start us) = 0xC001
type_of group_end = 0xC002
type_of (colour us t bs k) = 0x0001
type_of (other t) = t

-- a name with a 16-bit count; in a colour then model, channels and type
abbrev pub payload : Block → List ℕ
payload (group_start us) = name_bytes 2 us
payload group_end = []
payload (colour us t bs k) = name_bytes 2 us ++ (be 4 t ++ (joined (be 4) bs ++ be 2 k))
payload (other t) = []

-- the length does not count the six bytes before the payload
unfoldable pub block_bytes : Block → List ℕ
block_bytes b = be 2 (type_of b) ++ (be 4 (length (payload b)) ++ payload b)

-- `ASEF`, 1, 0, the block count, the blocks
unfoldable pub file_bytes : List Block → List ℕ
file_bytes bs = be 4 (chars "ASEF") ++ (be 2 1 ++ (be 2 0 ++ (be 4 (length bs) ++ joined block_bytes bs)))

-- ---- which blocks are allowed

-- the types of a block: group start, group end, colour
pub data Known : ℕ → Type 0 where
  starts : Known 0xC001
  stops : Known 0xC002
  colours : Known 0x0001

-- any other of 16 bits
pub record Unknown (t : ℕ) : Type 0 where
  pub small : t < 256 ^ 2
  pub none : Known t → ⊥

-- a model by its tag, and how many channels it has: `RGB `, `CMYK`, `LAB `, `Gray`
pub data Model : ℕ → ℕ → Type 0 where
  rgb : Model (chars "RGB ") 3
  cmyk : Model (chars "CMYK") 4
  lab : Model (chars "LAB ") 3
  gray : Model (chars "Gray") 1

-- the bits of a channel, of whatever tag: from 0 to 1, which is 3F800000, and minus zero, the sign alone; in Lab any finite float, below the infinity 7F800000
pub data Channel : ℕ → ℕ → Type 0 where
  unit : {t b : ℕ} → b ≤ 0x3F80_0000 → Channel t b
  minus : {t : ℕ} → Channel t 0x8000_0000
  finite : {b : ℕ} → b < 2 ^ 32 → b % 0x8000_0000 < 0x7F80_0000 → Channel (chars "LAB ") b

pub record Colour (us : List ℕ) (t : ℕ) (bs : List ℕ) (k : ℕ) : Type 0 where
  -- as many channels as the model has
  pub count : ℕ
  pub model : Model t count
  pub all : length bs ≡ count
  pub channels : All (λ i b. Channel t b) 0 bs
  -- 0 global, 1 spot, 2 normal
  pub type : k ≤ 2
  pub name : Named 2 us

abbrev pub Allowed : Block → Type 0
Allowed (group_start us) = Named 2 us
Allowed group_end = Unit
Allowed (colour us t bs k) = Colour us t bs k
Allowed (other t) = ⊥

-- where d groups stand open and the blocks leave e open: at most 16 do at once, and every end closes one
abbrev pub Nested : ℕ → List Block → ℕ → Type 0
Nested d [] e = d ≡ e
Nested d (group_start us ∷ bs) e = (d < 16) × Nested (d + 1) bs e
Nested d (group_end ∷ bs) e = (0 < d) × Nested (d - 1) bs e
Nested d (colour us t cs k ∷ bs) e = Nested d bs e
Nested d (other t ∷ bs) e = Nested d bs e

-- ---- a file: no group is left open, and it has at most 16,777,216 bytes
pub data File : List Block → List ℕ → Type 0 where
  file : {bs : List Block} → All (λ i b. Allowed b) 0 bs → Nested 0 bs 0 → length (file_bytes bs) ≤ 16777216 → File bs (file_bytes bs)
