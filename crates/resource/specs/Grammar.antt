-- Image resource sections as byte strings, joined from blocks: what may stand in a section. Nothing here reads.
-- The signature and the limits are written here by themselves, from docs/RULES.md, and not taken from the reader's.
use Rattle.std.specs.Prelude.{ℕ, ◌%◌, ◌^◌, ◌≤◌, ◌<◌, List, ◌++◌, length}
use Rattle.algebra.specs.Chars.{chars}
use Rattle.algebra.specs.Numbers.{be, joined, Bytes, All}

-- a block: its ID, the bytes of its name, and its data
pub record Block : Type 0 where
  pub id : ℕ
  pub name : List ℕ
  pub payload : List ℕ

-- ---- its bytes

-- bytes made even in number: a zero byte stands behind an odd number of them
abbrev pub padded : List ℕ → List ℕ
padded l = l ++ be (length l % 2) 0

-- a length byte and the text, padded together
abbrev pub name_bytes : List ℕ → List ℕ
name_bytes us = padded (be 1 (length us) ++ us)

-- a size of four bytes, which does not count the pad, and the data, padded
abbrev pub payload_bytes : List ℕ → List ℕ
payload_bytes l = be 4 (length l) ++ padded l

-- `8BIM`, the ID, the name, the data
unfoldable pub block_bytes : Block → List ℕ
block_bytes b = be 4 (chars "8BIM") ++ (be 2 b.id ++ (name_bytes b.name ++ payload_bytes b.payload))

-- the blocks, one after the other
abbrev pub section_bytes : List Block → List ℕ
section_bytes bs = joined block_bytes bs

-- ---- which blocks are allowed: any that fit their fields

pub record Allowed (b : Block) : Type 0 where
  pub id : b.id < 256 ^ 2
  pub letters : length b.name < 256
  pub name : Bytes b.name
  pub size : length b.payload < 256 ^ 4
  pub payload : Bytes b.payload

-- ---- a section: it has at most 16,777,216 bytes, and may have none
pub data Section : List Block → List ℕ → Type 0 where
  section : {bs : List Block} → All (λ i b. Allowed b) 0 bs → length (section_bytes bs) ≤ 16777216 → Section bs (section_bytes bs)
