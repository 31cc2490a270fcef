-- ACB books as byte strings, joined from a header, records and a tag: what may stand in a file. Nothing here reads.
-- The spaces, the tags and the limits are written here by themselves, from docs/RULES.md, and not taken from the reader's.
use Rattle.std.specs.Prelude.{ℕ, ◌^◌, ◌≤◌, ◌<◌, ◌≡◌, List, [], ◌++◌, length}
use Rattle.algebra.specs.Chars.{chars}
use Rattle.algebra.specs.Numbers.{be, joined, All}

-- a record: the units of its name, its code, its components; one without a name is a dummy
pub record Colour : Type 0 where
  pub name : List ℕ
  pub code : List ℕ
  pub components : List ℕ

-- how a file ends
pub data Tag : Type 0 where
  none : Tag
  spot : Tag
  process : Tag

-- the ink of every record of a book that ends so, by its number: 4 not stated, 1 spot, 3 process
pub data States : Tag → ℕ → Type 0 where
  no_ink : States none 4
  spot_ink : States spot 1
  process_ink : States process 3

-- how a book ends that is given to a writer: as a file may end, or with eight bytes that are no tag
pub data Ending : Type 0 where
  tagged : Tag → Ending
  other : ℕ → Ending

-- the units of title, prefix, suffix and description, in this order, are `texts`
pub record Book : Type 0 where
  pub identifier : ℕ
  pub texts : List (List ℕ)
  pub size : ℕ
  pub offset : ℕ
  pub space : ℕ
  pub colours : List Colour
  pub tag : Ending

-- ---- its bytes

-- a count of units and the units, with no closing zero
unfoldable pub bytes_of_string : List ℕ → List ℕ
bytes_of_string us = be 4 (length us) ++ joined (be 2) us

-- name, code, components
unfoldable pub colour_bytes : Colour → List ℕ
colour_bytes c = bytes_of_string c.name ++ (joined (be 1) c.code ++ joined (be 1) c.components)

-- nothing, `spflspot` or `spflproc`
abbrev pub tag_bytes : Tag → List ℕ
tag_bytes none = []
tag_bytes spot = be 8 (chars "spflspot")
tag_bytes process = be 8 (chars "spflproc")

-- eight bytes that are no tag
pub record Unknown (v : ℕ) : Type 0 where
  pub small : v < 256 ^ 8
  pub no_tag : (t : Tag) → be 8 v ≡ tag_bytes t → ⊥

abbrev pub ending_bytes : Ending → List ℕ
ending_bytes (tagged t) = tag_bytes t
ending_bytes (other v) = be 8 v

-- `8BCB`, 1, identifier, four strings, colour count, page size, page offset, space
unfoldable pub head_bytes : Book → List ℕ
head_bytes b =
    be 4 (chars "8BCB") ++ (be 2 1 ++ (be 2 b.identifier
    ++ (joined bytes_of_string b.texts
    ++ (be 2 (length b.colours) ++ (be 2 b.size ++ (be 2 b.offset ++ be 2 b.space))))))

unfoldable pub file_bytes : Book → List ℕ
file_bytes b = head_bytes b ++ (joined colour_bytes b.colours ++ ending_bytes b.tag)

-- ---- which books are allowed

-- a space, and how many components a record has in it: RGB, CMYK, Lab
pub data Space : ℕ → ℕ → Type 0 where
  rgb : Space 0 3
  cmyk : Space 2 4
  lab : Space 7 3

-- any units: zeros may stand anywhere
pub record String (us : List ℕ) : Type 0 where
  pub counted : length us < 256 ^ 4
  pub units : All (λ k u. u < 256 ^ 2) 0 us

-- so many bytes
pub record Octets (n : ℕ) (bs : List ℕ) : Type 0 where
  pub count : length bs ≡ n
  pub each : All (λ k b. b < 256) 0 bs

-- a record of n components
pub record AllowedRecord (n : ℕ) (c : Colour) : Type 0 where
  pub name : String c.name
  pub code : Octets 6 c.code
  pub components : Octets n c.components

pub record Allowed (b : Book) : Type 0 where
  pub identifier : b.identifier < 256 ^ 2
  pub four : length b.texts ≡ 4
  pub texts : All (λ k us. String us) 0 b.texts
  pub count : length b.colours < 256 ^ 2
  -- the page size is not 0
  pub size : (0 < b.size) × (b.size < 256 ^ 2)
  pub offset : b.offset < 256 ^ 2
  pub components : ℕ
  pub space : Space b.space components
  pub colours : All (λ k c. AllowedRecord components c) 0 b.colours
  -- no other tag
  pub ends : Tag
  pub tag : b.tag ≡ tagged ends

-- ---- a file: at most 16,777,216 bytes
pub data File : Book → List ℕ → Type 0 where
  file : {b : Book} → Allowed b → length (file_bytes b) ≤ 16777216 → File b (file_bytes b)
