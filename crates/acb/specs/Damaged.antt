-- ACB books that are damaged: what stands in them, the number that refuses them, and its place. Nothing here reads.
-- What is damaged is the first thing that is wrong in the order of turns; any bytes may stand behind it.
use Rattle.std.specs.Prelude.{ℕ, ◌+◌, ◌*◌, ◌^◌, ◌<◌, ◌≡◌, List, ◌++◌, length}
use Rattle.algebra.specs.Chars.{chars}
use Rattle.algebra.specs.Numbers.{be, joined, All}
use Rattle.acb.specs.Grammar.{Tag, none, tagged, Unknown, Book, Space, String, Octets, Allowed, bytes_of_string, colour_bytes, tag_bytes, head_bytes}

-- ---- parts of a file: the bytes from the part to the file's end, the number, the place counted from the part

-- signature, version, identifier
pub data DamagedOpening : List ℕ → ℕ → ℕ → Type 0 where
  signature_cut : (l : List ℕ) → length l < 4 → DamagedOpening l 2 0
  wrong_signature : (v : ℕ) (l : List ℕ) → v < 256 ^ 4 → (v ≡ chars "8BCB" → ⊥) → DamagedOpening (be 4 v ++ l) 3 0
  version_cut : (l : List ℕ) → length l < 2 → DamagedOpening (be 4 (chars "8BCB") ++ l) 2 4
  wrong_version : (v : ℕ) (l : List ℕ) → v < 256 ^ 2 → (v ≡ 1 → ⊥) → DamagedOpening (be 4 (chars "8BCB") ++ (be 2 v ++ l)) 3 4
  identifier_cut : (l : List ℕ) → length l < 2 → DamagedOpening (be 4 (chars "8BCB") ++ (be 2 1 ++ l)) 2 6

-- a string is never wrong, only cut: 2, here without its number
pub data CutString : List ℕ → ℕ → Type 0 where
  count_cut : (l : List ℕ) → length l < 4 → CutString l 0
  units_cut : (n : ℕ) (l : List ℕ) → n < 256 ^ 4 → length l < 2 * n → CutString (be 4 n ++ l) 4

-- what stands before the page offset: a colour count, and a page size that is not 0
pub record Paged (n z : ℕ) : Type 0 where
  pub count : n < 256 ^ 2
  pub some : 0 < z
  pub size : z < 256 ^ 2

-- colour count, page size, page offset, space
pub data DamagedNumbers : List ℕ → ℕ → ℕ → Type 0 where
  colours_cut : (l : List ℕ) → length l < 2 → DamagedNumbers l 2 0
  size_cut : (n : ℕ) (l : List ℕ) → n < 256 ^ 2 → length l < 2 → DamagedNumbers (be 2 n ++ l) 2 2
  size-zero : (n : ℕ) (l : List ℕ) → n < 256 ^ 2 → DamagedNumbers (be 2 n ++ (be 2 0 ++ l)) 5 2
  offset_cut : (n z : ℕ) (l : List ℕ) → Paged n z → length l < 2 → DamagedNumbers (be 2 n ++ (be 2 z ++ l)) 2 4
  space_cut : (n z o : ℕ) (l : List ℕ) → Paged n z → o < 256 ^ 2 → length l < 2 → DamagedNumbers (be 2 n ++ (be 2 z ++ (be 2 o ++ l))) 2 6
  wrong_space : (n z o v : ℕ) (l : List ℕ) → Paged n z → o < 256 ^ 2 → v < 256 ^ 2 → ((m : ℕ) → Space v m → ⊥) → DamagedNumbers (be 2 n ++ (be 2 z ++ (be 2 o ++ (be 2 v ++ l)))) 4 6

-- a record of n components is never wrong either
pub data CutColour (n : ℕ) : List ℕ → ℕ → Type 0 where
  name_cut : (l : List ℕ) (p : ℕ) → CutString l p → CutColour n l p
  -- the six code bytes are one field
  code_cut : (us l : List ℕ) → String us → length l < 6 → CutColour n (bytes_of_string us ++ l) (length (bytes_of_string us))
  -- a component is a byte: those of l are there, and the next is not
  component_cut : (us cs l : List ℕ) → String us → Octets 6 cs → length l < n → CutColour n (bytes_of_string us ++ (joined (be 1) cs ++ l)) (length (bytes_of_string us) + (6 + length l))

-- what stands behind the records; nothing at all is no damage
pub data DamagedEnd : List ℕ → ℕ → ℕ → Type 0 where
  -- whatever they are
  tag_cut : (l : List ℕ) → 0 < length l → length l < 8 → DamagedEnd l 2 0
  wrong_tag : (v : ℕ) (l : List ℕ) → Unknown v → DamagedEnd (be 8 v ++ l) 3 0
  left_over : (t : Tag) (l : List ℕ) → (t ≡ none → ⊥) → 0 < length l → DamagedEnd (tag_bytes t ++ l) 6 8

-- ---- the file: its bytes, the number, the place

-- `8BCB`, 1, the identifier i, the strings ts, and the bytes x
unfoldable pub opened : ℕ → List (List ℕ) → List ℕ → List ℕ
opened i ts x = be 4 (chars "8BCB") ++ (be 2 1 ++ (be 2 i ++ (joined bytes_of_string ts ++ x)))

-- the place behind the strings
unfoldable pub strings_end : List (List ℕ) → ℕ
strings_end ts = 8 + length (joined bytes_of_string ts)

-- a book whose header counts n records, up to the records that it has, and the bytes x
unfoldable pub counting : ℕ → Book → List ℕ → List ℕ
counting n b x = opened b.identifier b.texts (be 2 n ++ (be 2 b.size ++ (be 2 b.offset ++ (be 2 b.space ++ (joined colour_bytes b.colours ++ x)))))

-- the same with its own count
unfoldable pub ending : Book → List ℕ → List ℕ
ending b x = head_bytes b ++ (joined colour_bytes b.colours ++ x)

-- the place behind the records, where the tag stands or would stand
unfoldable pub tag_at : Book → ℕ
tag_at b = length (head_bytes b) + length (joined colour_bytes b.colours)

pub data Damaged : List ℕ → ℕ → ℕ → Type 0 where
  wrong_opening : (x : List ℕ) (z p : ℕ) → DamagedOpening x z p → Damaged x z p
  string_cut : (i : ℕ) (before : List (List ℕ)) (x : List ℕ) (p : ℕ) → i < 256 ^ 2 → length before < 4 → All (λ k us. String us) 0 before → CutString x p → Damaged (opened i before x) 2 (strings_end before + p)
  wrong_numbers : (i : ℕ) (ts : List (List ℕ)) (x : List ℕ) (z p : ℕ) → i < 256 ^ 2 → length ts ≡ 4 → All (λ k us. String us) 0 ts → DamagedNumbers x z p → Damaged (opened i ts x) z (strings_end ts + p)
  record_cut : (n : ℕ) (b : Book) (x : List ℕ) (p : ℕ) (a : Allowed b) → n < 256 ^ 2 → length b.colours < n → CutColour a.components x p → Damaged (counting n b x) 2 (tag_at b + p)
  wrong_end : (b : Book) (x : List ℕ) (z p : ℕ) → Allowed b → DamagedEnd x z p → Damaged (ending b x) z (tag_at b + p)

-- ---- a book that is cut where its tag begins is not damaged: it is the book without a tag
abbrev pub untagged : Book → Book
untagged b = record { identifier = b.identifier; texts = b.texts; size = b.size; offset = b.offset; space = b.space; colours = b.colours; tag = tagged none }
