-- Image resource sections as they are read: what each field must be, and which fault is found first.
use Rattle.std.specs.Prelude.{ℕ, ◌+◌, ◌%◌, List, leb, eqb, length}
use Rattle.algebra.specs.Chars.{chars}
use Rattle.algebra.specs.Reader.{Res, refuse, Reader, pick, field, body, Judged, unless, judged, give, ◌>>=◌, map_res, at_end, many, limit}
use Rattle.resource.specs.Grammar.{Block}

-- bytes of a section, and the place of the first; where there are none, the place where they would begin
pub record Part : Type 0 where
  pub first : ℕ
  pub bytes : List ℕ

-- a record: a block, and where its name and its data lie
pub record Entry : Type 0 where
  pub id : ℕ
  pub name : Part
  pub payload : Part

-- the block apart from the places
abbrev pub block_of : Entry → Block
block_of e = record { id = e.id; name = e.name.bytes; payload = e.payload.bytes }

-- ---- a block

-- n bytes
unfoldable pub block_part : ℕ → Reader Part
block_part n s at = map_res (λ b. record { first = at; bytes = b }) (body 1 n s at)

-- a pad of another content is 5
abbrev pub zeroed : ℕ → Judged
zeroed v = unless (eqb v 0) 5

-- the pad behind n bytes: one byte where n is odd, else none
abbrev pub pad : ℕ → Reader ℕ
pad n = judged (n % 2) zeroed

-- n bytes and their pad, where k bytes before them count with them
unfoldable pub padded_part : ℕ → ℕ → Reader Part
padded_part k n = do
  t ← block_part n
  z ← pad (k + n)
  give t

-- a length of w bytes, and as many bytes with their pad
abbrev pub sized_part : ℕ → ℕ → Reader Part
sized_part w k = do
  n ← field w
  padded_part k n

-- another signature is 3
abbrev pub is_signature : ℕ → Judged
is_signature x = unless (eqb x (chars "8BIM")) 3

-- signature, ID, name, data; a name's length byte counts for its pad, the data's size does not
unfoldable pub block : Reader Entry
block = do
  x ← judged 4 is_signature
  i ← field 2
  nm ← sized_part 1 1
  l ← sized_part 4 0
  give (record { id = i; name = nm; payload = l })

-- ---- the section

-- blocks up to the section's end
abbrev pub blocks : Reader (List Entry)
blocks = many at_end (λ u e. u) (λ u. block) (tt {0})

-- a whole section; 1 where it is longer than the limit
unfoldable pub resources : List ℕ → Res (List Entry)
resources s = pick (leb (length s) limit) (blocks s 0) (refuse 1 0 0 0)
