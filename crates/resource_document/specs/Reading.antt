-- Where the resource section of a Photoshop document lies, from the document's first bytes: what each field before it must be, and which fault is found first.
-- What follows the section is not looked at.
use Rattle.std.specs.Prelude.{ℕ, List, leb, eqb}
use Rattle.algebra.specs.Chars.{chars}
use Rattle.algebra.specs.Reader.{Res, ok, Reader, then, field, body, Judged, unless, rule, judged, ◌>>=◌, limit}

-- another signature, or another version, is 3
abbrev pub fixed_number : ℕ → ℕ → Judged
fixed_number v x = unless (eqb x v) 3

-- reserved bytes that are not zero are 5
abbrev pub reserved : ℕ → Judged
reserved v = unless (eqb v 0) 5

-- `8BPS`, 1, and six reserved bytes, which are one field
unfoldable pub start : Reader ℕ
start = do
  x ← judged 4 (fixed_number (chars "8BPS"))
  v ← judged 2 (fixed_number 1)
  judged 6 reserved

-- channels, height, width, depth and mode, which are not judged
unfoldable pub image : Reader ℕ
image = do
  c ← field 2
  h ← field 4
  w ← field 4
  d ← field 2
  field 2

-- the colour mode data, with its length
unfoldable pub colours : Reader (List ℕ)
colours = do
  n ← field 4
  body 1 n

-- the section's length, 1 at 0 where it passes the limit; then its bytes: the place of the first, and their number
unfoldable pub resources_in : Reader (ℕ × ℕ)
resources_in s at =
    then (field 4 s at) (λ n q.
    rule (unless (leb n limit) 1) 0
    (then (body 1 n s q) (λ l r. ok (q, n) r)))

unfoldable pub document : List ℕ → Res (ℕ × ℕ)
document s =
    then (start s 0) (λ x p.
    then (image s p) (λ y q.
    then (colours s q) (λ z r. resources_in s r)))
