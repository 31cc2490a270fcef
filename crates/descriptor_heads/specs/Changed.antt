-- Two files that differ in the value of one row.
use Rattle.std.specs.Prelude.{ℕ, ◌+◌, ◌≤◌, ◌<◌, ◌≡◌, List, [], ◌∷◌, length, get_or}
use Rattle.algebra.specs.Chars.{chars}
use Rattle.algebra.specs.Refusal.{Of}
use Rattle.descriptor.specs.Reading.{Row}

-- the kinds whose value has one length, whatever it is: `bool`, `long`, `comp`, `doub`, `UntF`
abbrev pub scalars : List ℕ
scalars = chars "bool" ∷ chars "long" ∷ chars "comp" ∷ chars "doub" ∷ chars "UntF" ∷ []

-- a row, and rows among which it is
pub data OneOf (r : Row) : List Row → Type 0 where
  here : {q : Row} {rs : List Row} → q ≡ r → OneOf r (q ∷ rs)
  later : {q : Row} {rs : List Row} → OneOf r rs → OneOf r (q ∷ rs)

-- the file u has the length of s, and its bytes, outside the value of a row r of such a kind
pub record Changed (s u : List ℕ) (r : Row) : Type 0 where
  pub kind : Of scalars r.kind
  pub size : length u ≡ length s
  pub before : (i : ℕ) → i < r.value → get_or u i 0 ≡ get_or s i 0
  pub behind : (i : ℕ) → r.first + r.size ≤ i → get_or u i 0 ≡ get_or s i 0
