-- Two descriptors that differ in one number, and what is then the same in both.
use Rattle.std.specs.Prelude.{ℕ, ◌+◌, ◌≤◌, ◌<◌, ◌≡◌, List, [], ◌∷◌, length, get_or}
use Rattle.algebra.specs.Chars.{chars}
use Rattle.algebra.specs.Reader.{ok}
use Rattle.algebra.specs.Refusal.{Of}
use Rattle.descriptor.specs.Reading.{Row, descriptor}
use Rattle.descriptor_heads.specs.Changed.{OneOf}
use Rattle.descriptor_columns.specs.Columns.{columns_of, values_of, rows_of}
use Rattle.descriptor_columns.specs.Filled.{answered, filled}
use Rattle.descriptor_read.specs.Values.{RowAnswer, found, missing, row_in, place_of, value_in}
use Rattle.descriptor_read.specs.Typed.{typed_of}

-- ---- what is asked

-- the kinds of which a value is one number
abbrev pub numbers : List ℕ
numbers = chars "bool" ∷ chars "long" ∷ chars "comp" ∷ chars "doub" ∷ []

-- two files, of the rows rs and us, that differ only in the value bytes of r
pub record OneNumber (s u : List ℕ) (rs us : List Row) (r : Row) : Type 0 where
  -- both are accepted
  pub first : descriptor s ≡ ok rs (length s)
  pub second : descriptor u ≡ ok us (length u)
  -- they are of equal length
  pub size : length u ≡ length s
  -- r is a row of the first, of one of those kinds
  pub row : OneOf r rs
  pub kind : Of numbers r.kind
  -- all bytes before it are the same,
  pub before : (k : ℕ) → k < r.first → get_or u k 0 ≡ get_or s k 0
  -- its key and its type,
  pub key : (k : ℕ) → r.first ≤ k → k < r.value → get_or u k 0 ≡ get_or s k 0
  -- and all bytes behind it
  pub behind : (k : ℕ) → r.first + r.size ≤ k → get_or u k 0 ≡ get_or s k 0

-- ---- what is answered

-- the bytes of q contain those of r, and so a row holds itself
abbrev pub Holds : Row → Row → Type 0
Holds q r = (q.first ≤ r.first) × (r.first + r.size ≤ q.first + q.size)

-- a row that neither is nor holds r; where there is no row of a number, nothing is asked
abbrev pub Elsewhere : Row → RowAnswer → Type 0
Elsewhere r (found q) = Holds q r → ⊥
Elsewhere r (missing x p) = Unit {0}

-- what is the same of both
pub record Undisturbed (s u : List ℕ) (rs us : List Row) (r : Row) : Type 0 where
  -- the rows, and so r is a row of the second with its kind
  pub rows : us ≡ rs
  -- their columns, and the rows that the columns give
  pub columns : columns_of us ≡ columns_of rs
  pub given : rows_of (columns_of us) (values_of us) ≡ rows_of (columns_of rs) (values_of rs)
  -- what reading answers for any lent runs, and what each of these then holds, whichever column it is for
  pub answers : (runs : List (List ℕ)) → answered (descriptor u) runs ≡ answered (descriptor s) runs
  pub tables : (column : List Row → List ℕ) (runs : List (List ℕ)) (run : List ℕ) → filled column (descriptor u) runs run ≡ filled column (descriptor s) runs run
  -- where the value of every row lies
  pub places : (j : ℕ) → place_of (row_in j (descriptor u)) ≡ place_of (row_in j (descriptor s))
  -- and the value itself, its bytes and what its kind makes of them, of every row that neither is nor holds r
  pub value : (j : ℕ) → Elsewhere r (row_in j (descriptor s)) → value_in u (row_in j (descriptor u)) ≡ value_in s (row_in j (descriptor s))
  pub typed : (j : ℕ) → Elsewhere r (row_in j (descriptor s)) → typed_of u (row_in j (descriptor u)) ≡ typed_of s (row_in j (descriptor s))
