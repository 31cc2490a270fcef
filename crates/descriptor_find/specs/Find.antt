-- Keys looked up among the pairs of the root.
use Rattle.std.specs.Prelude.{ℕ, ◌+◌, Bool, true, false, List, [], ◌∷◌, Result, Ok, Err, map, leb, eqb, length}
use Rattle.algebra.specs.Reader.{Res, ok, refuse, Reader, pick, field, body, give, ◌>>=◌, at_end, many}
use Rattle.descriptor.specs.Reading.{Row}
use Rattle.descriptor_columns.specs.Columns.{columns_of}
use Rattle.descriptor_columns.specs.Filled.{onto}
use Rattle.descriptor_check.specs.Check.{begins_all}
use Rattle.fault.specs.Fault.{number_of}
use Rattle.descriptor_find.specs.declared.Rejection.{Rejection}
use Rattle.descriptor_find.specs.declared.Rejection.TheVariants as rejection

-- ---- keys

-- a key is an ID: its length field, and its bytes
abbrev pub Key : Type 0
Key = ℕ × List ℕ

-- how many bytes follow a length field
abbrev pub body_size : ℕ → ℕ
body_size n = pick (eqb n 0) 4 n

unfoldable pub key : Reader Key
key = do
  n ← field 4
  b ← body 1 (body_size n)
  give (n, b)

-- the keys of a buffer, one after another to its end
unfoldable pub keys_of : List ℕ → Res (List Key)
keys_of b = many at_end (λ (u : Unit {0}) k. u) (λ u. key) tt b 0

unfoldable pub equal_bytes : List ℕ → List ℕ → Bool
equal_bytes [] [] = true
equal_bytes [] (y ∷ ys) = false
equal_bytes (x ∷ xs) [] = false
equal_bytes (x ∷ xs) (y ∷ ys) = pick (eqb x y) (equal_bytes xs ys) false

-- keys match by the same length field and the same bytes
abbrev pub matches : Key → Key → Bool
matches k j = pick (eqb k.0 j.0) (equal_bytes k.1 j.1) false

-- what was read is that key
abbrev pub has_key : Res Key → Key → Bool
has_key (ok k q) j = matches k j
has_key (refuse x p r f) j = false

-- ---- rows

-- a row is a pair of the root, and has that key, which stands at its first byte
abbrev pub is_member : List ℕ → Key → Row → Bool
is_member s k r = pick (eqb r.depth 1) (has_key (key s r.first) k) false

-- the number of the first of some rows that is one, the first row with the number i; n where none is
unfoldable pub look_up : (s : List ℕ) → Key → (n i : ℕ) → List Row → ℕ
look_up s k n i [] = n
look_up s k n i (r ∷ rs) = pick (is_member s k r) i (look_up s k n (i + 1) rs)

-- a look at all rows
abbrev pub row_of : List ℕ → List Row → Key → ℕ
row_of s rs k = look_up s k (length rs) 0 rs

-- ---- the call

-- so many keys were answered; a refusal's number and place; the same of a place of the keys
pub data Answered : Type 0 where
  answered : ℕ → Answered
  refused : ℕ → ℕ → Answered
  among_keys : ℕ → ℕ → Answered

abbrev pub told : Result ℕ Rejection → Answered
told (Ok n) = answered n
told (Err (rejection.Refused e)) = refused (number_of e.0) e.1
told (Err (rejection.InKeys e)) = among_keys (number_of e.0) e.1

-- with the answers, one for each key; 11 where the run has room for fewer; past them it keeps its contents
abbrev pub answering : List ℕ → List Row → Res (List Key) → (answers : List ℕ) → Answered × List ℕ
answering s rs (ok ks q) out = pick (leb (length ks) (length out)) (answered (length ks), onto (map (row_of s rs) ks) out) (refused 11 0, out)
answering s rs (refuse x p r f) out = (among_keys x p, out)

-- of a file s; 5 where the table does not begin with its rows
abbrev pub found : (s : List ℕ) → Res (List Row) → (first length next depth kind keys answers : List ℕ) → Answered × List ℕ
found s (ok rs q) a b n d e keys out = pick (begins_all (columns_of rs) a b n d e) (answering s rs (keys_of keys) out) (refused 5 0, out)
found s (refuse x p r f) a b n d e keys out = (refused x p, out)
