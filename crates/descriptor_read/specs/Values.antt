-- A row by its number, and its value.
use Rattle.std.specs.Prelude.{ℕ, zero, suc, ◌+◌, ◌-◌, List, [], ◌∷◌, Result, Ok, Err}
use Rattle.algebra.specs.Reader.{Res, ok, refuse}
use Rattle.algebra.specs.Store.{part}
use Rattle.descriptor.specs.Reading.{Row}
use Rattle.fault.specs.Fault.{number_of}
use Rattle.fault.specs.declared.Refusal.{Refusal}
use Rattle.descriptor_read.specs.declared.Span.{Span}

-- a row, or a refusal's number and place
pub data RowAnswer : Type 0 where
  found : Row → RowAnswer
  missing : ℕ → ℕ → RowAnswer

-- the row k of some rows; 12 where there is none
abbrev pub row_at : ℕ → List Row → RowAnswer
row_at k [] = missing 12 0
row_at zero (r ∷ rs) = found r
row_at (suc k) (r ∷ rs) = row_at k rs

-- the same of a file: its own refusal comes first
abbrev pub row_in : ℕ → Res (List Row) → RowAnswer
row_in k (ok rs q) = row_at k rs
row_in k (refuse x p r f) = missing x p

-- a value runs from where it begins to its row's end
abbrev pub value_size : Row → ℕ
value_size r = r.first + r.size - r.value

-- ---- where a value lies

-- its first byte and its length, or a refusal's number and place
pub data Place : Type 0 where
  span : ℕ → ℕ → Place
  refusal : ℕ → ℕ → Place

abbrev pub place_of : RowAnswer → Place
place_of (found r) = span r.value (value_size r)
place_of (missing x p) = refusal x p

abbrev pub told_value : Result Span Refusal → Place
told_value (Ok w) = span w.first w.length
told_value (Err e) = refusal (number_of e.0) e.1

-- the bytes of a value; none where there is no row
abbrev pub value_in : List ℕ → RowAnswer → List ℕ
value_in s (found r) = part s r.value (value_size r)
value_in s (missing x p) = []
