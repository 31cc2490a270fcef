-- Whether a table begins with the rows of a file.
use Rattle.std.specs.Prelude.{ℕ, Bool, true, false, List, [], ◌∷◌, Option, Some, None, Result, Ok, Err, eqb, length}
use Rattle.algebra.specs.Reader.{Res, ok, refuse, pick}
use Rattle.descriptor.specs.Reading.{Row}
use Rattle.descriptor_columns.specs.Columns.{Columns, columns_of}
use Rattle.fault.specs.Fault.{number_of}
use Rattle.fault.specs.declared.Refusal.{Refusal}

-- the run begins with the column: it has every number of it, in its place; what follows counts for nothing
unfoldable pub begins : (column run : List ℕ) → Bool
begins [] run = true
begins (x ∷ column) [] = false
begins (x ∷ column) (y ∷ run) = pick (eqb y x) (begins column run) false

-- five runs begin with the columns
abbrev pub begins_all : Columns → (first length next depth kind : List ℕ) → Bool
begins_all c a b n d e =
    pick (begins c.firsts a) (pick (begins c.lengths b) (pick (begins c.nexts n) (pick (begins c.depths d) (begins c.kinds e) false) false) false) false

-- the table begins with so many rows, the file's; it does not; the file's refusal
pub data Check : Type 0 where
  same : ℕ → Check
  differs : Check
  refused : ℕ → ℕ → Check

abbrev pub told : Result (Option ℕ) Refusal → Check
told (Ok (Some n)) = same n
told (Ok None) = differs
told (Err e) = refused (number_of e.0) e.1

abbrev pub checked : Res (List Row) → (first length next depth kind : List ℕ) → Check
checked (ok rs q) a b n d e = pick (begins_all (columns_of rs) a b n d e) (same (length rs)) differs
checked (refuse x p r f) a b n d e = refused x p
