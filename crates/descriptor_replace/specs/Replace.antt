-- One value of a descriptor replaced.
use Rattle.std.specs.Prelude.{ℕ, ◌+◌, Bool, false, List, [], ◌++◌, leb, eqb, length, take, drop}
use Rattle.std.specs.Float.{binary64}
use Rattle.std.specs.Float.Ieee.{of_bits}
use Rattle.std.specs.Float.Ieee.Scale.{finite}
use Rattle.algebra.specs.Chars.{chars}
use Rattle.algebra.specs.Numbers.{be}
use Rattle.algebra.specs.Reader.{Res, ok, refuse, pick}
use Rattle.descriptor.specs.Reading.{is_unit, Row}
use Rattle.descriptor_columns.specs.Columns.{columns_of}
use Rattle.descriptor_read.specs.Values.{RowAnswer, found, missing, row_at}
use Rattle.descriptor_check.specs.Check.{begins_all}
use Rattle.descriptor_replace.specs.declared.Replacement.{Replacement}
use Rattle.descriptor_replace.specs.declared.Replacement.TheVariants as vr

-- ---- the value

-- the kind is the value's; a value of no kind that can be replaced is no row's
abbrev pub is_kind : ℕ → Replacement → Bool
is_kind k (vr.Bool b) = eqb k (chars "bool")
is_kind k (vr.Long n) = eqb k (chars "long")
is_kind k (vr.Comp n) = eqb k (chars "comp")
is_kind k (vr.Double n) = eqb k (chars "doub")
is_kind k (vr.UnitDouble u n) = eqb k (chars "UntF")
is_kind k vr.Other = false

-- what the reader refuses it for, 0 for nothing: a `bool` above 1 by 5, a `long` that 32 bits do not hold by 5, a double that is not finite by 5, and before that an unknown unit by 4
abbrev pub fault_of : Replacement → ℕ
fault_of (vr.Bool b) = pick (leb b 1) 0 5
fault_of (vr.Long n) = pick (leb n 4294967295) 0 5
fault_of (vr.Comp n) = 0
fault_of (vr.Double n) = pick (finite (of_bits binary64 n)) 0 5
fault_of (vr.UnitDouble u n) = pick (is_unit u) (pick (finite (of_bits binary64 n)) 0 5) 4
fault_of vr.Other = 0

-- its bytes
abbrev pub bytes_of : Replacement → List ℕ
bytes_of (vr.Bool b) = be 1 b
bytes_of (vr.Long n) = be 4 n
bytes_of (vr.Comp n) = be 8 n
bytes_of (vr.Double n) = be 8 n
bytes_of (vr.UnitDouble u n) = be 4 u ++ be 8 n
bytes_of vr.Other = []

-- ---- the file

-- the file with the bytes of v where the row's value begins; where there is no row, as it is
abbrev pub new_file : (s : List ℕ) → RowAnswer → Replacement → List ℕ
new_file s (found r) v = take r.value s ++ (bytes_of v ++ drop (r.value + length (bytes_of v)) s)
new_file s (missing x p) v = s

-- ---- refusals, in their order: the number, 0 for none

-- 12 where there is no such row; 14 where its kind is another; then the value's own
abbrev pub row_fault : RowAnswer → Replacement → ℕ
row_fault (found r) v = pick (is_kind r.kind v) (fault_of v) 14
row_fault (missing x p) v = x

-- before that the file's own, and 5 where the table does not begin with its rows
abbrev pub fault : Res (List Row) → (first length next depth kind : List ℕ) → (row : ℕ) → Replacement → ℕ
fault (ok rs q) a b n d e row v = pick (begins_all (columns_of rs) a b n d e) (row_fault (row_at row rs) v) 5
fault (refuse x p r f) a b n d e row v = x
