-- The name of the record at a place of a file, for any place.
use Rattle.std.specs.Prelude.{ℕ, ◌+◌, ◌-◌, ◌/◌, List, leb, length}
use Rattle.algebra.specs.Numbers.{num, nums}
use Rattle.algebra.specs.Reader.{pick}

-- how many units the name of the record at a place has: what its count says, as far as the file holds them; none where no count stands
abbrev pub units_at : List ℕ → ℕ → ℕ
units_at s p = pick (leb (p + 4) (length s)) (pick (leb (num 4 s p) ((length s - 4 - p) / 2)) (num 4 s p) ((length s - 4 - p) / 2)) 0

-- its units
abbrev pub name_at : List ℕ → ℕ → List ℕ
name_at s p = nums 2 (units_at s p) s (p + 4)
