-- Names as parts of a file.
use Rattle.std.specs.Prelude.{ℕ, ◌+◌, ◌*◌, List, [], length, leb}
use Rattle.algebra.specs.Reader.{pick}
use Rattle.algebra.specs.Store.{part}

-- the bytes of a number of units from a place; none where they do not lie inside the file
abbrev pub name_part : List ℕ → ℕ → ℕ → List ℕ
name_part s place units = pick (leb (place + 2 * units) (length s)) (part s place (2 * units)) []
