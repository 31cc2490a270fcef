-- What the theorems say of a file, and of a record that is given to a writer.
use Rattle.std.specs.Prelude.{ℕ, ◌+◌, ◌*◌, ◌^◌, ◌≤◌, ◌<◌, ◌≡◌, List, map, length}
use Rattle.algebra.specs.Numbers.{joined, All}
use Rattle.algebra.specs.Reader.{ok}
use Rattle.aco.specs.Grammar.{two_lists}
use Rattle.aco.specs.Reading.{Contents, aco}
use Rattle.algebra.specs.Table.{whole}
use Rattle.aco.specs.Row.{RecordRow, width, taken, row, Record, to_record}
use Rattle.aco_writing.specs.Writing.{swatch_in}

-- the file b is accepted to its end, with l lists, and holds the records rs
abbrev pub Holds : List ℕ → ℕ → List Record → Type 0
Holds b l rs = (c : Contents) × (aco b ≡ ok c (length b)) × (c.lists ≡ l) × (map to_record c.records ≡ rs)

-- the bytes that are made of given records, whose names lie in `text`
abbrev pub made : List ℕ → List RecordRow → List ℕ
made text gs = two_lists (map (swatch_in text) gs)

-- the records of a file that was read, given to a writer by the table that `read` fills
abbrev pub tabled : Contents → List RecordRow
tabled c = whole width taken (joined row c.records)

-- a given record's numbers fit their fields, and its name, unless it is empty, lies in `text`; it may be refused all the same. Its ink is not stated, since what another is refused by has no counterpart in a file (14)
pub record Fitting (text : List ℕ) (g : RecordRow) : Type 0 where
  pub small : g.space < 65536
  pub four : length g.samples ≡ 4
  pub each_small : All (λ k v. v < 65536) 0 g.samples
  pub counted : g.units + 1 < 256 ^ 4
  pub unstated : g.ink ≡ 4
  pub inside : 0 < g.units → g.first + 2 * g.units ≤ length text
