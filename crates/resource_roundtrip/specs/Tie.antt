-- What the theorems say of a section, and of records that are given to a writer.
use Rattle.std.specs.Prelude.{ℕ, ◌+◌, ◌≤◌, ◌<◌, ◌≡◌, List, map, length}
use Rattle.algebra.specs.Reader.{ok}
use Rattle.resource.specs.Grammar.{Block, section_bytes}
use Rattle.resource.specs.Reading.{Entry, block_of, resources}
use Rattle.resource.specs.Rows.{to_record}
use Rattle.resource.specs.declared.Record.{Record}
use Rattle.resource_writing.specs.Writing.{block_by_row}

-- the section b is accepted to its end, and holds the blocks bs
abbrev pub Holds : List ℕ → List Block → Type 0
Holds b bs = (es : List Entry) × (resources b ≡ ok es (length b)) × (map block_of es ≡ bs)

-- the bytes that are made of given records, whose names and data lie in `text`
abbrev pub made : List ℕ → List Record → List ℕ
made text rs = section_bytes (map (block_by_row text) rs)

-- the records of a section that was read, as they are given to a writer
abbrev pub tabled : List Entry → List Record
tabled es = map to_record es

-- given records that fit their fields: the ID 16 bits, the name's length a byte, and both parts, unless they are empty, lie in `text`
pub record Fitting (text : List ℕ) (r : Record) : Type 0 where
  pub id : r.id < 65536
  pub letters : r.letters < 256
  pub name : 0 < r.letters → r.name + r.letters ≤ length text
  pub payload : 0 < r.size → r.payload + r.size ≤ length text
