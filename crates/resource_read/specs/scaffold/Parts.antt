-- Scaffolding: what the parts of filling and searching take. No rule stands here.
use Rattle.std.specs.Prelude.{ℕ, ◌%◌, ◌≤◌, ◌<◌, ◌≡◌, List, [], length}
use Rattle.algebra.specs.Reader.{Res, ok, refuse, limit}
use Rattle.resource.specs.Reading.{Entry, blocks}
use Rattle.resource.specs.declared.Record.{Record}

abbrev pub entries_of : Res (List Entry) → List Entry
entries_of (ok es q) = es
entries_of (refuse x p r f) = []

-- the records of the blocks from `at`
abbrev pub rest : List ℕ → ℕ → List Entry
rest s at = entries_of (blocks s at)

-- the section is within the limit, and from `at`, an even place as all blocks are even, all is read to its end
pub record Sound (s : List ℕ) (at : ℕ) : Type 0 where
  pub short : length s ≤ limit
  pub inside : at ≤ length s
  pub even : at % 2 ≡ 0
  pub reads : blocks s at ≡ ok (rest s at) (length s)

-- numbers that fit a table
pub record Small (r : Record) : Type 0 where
  pub name : r.name < 4294967296
  pub letters : r.letters < 4294967296
  pub payload : r.payload < 4294967296
  pub size : r.size < 4294967296
