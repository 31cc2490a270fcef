-- Scaffolding: a table that is the file's.
use Rattle.std.specs.Prelude.{ℕ, ◌≡◌, true, List, length}
use Rattle.algebra.specs.Reader.{ok}
use Rattle.descriptor.specs.Reading.{Row, descriptor}
use Rattle.descriptor_columns.specs.Columns.{columns_of}
use Rattle.descriptor_check.specs.Check.{begins}

-- the runs of first bytes, lengths and kinds begin with the columns of the n rows of s
pub record Owned (s first size kind : List ℕ) (n : ℕ) : Type 0 where
  pub rs : List Row
  pub q : ℕ
  pub reads : descriptor s ≡ ok rs q
  pub count : length rs ≡ n
  pub firsts : begins (columns_of rs).firsts first ≡ true
  pub lengths : begins (columns_of rs).lengths size ≡ true
  pub kinds : begins (columns_of rs).kinds kind ≡ true
