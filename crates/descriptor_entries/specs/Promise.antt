-- What is promised of the entries of an accepted file.
use Rattle.std.specs.Prelude.{ℕ, ◌≡◌, List, length}
use Rattle.descriptor_entry.specs.Entries.{Words, given, build_fault, made}
use Rattle.descriptor_entries.specs.Taken.{entries}
use Rattle.descriptor_entries.specs.Answered.{numbers}

-- they are as many as its rows, are built without a fault, with the file as their text, and make that file; as numbers of 32 bits one after the other they are the same entries
pub record Builds (s : List ℕ) (rows : ℕ) : Type 0 where
  pub count : length (entries s) ≡ rows
  pub faultless : build_fault s (entries s) ≡ 0
  pub same : made s (entries s) ≡ s
  pub back : given (numbers (entries s)) ≡ entries s
  pub words : Words (numbers (entries s))
