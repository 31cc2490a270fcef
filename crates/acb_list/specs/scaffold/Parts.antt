-- Scaffolding: the form in which the code goes; cited by private contracts and by proofs.
-- Lines by records as the code has them, for private contracts.
use Rattle.std.specs.Prelude.{ℕ, List, ◌++◌, take}
use Rattle.algebra.specs.Numbers.{joined}
use Rattle.acb.specs.Row.{RecordRow}
use Rattle.walk.specs.Names.{name_part}
use Rattle.listing.specs.Text.{ascii, decimal, word, name}

-- what stands behind the number of a record of n components
abbrev pub record_text : List ℕ → ℕ → RecordRow → List ℕ
record_text s n g = ascii " " ++ name g.code ++ joined word (take n g.components) ++ ascii " " ++ name (name_part s g.name.0 g.name.1) ++ ascii "\n"

abbrev pub given_line : List ℕ → ℕ → ℕ → RecordRow → List ℕ
given_line s n i g = decimal i ++ record_text s n g
