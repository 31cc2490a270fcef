-- Scaffolding: the form in which the code goes; cited by private contracts and by proofs.
use Rattle.std.specs.Prelude.{ℕ, ◌≡◌, List}
use Rattle.algebra.specs.Reader.{ok}
use Rattle.ase.specs.Reading.{Entry}
use Rattle.ase_walk.specs.Walking.{block_from}

-- a block ends there
abbrev pub Stands : List ℕ → ℕ → ℕ → Type 0
Stands s at end = (e : Entry) × (block_from s at ≡ ok e end)
