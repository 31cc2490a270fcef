-- Scaffolding: the form in which the code goes; cited by private contracts and by proofs.
use Rattle.std.specs.Prelude.{ℕ, List}
use Rattle.algebra.specs.Table.{rows}
use Rattle.resource.specs.Rows.{width, taken}
use Rattle.resource.specs.declared.Record.{Record}

-- the n records from record k
abbrev pub givens : List ℕ → ℕ → ℕ → List Record
givens run n k = rows width taken run n k
