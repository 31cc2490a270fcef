-- What the answer of the code says.
use Rattle.std.specs.Prelude.{ℕ, Result}
use Rattle.algebra.specs.Reader.{Res}
use Rattle.fault.specs.Answer.{told_at}
use Rattle.fault.specs.declared.Refusal.{Refusal}
use Rattle.names.specs.declared.Name.{Name}

-- a name's first unit and its number of units, and the next place; or a refusal's number and place
abbrev pub told_name : Result (Name × ℕ) Refusal → Res (ℕ × ℕ)
told_name r = told_at (λ (n : Name). (n.first, n.units)) r
