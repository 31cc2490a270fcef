-- What each answer of the code says.
use Rattle.std.specs.Prelude.{ℕ, ◌≡◌, ⊤, Result, Ok, Err}
use Rattle.algebra.specs.Table.{Verdict, accepted}
use Rattle.aco_judge.specs.Answer.{rejected}
use Rattle.aco_judge.specs.declared.Rejection.{Rejection}
use Rattle.aco_judge.specs.declared.Rejection.TheVariants as rejection
use Rattle.fault.specs.declared.Fault.TheVariants as fault

-- what is reported of an accepted palette: the number of its colours; of a refused one number, place and, for 7, record and field
abbrev pub told : Result ℕ Rejection → Verdict ℕ
told (Ok n) = accepted n
told (Err e) = rejected e

-- that lists differ is said in one way, with record and field; so each file has one answer
abbrev pub IsExact : Rejection → Type 0
IsExact (rejection.Refused e) = e.0 ≡ fault.ListsDiffer → ⊥
IsExact (rejection.Differ p r f) = ⊤

abbrev pub Exact : Result ℕ Rejection → Type 0
Exact (Ok n) = ⊤
Exact (Err e) = IsExact e
