-- What each answer of the code says.
use Rattle.std.specs.Prelude.{ℕ, Result, Ok, Err, length}
use Rattle.algebra.specs.Table.{Verdict, accepted, refused}
use Rattle.fault.specs.Fault.{number_of}
use Rattle.aco.specs.Reading.{Contents}
use Rattle.aco_judge.specs.declared.Counts.{Counts}
use Rattle.aco_judge.specs.declared.Rejection.{Rejection}
use Rattle.aco_judge.specs.declared.Rejection.TheVariants as rejection

-- what is reported of an accepted file: the number of colours and of lists
abbrev pub report : Contents → ℕ × ℕ
report c = (length c.records, c.lists)

-- why a file is not accepted
abbrev pub rejected : {A : Type 0} → Rejection → Verdict A
rejected (rejection.Refused e) = refused (number_of e.0) e.1 0 0
rejected (rejection.Differ p r f) = refused 7 p r f

abbrev pub told : Result Counts Rejection → Verdict (ℕ × ℕ)
told (Ok c) = accepted (c.colours, c.lists)
told (Err e) = rejected e
