-- What each answer of the code says.
use Rattle.std.specs.Prelude.{ℕ, Result, Ok, Err}
use Rattle.algebra.specs.Table.{Verdict, accepted, refused}
use Rattle.fault.specs.Fault.{number_of}
use Rattle.fault.specs.declared.Refusal.{Refusal}

-- a number, or the refusal
abbrev pub told : Result ℕ Refusal → Verdict ℕ
told (Ok n) = accepted n
told (Err e) = refused (number_of e.0) e.1 0 0
