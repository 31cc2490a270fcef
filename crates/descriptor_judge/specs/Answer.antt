-- What each answer of the code says.
use Rattle.std.specs.Prelude.{ℕ, List, Result, Ok, Err, length}
use Rattle.algebra.specs.Reader.{Res, ok, refuse}
use Rattle.descriptor.specs.Reading.{Row}
use Rattle.fault.specs.Fault.{number_of}
use Rattle.fault.specs.declared.Refusal.{Refusal}

-- accepted: the number of rows; refused: number and place
pub data Verdict : Type 0 where
  accepted : ℕ → Verdict
  refused : ℕ → ℕ → Verdict

-- the verdict on a file
abbrev pub verdict : Res (List Row) → Verdict
verdict (ok rs q) = accepted (length rs)
verdict (refuse x p r f) = refused x p

abbrev pub told : Result ℕ Refusal → Verdict
told (Ok n) = accepted n
told (Err e) = refused (number_of e.0) e.1
