-- What each answer of the code says.
use Rattle.std.specs.Prelude.{ℕ, ⊤, Result, Ok, Err}
use Rattle.palette.specs.Answer.{IsExact}
use Rattle.palette_compare.specs.Compare.{Comparison, compared, refused_by}
use Rattle.fault.specs.Fault.{number_of}
use Rattle.aco_judge.specs.declared.Rejection.{Rejection}
use Rattle.aco_judge.specs.declared.Rejection.TheVariants as rejection
use Rattle.palette_compare.specs.declared.Comparison.{Comparison as Counted}
use Rattle.palette_compare.specs.declared.CompareError.{CompareError}
use Rattle.palette_compare.specs.declared.CompareError.TheVariants as error
use Rattle.palette_compare.specs.declared.Difference.{Difference}
use Rattle.palette_compare.specs.declared.Difference.TheVariants as difference

-- the rejection of file w
abbrev pub rejected_by : ℕ → Rejection → Comparison
rejected_by w (rejection.Refused e) = refused_by w (number_of e.0) e.1 0 0
rejected_by w (rejection.Differ p r f) = refused_by w 7 p r f

abbrev pub told_error : CompareError → Comparison
told_error (error.First r) = rejected_by 1 r
told_error (error.Second r) = rejected_by 2 r
told_error error.NoRoom = refused_by 0 11 0 0 0

abbrev pub told : Result Counted CompareError → Comparison
told (Ok c) = compared c.positions c.differences
told (Err e) = told_error e

-- that a file's lists differ is said in one way, with record and field; so two files have one answer
abbrev pub IsExactError : CompareError → Type 0
IsExactError (error.First r) = IsExact r
IsExactError (error.Second r) = IsExact r
IsExactError error.NoRoom = ⊤

abbrev pub Exact : Result Counted CompareError → Type 0
Exact (Ok c) = ⊤
Exact (Err e) = IsExactError e

-- a position's kind, as its row has it
abbrev pub told_kind : Difference → ℕ
told_kind difference.Same = 0
told_kind difference.Name = 1
told_kind difference.Colour = 2
told_kind difference.Both = 3
told_kind difference.OnlyFirst = 4
told_kind difference.OnlySecond = 5
