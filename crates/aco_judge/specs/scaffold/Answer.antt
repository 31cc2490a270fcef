-- Scaffolding: the form in which the code goes; cited by private contracts and by proofs.
use Rattle.std.specs.Prelude.{ℕ, Result, Ok, Err}
use Rattle.algebra.specs.Reader.{Res, ok, refuse}
use Rattle.fault.specs.Fault.{number_of}
use Rattle.aco_judge.specs.declared.Rejection.{Rejection}
use Rattle.aco_judge.specs.declared.Rejection.TheVariants as rejection

-- a rejection, as reading refuses
abbrev pub refused_as : {A : Type 0} → Rejection → Res A
refused_as (rejection.Refused e) = refuse (number_of e.0) e.1 0 0
refused_as (rejection.Differ p r f) = refuse 7 p r f

-- the next place, where list 2 repeats list 1
abbrev pub told_repeated : Result ℕ Rejection → Res Unit
told_repeated (Ok n) = ok tt n
told_repeated (Err e) = refused_as e
