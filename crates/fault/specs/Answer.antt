-- What an answer of the code says: a value, or a refusal.
use Rattle.std.specs.Prelude.{ℕ, Result, Ok, Err}
use Rattle.algebra.specs.Reader.{Res, ok, refuse}
use Rattle.algebra.specs.Writing.{Outcome, bytes, refused}
use Rattle.fault.specs.Fault.{number_of}
use Rattle.fault.specs.declared.Fault.{Fault}
use Rattle.fault.specs.declared.Refusal.{Refusal}

-- what k says of the value; or the refusal's number and place
abbrev pub told : {A B : Type 0} → (A → Res B) → Result A Refusal → Res B
told k (Ok a) = k a
told k (Err e) = refuse (number_of e.0) e.1 0 0

-- the next place
abbrev pub told_end : Result ℕ Refusal → Res Unit
told_end r = told (λ n. ok tt n) r

-- a value and the next place
abbrev pub told_at : {A B : Type 0} → (A → B) → Result (A × ℕ) Refusal → Res B
told_at value r = told (λ x. ok (value x.0) x.1) r

-- what a writer answers: how many bytes; or the refusal's number, at place 0
abbrev pub told_written : Result ℕ Fault → Outcome
told_written (Ok n) = bytes n
told_written (Err f) = refused (number_of f) 0
