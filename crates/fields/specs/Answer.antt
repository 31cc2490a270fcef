-- What an answer says whose refusal has a number of the caller's own.
use Rattle.std.specs.Prelude.{ℕ, Result, Ok, Err}
use Rattle.algebra.specs.Reader.{Res, ok, refuse}

-- the next place; or the refusal's number and place
abbrev pub told_numbered : Result ℕ (ℕ × ℕ) → Res Unit
told_numbered (Ok n) = ok tt n
told_numbered (Err e) = refuse e.0 e.1 0 0
