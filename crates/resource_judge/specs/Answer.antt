-- What each answer of the code says.
use Rattle.std.specs.Prelude.{ℕ, Result, Ok, Err}
use Rattle.algebra.specs.Reader.{Res}
use Rattle.algebra.specs.Table.{Verdict, accepted, refused}
use Rattle.fault.specs.Fault.{number_of}
use Rattle.fault.specs.Answer.{told_at}
use Rattle.fault.specs.declared.Refusal.{Refusal}
use Rattle.resource.specs.declared.Record.{Record}

-- what is reported, as the number of blocks; refused: number and place
abbrev pub told : {A : Type 0} → Result A Refusal → Verdict A
told (Ok a) = accepted a
told (Err e) = refused (number_of e.0) e.1 0 0

-- a block's record and the place behind the block
abbrev pub told_found : Result (Record × ℕ) Refusal → Res Record
told_found r = told_at (λ (x : Record). x) r
