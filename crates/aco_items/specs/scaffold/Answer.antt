-- Scaffolding: the form in which the code goes; cited by private contracts and by proofs.
use Rattle.std.specs.Prelude.{ℕ, Result, Ok, Err}
use Rattle.algebra.specs.Reader.{Res, ok, refuse}
use Rattle.fault.specs.Fault.{number_of}
use Rattle.fault.specs.declared.Refusal.{Refusal}
use Rattle.aco_items.specs.declared.Flaw.{Flaw}

-- a refusal that names no record
abbrev pub flawed : Refusal → Flaw
flawed e = record { fault = e.0; place = e.1; rec = 0; field = 0 }

abbrev pub told_item : Result (ℕ × ℕ) Flaw → Res ℕ
told_item (Ok x) = ok x.0 x.1
told_item (Err e) = refuse (number_of e.fault) e.place e.rec e.field
