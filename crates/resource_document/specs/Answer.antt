-- What the answer of the code says.
use Rattle.std.specs.Prelude.{ℕ, Result, Ok, Err}
use Rattle.algebra.specs.Table.{Verdict, accepted, refused}
use Rattle.fault.specs.Fault.{number_of}
use Rattle.fault.specs.declared.Refusal.{Refusal}
use Rattle.resource_document.specs.declared.Section.{Section}

-- the place of the section's first byte, and its length
abbrev pub told : Result Section Refusal → Verdict (ℕ × ℕ)
told (Ok x) = accepted (x.first, x.size)
told (Err e) = refused (number_of e.0) e.1 0 0
