-- What an answer of the code says.
use Rattle.std.specs.Prelude.{Result, Ok, Err}
use Rattle.fault.specs.Fault.{number_of}
use Rattle.fault.specs.declared.Refusal.{Refusal}
use Rattle.conversion.specs.Convert.{Converted, gives, refused}

-- all are converted; or the refusal's number, and its position in the place's stead
abbrev pub told : Result Unit Refusal → Converted Unit
told (Ok u) = gives tt
told (Err e) = refused (number_of e.0) e.1
