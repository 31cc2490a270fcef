-- What an answer of the code says.
use Rattle.std.specs.Prelude.{Result, Ok, Err}
use Rattle.fault.specs.Fault.{number_of}
use Rattle.fault.specs.declared.Fault.{Fault}
use Rattle.conversion.specs.Convert.{Converted, gives, refused}

-- the value; or the refusal's number, at place 0
abbrev pub told : {A : Type 0} → Result A Fault → Converted A
told (Ok x) = gives x
told (Err f) = refused (number_of f) 0
