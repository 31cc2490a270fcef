-- What an exported answer about a run of samples or channels says: number 0 is converted, with position 0.
use Rattle.std.specs.Prelude.{ℕ, List}
use Rattle.conversion.specs.Convert.{Converted, gives, refused}
use Rattle.khuyurek.specs.declared.trays.TrayAnswer.{TrayAnswer}

abbrev pub tray_of : Converted Unit → TrayAnswer
tray_of (gives u) = record { number = 0; position = 0 }
tray_of (refused n k) = record { number = n; position = k }

-- an answer, and what the lent run then holds
abbrev pub filled_of : Converted Unit × List ℕ → TrayAnswer × List ℕ
filled_of v = (tray_of v.0, v.1)
