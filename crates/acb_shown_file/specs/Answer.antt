-- What each answer of the code says.
use Rattle.std.specs.Prelude.{ℕ, List, ℤ, Result, Ok, Err}
use Rattle.fault.specs.Fault.{number_of}
use Rattle.fault.specs.declared.Refusal.{Refusal}
use Rattle.acb_shown_file.specs.View.{CountAnswer, counted, refusal, no_values}
use Rattle.acb_shown_file.specs.declared.Components.{Components}

abbrev pub told_count : Result ℕ Refusal → CountAnswer
told_count (Ok n) = counted n
told_count (Err e) = refusal (number_of e.0) e.1

abbrev pub told_values : Components → List ℤ × CountAnswer
told_values w = (w.values, counted w.count)

abbrev pub told_components : Result Components Refusal → List ℤ × CountAnswer
told_components (Ok w) = told_values w
told_components (Err e) = (no_values, refusal (number_of e.0) e.1)
