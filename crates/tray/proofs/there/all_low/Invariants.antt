use mathlib.Core.Path.{◌≡◌}
use Rattle.tray.specs.scaffold.Parts.{Passed, low}
use Rattle.tray.proofs.there.all_low.Given as goal

abbrev pub invariant-loop-sample : goal.invariant-loop-sample
invariant-loop-sample l = (l.high ≡ 0 → Passed low l.samples l.sample-index)
