use mathlib.Core.Path.{◌≡◌}
use Rattle.tray.specs.scaffold.Parts.{Passed, unit}
use Rattle.tray.proofs.back.all_unit.Given as goal

abbrev pub invariant-loop-channel : goal.invariant-loop-channel
invariant-loop-channel l = (l.any ≡ 0 → Passed unit l.bits l.channel-index)
