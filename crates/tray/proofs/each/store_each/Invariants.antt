use mathlib.Core.Path.{◌≡◌}
use mathlib.Core.List.{map}
use lib.ListN.{drop}
use lib.Seq.{sets}
use Rattle.tray.specs.scaffold.Parts.{Gives}
use Rattle.tray.proofs.each.store_each.Given as goal

abbrev pub invariant-loop-i : goal.invariant-loop-i
invariant-loop-i g l =
    (f : _) → Gives (goal.F-post g l.becomes) f l.from → sets l.initial.out 0 (map f l.from) ≡ sets l.out l.i (drop l.i (map f l.from))
