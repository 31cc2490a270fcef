use Prim.Native.Nat.{◌-◌, ◌/◌, ◌≤◌}
use mathlib.Core.Path.{◌≡◌}
use lib.ListN.{length}
use Rattle.acb_shown_values.specs.Texts.{behind_equals}
use Rattle.acb_shown_values.proofs.text.behind_equals.Given as goal

abbrev pub invariant-loop-unit : goal.invariant-loop-unit
invariant-loop-unit l = (l.at ≤ length l.string) × (behind_equals (length l.string / 2) l.string 0 ≡ behind_equals ((length l.string - l.at) / 2) l.string l.at)

abbrev pub decreases-loop-unit : goal.decreases-loop-unit
decreases-loop-unit l = length l.string - l.at
