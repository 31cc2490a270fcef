use Prim.Native.Nat.{◌-◌, ◌*◌, ◌≤◌}
use mathlib.Core.Path.{◌≡◌}
use lib.ListN.{length, replicate}
use lib.Seq.{sets}
use Rattle.palette_compare.specs.Compare.{rows}
use Rattle.palette_compare.specs.Answer.{told_kind}
use Rattle.palette_compare.proofs.fill_rest.Given as goal

abbrev pub invariant-loop-i : goal.invariant-loop-i
invariant-loop-i l = (l.i ≤ l.to) × (length l.table ≡ length l.initial.table) × (sets l.initial.table (2 * l.from) (rows l.from (replicate (l.to - l.from) (told_kind l.kind))) ≡ sets l.table (2 * l.i) (rows l.i (replicate (l.to - l.i) (told_kind l.kind))))
