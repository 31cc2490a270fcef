use lib.Seq.{sets}
use lib.ListN.{length}
use mathlib.Core.List.{map}
use mathlib.Core.Path.{◌≡◌}
use Prim.Native.Nat.{◌+◌, ◌-◌, ◌≤◌}
use Rattle.algebra.specs.Numbers.{joined}
use Rattle.acb.specs.Grammar.{colour_bytes}
use Rattle.acb_writing.specs.Writing.{colour_in, sizes, size_within}
use Rattle.algebra.specs.Table.{rows}
use Rattle.acb.specs.Row.{width, taken}
use Rattle.acb_write_judge.specs.scaffold.Parts.{RecordsFit}
use Rattle.acb_write.proofs.put_colours.Given as goal

abbrev pub invariant-loop-i : goal.invariant-loop-i
invariant-loop-i l = (l.i ≤ l.count) × (sets l.initial.out l.at (joined colour_bytes (map (colour_in l.text l.n) (rows width taken l.run l.count 0))) ≡ sets l.out l.p (joined colour_bytes (map (colour_in l.text l.n) (rows width taken l.run (l.count - l.i) l.i))))
    × RecordsFit l.text l.n (rows width taken l.run (l.count - l.i) l.i) l.p (length l.initial.out) × (length l.out ≡ length l.initial.out) × (l.p + sizes (size_within l.n) (rows width taken l.run (l.count - l.i) l.i) ≡ l.at + sizes (size_within l.n) (rows width taken l.run l.count 0))
