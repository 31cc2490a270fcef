use Prim.Native.Nat.{◌-◌, ◌≤◌}
use mathlib.Core.Path.{◌≡◌}
use mathlib.Core.List.{map}
use lib.ListN.{length}
use lib.Seq.{sets}
use Rattle.algebra.specs.Numbers.{joined}
use Rattle.algebra.specs.Table.{rows}
use Rattle.aco.specs.Grammar.{entry_bytes}
use Rattle.aco.specs.Row.{width, taken}
use Rattle.aco_writing.specs.Writing.{swatch_in}
use Rattle.aco_write_judge.specs.scaffold.Parts.{EntriesFit}
use Rattle.aco_write.proofs.put_entries.Given as goal

abbrev pub invariant-loop-i : goal.invariant-loop-i
invariant-loop-i l =
    (l.i ≤ l.n) × (sets l.initial.out l.at (joined entry_bytes (map (swatch_in l.text) (rows width taken l.run l.n 0))) ≡ sets l.out l.p (joined entry_bytes (map (swatch_in l.text) (rows width taken l.run (l.n - l.i) l.i))))
    × EntriesFit l.text (rows width taken l.run (l.n - l.i) l.i) l.p (length l.initial.out) × (length l.out ≡ length l.initial.out)
