use Prim.Native.Nat.{◌+◌, ◌-◌}
use lib.ListN.{length}
use mathlib.Core.Path.{◌≡◌}
use Rattle.algebra.specs.Reader.{ok}
use Rattle.resource_read.specs.scaffold.Parts.{rest, Sound}
use Rattle.resource_read.specs.Table.{record_in}
use Rattle.resource_read.proofs.nth.Given as goal

abbrev pub invariant-loop-k : goal.invariant-loop-k
invariant-loop-k l = Sound l.file l.at × (l._k + length (rest l.file l.at) ≡ length (rest l.file 0)) × (record_in l.i (ok (rest l.file 0) 0) ≡ record_in (l.i - l._k) (ok (rest l.file l.at) 0))
