use mathlib.Core.Path.{◌≡◌}
use Prim.Native.Nat.{◌-◌, ◌≤◌}
use lib.ListN.{get_or}
use Rattle.algebra.specs.Reader.{done, each, then}
use Rattle.aco.specs.Reading.{repeated_field, zero_colour}
use Rattle.aco.specs.scaffold.Raw.{raw_colours}
use Rattle.aco_judge.proofs.Judging.{entry_of}
use Rattle.aco_judge.proofs.Repeating.{named}
use Rattle.aco_judge.proofs.entries_at.Given as goal

abbrev pub invariant-loop-f : goal.invariant-loop-f
invariant-loop-f l = (l.f ≤ 5) × (done (each l.n 0 (entry_of (raw_colours l.n l.file 4)) l.file l.at) ≡ then (done (each (5 - l.f) l.f (repeated_field l.i (get_or (raw_colours l.n l.file 4) l.i zero_colour)) l.file l.p)) (λ u q. named (raw_colours l.n l.file 4) l.n l.file l.i q))

abbrev pub decreases-loop-f : goal.decreases-loop-f
decreases-loop-f l = 5 - l.f

abbrev pub invariant-records : goal.invariant-records
invariant-records l = (l.i ≤ l.n) × (done (each l.n 0 (entry_of (raw_colours l.n l.file 4)) l.file l.at) ≡ done (each (l.n - l.i) l.i (entry_of (raw_colours l.n l.file 4)) l.file l.p))

abbrev pub decreases-records : goal.decreases-records
decreases-records l = l.n - l.i
