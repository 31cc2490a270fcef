use Prim.Native.Nat.{◌-◌, ◌≤◌}
use mathlib.Core.Path.{◌≡◌}
use lib.ListN.{length}
use Rattle.aco_walk.specs.Walking.{first_place, walk}
use Rattle.listing.specs.Buffer.{put_all}
use Rattle.listing.specs.Text.{lines}
use Rattle.walk.specs.scaffold.Walk.{given}
use Rattle.aco_list.specs.Listing.{line}
use Rattle.aco_list.proofs.put_colours.Given as goal

abbrev pub invariant-loop-i : goal.invariant-loop-i
invariant-loop-i l = (l.i ≤ l.colours) × (length l.out ≡ length l.initial.out) × (put_all (l.initial.out, l.n) (lines line 0 (given (walk l.file) l.colours (first_place l.file))) ≡ put_all (l.out, l.at) (lines line l.i (given (walk l.file) (l.colours - l.i) l.p)))
