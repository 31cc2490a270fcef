use Prim.Native.Nat.{◌≤◌}
use lib.ListN.{length, take, drop}
use mathlib.Core.Path.{◌≡◌}
use Rattle.algebra.specs.Numbers.{joined}
use Rattle.listing.specs.Buffer.{put_all}
use Rattle.listing.specs.Text.{word}
use Rattle.acb_list.proofs.put_components.Given as goal

abbrev pub invariant-loop-k : goal.invariant-loop-k
invariant-loop-k l = (l.k ≤ l.components) × (length l.out ≡ length l.initial.out) × (put_all (l.initial.out, l.n) (joined word (take l.components l.values)) ≡ put_all (l.out, l.at) (joined word (drop l.k (take l.components l.values))))
