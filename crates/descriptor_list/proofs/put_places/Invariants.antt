use Prim.Native.Nat.{◌-◌, ◌≤◌}
use lib.ListN.{length, take, drop}
use mathlib.Core.Path.{◌≡◌}
use Rattle.algebra.specs.Numbers.{joined}
use Rattle.listing.specs.Buffer.{put_all}
use Rattle.listing.specs.Text.{word}
use Rattle.descriptor_list.proofs.put_places.Given as goal

abbrev pub invariant-loop-k : goal.invariant-loop-k
invariant-loop-k l = (1 ≤ l.k) × (l.k ≤ 5) × (length l.out ≡ length l.initial.out) × (put_all (l.initial.out, l.n) (joined word (take 4 (drop 1 l.row))) ≡ put_all (l.out, l.at) (joined word (drop (l.k - 1) (take 4 (drop 1 l.row)))))
