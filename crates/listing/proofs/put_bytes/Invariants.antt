use lib.ListN.{length, drop}
use mathlib.Core.Path.{◌≡◌}
use Rattle.algebra.specs.Numbers.{joined}
use Rattle.listing.specs.Buffer.{put_all}
use Rattle.listing.specs.Text.{hex}
use Rattle.listing.proofs.put_bytes.Given as goal

abbrev pub invariant-loop-b : goal.invariant-loop-b
invariant-loop-b l = (length l.out ≡ length l.initial.out) × (put_all (l.initial.out, l.n) (joined hex l.bytes) ≡ put_all (l.out, l.at) (joined hex (drop l.b-index l.bytes)))
