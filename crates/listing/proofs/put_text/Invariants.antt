use lib.ListN.{length, drop}
use mathlib.Core.Path.{◌≡◌}
use Rattle.listing.specs.Buffer.{put_all}
use Rattle.listing.proofs.put_text.Given as goal

abbrev pub invariant-loop-b : goal.invariant-loop-b
invariant-loop-b l = (length l.out ≡ length l.initial.out) × (put_all (l.initial.out, l.n) l.text ≡ put_all (l.out, l.at) (drop l.b-index l.text))
