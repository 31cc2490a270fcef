use lib.ListN.{length, drop}
use mathlib.Core.Path.{◌≡◌}
use Rattle.algebra.specs.Numbers.{joined}
use Rattle.listing.specs.Buffer.{put_all}
use Rattle.listing.specs.Text.{word}
use Rattle.aco_list.proofs.put_samples.Given as goal

abbrev pub invariant-loop-v : goal.invariant-loop-v
invariant-loop-v l = (length l.out ≡ length l.initial.out) × (put_all (l.initial.out, l.n) (joined word l.fn.samples) ≡ put_all (l.out, l.at) (joined word (drop l.v-index l.fn.samples)))
