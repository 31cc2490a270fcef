use lib.ListN.{length, drop}
use mathlib.Core.Path.{◌≡◌}
use Rattle.algebra.specs.Numbers.{joined}
use Rattle.listing.specs.Buffer.{put_all}
use Rattle.ase_list.specs.Listing.{channel}
use Rattle.ase_list.proofs.put_channels.Given as goal

abbrev pub invariant-loop-bits : goal.invariant-loop-bits
invariant-loop-bits l = (length l.out ≡ length l.initial.out) × (put_all (l.initial.out, l.n) (joined channel l.channels) ≡ put_all (l.out, l.at) (joined channel (drop l.bits-index l.channels)))
