use mathlib.Core.Path.{ap}
use Prim.Native.Nat.{ℕ}
use lib.Dec.{ltb}
use Rattle.colour.specs.Spaces.{known}
use Rattle.colour.proofs.space.is_known.Goals as goal

pub returns : goal.returns
unfolding known
returns c = ap (λ (k : ℕ). ltb 0 k) c.samples_used.ensures
