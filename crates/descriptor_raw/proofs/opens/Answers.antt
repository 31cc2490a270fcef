use mathlib.Core.Path.{ap}
use Prim.Native.Nat.{ℕ, ◌+◌}
use Rattle.descriptor_raw.proofs.opens.Goals as goal

pub returns : goal.returns
returns c =
    let a = c.args in
    ap (λ (n : ℕ). record { kind = a.kind; what = a.what; objects = a.objects; count = n; value = a.value; end = a.at + 4 }) c.number_or_zero.ensures
