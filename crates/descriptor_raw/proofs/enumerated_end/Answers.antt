use native.Mathlib.Omega.{arith}
use Prim.Native.Nat.{◌+◌}
use Rattle.descriptor_raw.proofs.Laws as L
use Rattle.descriptor.specs.Reading.{id, enumerated}
use Rattle.descriptor_raw.proofs.enumerated_end.Goals as goal

pub returns : goal.returns
unfolding enumerated
returns c =
    let a = c.args in
    L.further _ (a.at + 34359738368) (omega (arith, c.id_end.ensures.near)) (L.both_end (id a.file.now a.at) (id a.file.now) _ _ _ _ c.id_end.ensures c.id_end-2.ensures)
