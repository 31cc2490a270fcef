use native.Mathlib.Omega.{arith}
use Prim.Native.Nat.{◌+◌}
use Rattle.descriptor_raw.proofs.Laws as L
use Rattle.descriptor.specs.Reading.{id, unicode, class}
use Rattle.descriptor_raw.proofs.class_end.Goals as goal

pub returns : goal.returns
unfolding class
returns c =
    let a = c.args in
    L.further _ (a.at + 34359738368) (omega (arith, c.text_end.ensures.near)) (L.both_end (unicode a.file.now a.at) (id a.file.now) _ _ _ _ c.text_end.ensures c.id_end.ensures)
