use native.Mathlib.Omega.{arith}
use Rattle.ase_read.proofs.Filling.{numbers-loaded, placed}
use Rattle.ase_read.proofs.numbers_in.Goals as goal

pub returns : goal.returns
returns c =
    let a = c.args in
    numbers-loaded a.part.now a.at _ _ _ _ _ _ _ _ _ _ c.number_or_zero-block.ensures c.number_or_zero-count.ensures (placed a.at _ _ (omega (arith, c.requires.0, c.requires.1)) c.name_place.ensures.0) c.saturating_sub.ensures
    c.number_or_zero.ensures c.number_or_zero-2.ensures c.number_or_zero-3.ensures c.number_or_zero-4.ensures c.number_or_zero-5.ensures c.number_or_zero-6.ensures
