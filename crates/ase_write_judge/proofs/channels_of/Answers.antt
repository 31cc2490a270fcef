use mathlib.Core.Path.{sym, ap, ◌∙◌}
use native.Mathlib.Omega.{arith}
use Rattle.ase_write_judge.proofs.Judging.{channels-few, channels-is}
use Rattle.ase_write_judge.proofs.channels_of.Goals as goal

pub returns-in-Some : goal.returns-in-Some
returns-in-Some c =
    let a = c.args in
    let e = ap (λ m. m.channels) c.traits.ensures ∙ channels-is a.tag _ (sym c.in-Some.is ∙ c.from_tag.ensures) in
    (e, omega (arith, channels-few a.tag))

pub returns-in-None : goal.returns-in-None
returns-in-None c = let a = c.args in (channels-is a.tag _ (sym c.in-None.is ∙ c.from_tag.ensures), omega arith)
