use Rattle.std.proofs.Common.{sym, ◌∙◌, arith}
use Rattle.algebra.proofs.Laws.{field_next}
use Rattle.algebra.proofs.Texts.{name-short, name-counted}
use Rattle.fault.proofs.Exit.{field-exit, short}
use Rattle.names.proofs.name_at.Goals as goal

pub returns-in_err-n : goal.returns-in_err-n
returns-in_err-n g c =
    let a = c.args in
    let w = g.N.Number.WIDTH in
    field-exit w a.s.now a.at _ _ _ c.from_residual.ensures.1 c.in_err-n.ensures (sym (name-short w a.s.now a.at (short w a.s.now a.at c.in_err-n.ensures)))

pub units_at-requires : goal.units_at-requires
units_at-requires g c =
    let a = c.args in
    let f = field_next g.N.Number.WIDTH a.s.now a.at _ _ c.in_ok-n.ensures in
    omega (arith, g.met.N.Number.at_least)

pub returns : goal.returns
returns g c =
    let a = c.args in
    c.units_at.ensures ∙ rw c.count.ensures (sym (name-counted g.N.Number.WIDTH a.s.now a.at _ _ c.in_ok-n.ensures))
