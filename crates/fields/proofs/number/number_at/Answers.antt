use mathlib.Core.Path.{sym, ap}
use native.Mathlib.Omega.{arith}
use Rattle.algebra.specs.Reader.{or_zero}
use Rattle.algebra.proofs.Laws.{field_in, field-short}
use Rattle.fields.proofs.number.number_at.Goals as goal

pub returns-then-n-width : goal.returns-then-n-width
returns-then-n-width g c = sym (field-short g.N.Number.WIDTH _ _ (omega (arith, c.WIDTH-width.ensures)))

pub returns-then-n-width-2 : goal.returns-then-n-width-2
returns-then-n-width-2 g c = sym (field-short g.N.Number.WIDTH c.args.s.now c.args.at (omega (arith, c.WIDTH-width.ensures, g.met.N.Number.at_least)))

pub returns : goal.returns
returns g c =
    let a = c.args in
    let e = field_in g.N.Number.WIDTH a.s.now a.at (omega (arith, c.WIDTH-width.ensures)) in
    cc (e, ap or_zero e, c.load.ensures, c.WIDTH-width.ensures)
