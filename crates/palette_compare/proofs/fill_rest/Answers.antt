use Prim.Native.Nat.{◌*◌}
use mathlib.Core.Path.{refl, sym, ap, ◌∙◌}
use mathlib.Core.List.{◌∷◌, []}
use lib.ListN.{length}
use lib.Seq.{length-sets}
use native.Mathlib.Omega.{arith}
use Rattle.palette_compare.specs.Compare.{rows}
use Rattle.palette_compare.specs.Answer.{told_kind}
use Rattle.palette_compare.proofs.Laws.{rest-turn, rest_end}
use Rattle.palette_compare.proofs.fill_rest.Goals as goal

pub loop-i-init : goal.loop-i-init
loop-i-init c = (omega arith, refl, refl)

pub loop-i-preserved : goal.loop-i-preserved
loop-i-preserved c =
    let a = c.args in
    let t = c.put_row.ensures in
    (omega arith, ap length t ∙ length-sets c.loop-i.table (2 * c.loop-i.i) (rows c.loop-i.i (told_kind a.kind ∷ [])) ∙ c.loop-i.invariant.1, rest-turn a.table.now a.from a.to (told_kind a.kind) _ c.loop-i.table _ c.loop-i.i c.loop-i-test.true c.loop-i.invariant.2 t)

pub returns : goal.returns
returns c =
    let a = c.args in
    sym (rest_end a.table.now a.from a.to (told_kind a.kind) _ c.loop-i.table c.loop-i.i c.loop-i-test.false c.loop-i.invariant.2)
