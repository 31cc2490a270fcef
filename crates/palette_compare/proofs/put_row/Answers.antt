use Prim.Native.Nat.{ℕ, ◌*◌}
use mathlib.Core.Path.{ap, ◌∙◌}
use mathlib.Core.List.{◌∷◌, []}
use lib.ListN.{length-set}
use lib.Seq.{sets}
use native.Mathlib.Omega.{arith}
use Rattle.palette_compare.specs.Compare.{rows}
use Rattle.palette_compare.proofs.Laws.{row_put}
use Rattle.palette_compare.proofs.put_row.Goals as goal

pub bounds-table-i-2 : goal.bounds-table-i-2
bounds-table-i-2 c = omega (arith, length-set c.args.table.now (2 * c.args.i) c.args.i)

pub returns : goal.returns
returns c =
    let a = c.args in
    row_put a.table.now a.i c.number.result ∙ ap (λ (k : ℕ). sets a.table.now (2 * a.i) (rows a.i (k ∷ []))) c.number.ensures
