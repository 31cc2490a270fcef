use mathlib.Core.Path.{sym, ◌∙◌}
use native.Mathlib.Omega.{arith}
use Rattle.acb_shown_values.proofs.Sampling.{range-inv}
use Rattle.acb_shown_file.proofs.Walking.{table_none, table-shows}
use Rattle.acb_shown_file.proofs.page_in.Goals as goal

pub returns-in_default : goal.returns-in_default
returns-in_default c =
    let a = c.args in
    let n = c.min-n in
    table_none a.table.now n.result a.count a.size a.offset a.page n.ensures (sym c.in_default.ensures)

pub sample_in-requires : goal.sample_in-requires
sample_in-requires c =
    let n = c.min-n in
    omega (arith, range-inv n.result _ _ (sym c.in-Some.ensures), n.ensures)

pub returns : goal.returns
returns c =
    let a = c.args in
    let n = c.min-n in
    c.sample_in.ensures ∙ table-shows a.table.now n.result a.count a.size a.offset a.page n.ensures (sym c.in-Some.ensures)
