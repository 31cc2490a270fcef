use mathlib.Core.Path.{refl}
use mathlib.Core.List.{[]}
use mathlib.Core.Bool.{true}
use lib.ListN.{length-set}
use native.Mathlib.Omega.{arith}
use Rattle.descriptor_judge.specs.Answer.{told}
use Rattle.descriptor_judge.proofs.Whole.{handed}
use Rattle.descriptor_columns.proofs.Reading as R
use Rattle.descriptor_columns.proofs.Room as M
use Rattle.descriptor_columns.proofs.values.Goals as goal

pub returns-then-values-rows : goal.returns-then-values-rows
returns-then-values-rows c =
    let a = c.args in
    R.short-values a.file.now _ (R.accepts a.file.now _ c.in_ok-rows.ensures) a.values.now (M.room-no _ a.values.now [] c.if-values-rows.true)

pub bounds-values-0 : goal.bounds-values-0
bounds-values-0 c =
    let a = c.args in
    omega (arith, R.some a.file.now _ (R.accepts a.file.now _ c.in_ok-rows.ensures), c.if-values-rows.false)

pub fill_values-requires : goal.fill_values-requires
fill_values-requires c =
    let a = c.args in
    (R.begun a.file.now _ (R.accepts a.file.now _ c.in_ok-rows.ensures) _ c.root_head-head.ensures, omega (arith, length-set a.values.now 0 4, c.if-values-rows.false))

pub returns-in_err-rows : goal.returns-in_err-rows
returns-in_err-rows c =
    let a = c.args in
    handed (λ r. (told r, a.values.now)) _ _ c.from_residual.ensures.1 (R.refuses-values a.file.now _ _ c.in_err-rows.ensures a.values.now)

pub returns : goal.returns
returns c =
    let a = c.args in
    let r = R.accepts a.file.now _ c.in_ok-rows.ensures in
    R.enough-values a.file.now _ r a.values.now (M.room-on _ a.values.now [] true c.if-values-rows.false refl) c.if-values-rows.false (R.valued-whole a.file.now _ r _ c.root_head-head.ensures a.values.now refl c.fill_values.ensures)
