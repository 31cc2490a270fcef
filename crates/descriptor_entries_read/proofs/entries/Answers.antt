use mathlib.Core.Path.{ap, ◌∙◌}
use lib.ListN.{length}
use lib.Seq.{sets, length-sets}
use native.Mathlib.Omega.{arith}
use Rattle.algebra.specs.Numbers.{Bytes}
use Rattle.descriptor_columns.proofs.Reading as R
use Rattle.descriptor_entries.proofs.Answers.{refuses}
use Rattle.descriptor_entries_read.proofs.Entered as E
use Rattle.descriptor_entries_read.proofs.entries.Goals as goal

pub returns-then-run-rows : goal.returns-then-run-rows
returns-then-run-rows c =
    let a = c.args in
    let s = a.file.now in
    let r = R.accepts s _ c.in_ok-rows.ensures in
    E.short s _ r a.run.now c.if-run-rows.true

pub entry_at-requires : goal.entry_at-requires
entry_at-requires c =
    let a = c.args in
    let s = a.file.now in
    let r = R.accepts s _ c.in_ok-rows.ensures in
    E.root-inside s _ r _ c.root_head-root.ensures

pub put_row-requires : goal.put_row-requires
put_row-requires c =
    let a = c.args in
    let s = a.file.now in
    let r = R.accepts s _ c.in_ok-rows.ensures in
    let some = R.some s _ r in
    omega (arith, some, c.if-run-rows.false)

pub fill-requires : goal.fill-requires
fill-requires c =
    let a = c.args in
    let s = a.file.now in
    let r = R.accepts s _ c.in_ok-rows.ensures in
    let l = ap length c.put_row.ensures ∙ length-sets a.run.now 0 c.entry_at.result in
    (E.begun s _ r _ c.root_head-root.ensures, omega (arith, l, c.if-run-rows.false))

pub returns-in_err-rows : goal.returns-in_err-rows
returns-in_err-rows c =
    let a = c.args in
    E.refused-exit _ _ c.from_residual.ensures.1 a.run.now ∙ refuses a.file.now _ _ c.in_err-rows.ensures a.run.now

pub returns : goal.returns
returns c =
    let a = c.args in
    let s = a.file.now in
    let r = R.accepts s _ c.in_ok-rows.ensures in
    let b : Bytes s = λ j. omega (arith, c.type_inv.file j) in
    let first = c.put_row.ensures ∙ ap (sets a.run.now 0) c.entry_at.ensures in
    E.enough s _ r b a.run.now _ (omega (arith, c.if-run-rows.false)) (E.entered-whole s _ r _ c.root_head-root.ensures a.run.now _ _ first c.fill.ensures)
