use Prim.Native.Nat.{ℕ}
use mathlib.Core.Path.{refl, ap, ◌∙◌}
use Rattle.algebra.specs.Table.{Verdict}
use Rattle.resource_judge.proofs.Judging.{told-no}
use Rattle.resource_read.proofs.Answers.{accepted-of, room-enough, table-refused, table-short, table_filled}
use Rattle.resource_read.proofs.read.Goals as goal

pub returns-in_err-blocks : goal.returns-in_err-blocks
returns-in_err-blocks c =
    let a = c.args in
    ap (λ (v : Verdict ℕ). (v, a.table.now)) (told-no _ _ c.from_residual.ensures.1 refl) ∙ table-refused a.file.now a.table.now c.in_err-blocks.ensures

pub returns-then-table-blocks : goal.returns-then-table-blocks
returns-then-table-blocks c = table-short c.args.file.now c.args.table.now c.in_ok-blocks.ensures c.if-table-blocks.true

pub fill-requires : goal.fill-requires
fill-requires c =
    let x = accepted-of c.args.file.now c.in_ok-blocks.ensures in
    (x.sound, x.count, room-enough _ _ c.if-table-blocks.false)

pub returns : goal.returns
returns c = table_filled c.args.file.now c.args.table.now c.in_ok-blocks.ensures c.if-table-blocks.false _ c.fill.ensures
