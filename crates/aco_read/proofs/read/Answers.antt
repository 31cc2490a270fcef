use Prim.Native.Nat.{ℕ}
use mathlib.Core.Path.{subst}
use native.Mathlib.Omega.{arith}
use Rattle.algebra.specs.Filling.{Accepted}
use Rattle.algebra.proofs.Table.{accepted-of, filled-short, filled_is}
use Rattle.aco.specs.Reading.{aco}
use Rattle.aco.specs.Row.{width, row}
use Rattle.aco_judge.specs.Answer.{told, report}
use Rattle.aco_judge.proofs.Judging.{err-exit}
use Rattle.aco_read.specs.Table.{records}
use Rattle.aco_read.proofs.Filling.{count_small}
use Rattle.aco_read.proofs.Answers.{count, counts, not-one, rows-wide, filled-rejected}
use Rattle.aco_read.proofs.read.Goals as goal

pub returns-in_err-counts : goal.returns-in_err-counts
returns-in_err-counts c =
    let a = c.args in
    err-exit (λ r. (told r, a.table.now)) _ _ c.from_residual.ensures.1 (filled-rejected a.file.now a.table.now _ c.in_err-counts.ensures)

pub overflow_mul-counts : goal.overflow_mul-counts
overflow_mul-counts c =
    let a = c.args in
    let s = a.file.now in
    let t = c.in_ok-counts.ensures in
    let k = accepted-of report (aco s) t in
    let few = count_small s _ _ k in omega arith

pub returns-then-table-counts : goal.returns-then-table-counts
returns-then-table-counts c =
    let a = c.args in
    let s = a.file.now in
    let t = c.in_ok-counts.ensures in
    let k = accepted-of report (aco s) t in
    filled-short records report count counts (aco s) width row a.table.now t (omega (arith, c.if-table-counts.true))

pub fill_plain-requires : goal.fill_plain-requires
fill_plain-requires c =
    let a = c.args in
    let s = a.file.now in
    let t = c.in_ok-counts.ensures in
    let k = accepted-of report (aco s) t in
    (subst (λ (l : ℕ). Accepted report (aco s) (c.in_ok-counts.counts.colours, l)) c.if-counts-eq1.true k, omega (arith, c.if-table-counts.false))

pub fill_named-requires : goal.fill_named-requires
fill_named-requires c =
    let a = c.args in
    let s = a.file.now in
    let t = c.in_ok-counts.ensures in
    let k = accepted-of report (aco s) t in
    (subst (λ (l : ℕ). Accepted report (aco s) (c.in_ok-counts.counts.colours, l)) (not-one s _ _ k c.if-counts-eq1.false) k, omega (arith, c.if-table-counts.false))

pub returns-then-counts-eq1 : goal.returns-then-counts-eq1
returns-then-counts-eq1 c =
    let a = c.args in
    let s = a.file.now in
    let t = c.in_ok-counts.ensures in
    let k = accepted-of report (aco s) t in
    filled_is records report count counts (aco s) width row a.table.now t c.if-table-counts.false (rows-wide s _ _ k) _ c.fill_plain.ensures

pub returns-else-counts-eq1 : goal.returns-else-counts-eq1
returns-else-counts-eq1 c =
    let a = c.args in
    let s = a.file.now in
    let t = c.in_ok-counts.ensures in
    let k = accepted-of report (aco s) t in
    filled_is records report count counts (aco s) width row a.table.now t c.if-table-counts.false (rows-wide s _ _ k) _ c.fill_named.ensures
