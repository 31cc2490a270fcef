use mathlib.Core.Path.{refl}
use native.Mathlib.Omega.{arith}
use Rattle.ase.specs.Reading.{ase}
use Rattle.ase.specs.Row.{width}
use Rattle.ase_judge.specs.Answer.{report}
use Rattle.algebra.proofs.Table.{filled-short, filled_is, filled-refused}
use Rattle.ase_read.specs.Table.{row}
use Rattle.ase_read.proofs.Filling.{count_small}
use Rattle.ase_read.proofs.Answers.{judged-of, rows-wide, filled-exit}
use Rattle.ase_read.proofs.read.Goals as goal

pub returns-in_err-counts : goal.returns-in_err-counts
returns-in_err-counts c =
    filled-exit _ _ _ c.from_residual.ensures.1 (filled-refused (λ es. es) report (λ b. b.0) (λ es. refl) (ase c.args.file.now) width row _ c.in_err-counts.ensures)

pub overflow_mul-counts : goal.overflow_mul-counts
overflow_mul-counts c =
    let s = c.args.file.now in
    omega (arith, count_small s _ (judged-of (ase s) c.in_ok-counts.ensures))

pub returns-then-table-counts : goal.returns-then-table-counts
returns-then-table-counts c =
    let a = c.args in
    filled-short (λ es. es) report (λ b. b.0) (λ es. refl) (ase a.file.now) width row a.table.now c.in_ok-counts.ensures (omega (arith, c.if-table-counts.true))

pub fill-requires : goal.fill-requires
fill-requires c =
    let s = c.args.file.now in
    (judged-of (ase s) c.in_ok-counts.ensures, omega (arith, c.if-table-counts.false))

pub returns : goal.returns
returns c =
    let a = c.args in
    filled_is (λ es. es) report (λ b. b.0) (λ es. refl) (ase a.file.now) width row a.table.now c.in_ok-counts.ensures c.if-table-counts.false (rows-wide _) _ c.fill.ensures
