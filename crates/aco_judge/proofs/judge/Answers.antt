use mathlib.Core.Path.{sym, ap, ◌∙◌}
use native.Mathlib.Omega.{arith}
use Rattle.algebra.specs.Table.{verdict}
use Rattle.algebra.specs.Reader.{fine}
use Rattle.aco_judge.specs.Answer.{told, report}
use Rattle.aco_judge.proofs.Judging.{err-exit, heading-is, aco-long, aco-heading, aco-count, aco-lists}
use Rattle.aco_judge.proofs.judge.Goals as goal

pub returns-then-file-gt-LIMIT : goal.returns-then-file-gt-LIMIT
returns-then-file-gt-LIMIT c = sym (ap (verdict report) (aco-long c.args.file.now c.if-file-gt-LIMIT.true))

pub returns-in_err-n : goal.returns-in_err-n
returns-in_err-n c =
    err-exit told _ _ c.from_residual.ensures.1 (sym (ap (verdict report) (aco-heading c.args.file.now c.if-file-gt-LIMIT.false (sym c.in_err-n.ensures))))

pub returns-then-n-gt-MOST : goal.returns-then-n-gt-MOST
returns-then-n-gt-MOST c =
    sym (ap (verdict report) (aco-count c.args.file.now c.if-file-gt-LIMIT.false (sym c.in_ok-n.ensures) c.if-n-gt-MOST.true))

pub lists_at-requires : goal.lists_at-requires
lists_at-requires c =
    let i = heading-is 1 c.args.file.now 0 (λ n. fine) (sym c.in_ok-n.ensures) in omega (arith, i.1, i.2)

pub returns : goal.returns
returns c =
    c.lists_at.ensures ∙ sym (ap (verdict report) (aco-lists c.args.file.now c.if-file-gt-LIMIT.false (sym c.in_ok-n.ensures) c.if-n-gt-MOST.false))
