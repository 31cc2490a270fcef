use mathlib.Core.Path.{refl, ap}
use lib.ListN.{length}
use native.Mathlib.Omega.{arith}
use Rattle.algebra.specs.Table.{seen}
use Rattle.algebra.proofs.Table.{record-refused, record-none}
use Rattle.ase.specs.Reading.{group_end_read, ase}
use Rattle.ase.specs.Row.{given_of}
use Rattle.ase_judge.specs.Answer.{report}
use Rattle.ase_read.proofs.Answers.{judged-of, record-exit}
use Rattle.ase_read.proofs.record_at.Goals as goal

pub returns-in_err-counts : goal.returns-in_err-counts
returns-in_err-counts c =
    record-exit _ _ c.from_residual.ensures.1
    (ap (seen given_of) (record-refused (λ es. es) report (λ b. b.0) (λ es. refl) (ase c.args.file.now) group_end_read c.args.i c.in_err-counts.ensures))

pub returns-then-counts-i : goal.returns-then-counts-i
returns-then-counts-i c =
    let a = c.args in
    let m = ase a.file.now in
    ap (seen given_of) (record-none (λ es. es) length (λ k. k) (λ es. refl) m group_end_read a.i (judged-of m c.in_ok-counts.ensures) (omega (arith, c.if-counts-i.true)))

pub found-requires : goal.found-requires
found-requires c = (judged-of (ase c.args.file.now) c.in_ok-counts.ensures, omega (arith, c.if-counts-i.false))
