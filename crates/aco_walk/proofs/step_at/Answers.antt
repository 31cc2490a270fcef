use mathlib.Core.Path.{◌∙◌}
use native.Mathlib.Omega.{arith}
use Rattle.aco.proofs.Raw.{colour-inv}
use Rattle.aco_walk.proofs.Stepping.{walk-over, walk-lost, walk-labelled, tested_reads}
use Rattle.aco_walk.proofs.step_at.Goals as goal

pub returns-then-at-file : goal.returns-then-at-file
returns-then-at-file c = walk-over c.args.file.now c.args.at c.if-at-file.true

pub overflow_add-at : goal.overflow_add-at
overflow_add-at c =
    let a = c.args in
    omega (arith, (colour-inv a.file.now a.at (tested_reads a.file.now a.at c.if-at-file.false c.in-Some.ensures)).2.inside)

pub returns-in-Some : goal.returns-in-Some
returns-in-Some c =
    let a = c.args in
    c.labelled_at.ensures ∙ walk-labelled a.file.now a.at c.if-at-file.false c.in-Some.ensures

pub returns-in-None : goal.returns-in-None
returns-in-None c = c.lost.ensures ∙ walk-lost c.args.file.now c.args.at c.if-at-file.false c.in-None.ensures
