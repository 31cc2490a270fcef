use mathlib.Core.Path.{sym, ap, ◌∙◌}
use lib.ListN.{length}
use Rattle.algebra.specs.Table.{verdict}
use Rattle.palette.specs.Palette.{colours}
use Rattle.palette.specs.declared.Kind.{Kind}
use Rattle.palette.proofs.judge.Goals as goal

pub returns-in-Aco : goal.returns-in-Aco
returns-in-Aco c =
    let a = c.args in
    (c.judge_aco.ensures.0 ∙ ap (λ (k : Kind). verdict length (colours k a.file.now)) (sym c.in-Aco.is), c.judge_aco.ensures.1)

pub returns-in-Ase : goal.returns-in-Ase
returns-in-Ase c =
    let a = c.args in
    (c.judge_ase.ensures.0 ∙ ap (λ (k : Kind). verdict length (colours k a.file.now)) (sym c.in-Ase.is), c.judge_ase.ensures.1)
