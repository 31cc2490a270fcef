use mathlib.Core.Path.{sym, ap, ◌∙◌}
use Rattle.palette.specs.PaletteStep.{first_at}
use Rattle.palette.specs.declared.Kind.{Kind}
use Rattle.palette.proofs.first_at.Goals as goal

pub returns-in-Aco : goal.returns-in-Aco
returns-in-Aco c =
    let a = c.args in
    c.first_at.ensures ∙ ap (λ (k : Kind). first_at k a.file.now) (sym c.in-Aco.is)

pub returns-in-Ase : goal.returns-in-Ase
returns-in-Ase c =
    let a = c.args in
    c.first_at-in-Ase.ensures ∙ ap (λ (k : Kind). first_at k a.file.now) (sym c.in-Ase.is)
