use mathlib.Core.Path.{sym, ap, ◌∙◌}
use Rattle.std.specs.Prelude.{Result, ℕ}
use Rattle.fault.specs.Answer.{told_end}
use Rattle.fault.specs.declared.Refusal.{Refusal}
use Rattle.ase.specs.Reading.{inside}
use Rattle.ase_judge.proofs.Judging.{inside-ok, inside-left}
use Rattle.ase_judge.proofs.inside_of.Goals as goal

pub returns-then-p-end : goal.returns-then-p-end
returns-then-p-end c = inside-ok _ _ tt _ c.if-p-end.true ∙ ap (λ (m : Result ℕ Refusal). inside c.args.place c.args.end (told_end m)) (sym c.in-Ok.is)

pub returns-else-p-end : goal.returns-else-p-end
returns-else-p-end c = inside-left _ _ tt _ c.if-p-end.false ∙ ap (λ (m : Result ℕ Refusal). inside c.args.place c.args.end (told_end m)) (sym c.in-Ok.is)
