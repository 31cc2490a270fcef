use mathlib.Core.Path.{sym, ap, ◌∙◌}
use Rattle.report.specs.Report.{file_report}
use Rattle.report.specs.declared.Kind.{Kind}
use Rattle.report.proofs.file_totals.Goals as goal

pub returns-in-Aco : goal.returns-in-Aco
returns-in-Aco c = c.palette_totals.ensures ∙ ap (λ (k : Kind). file_report k c.args.file.now) (sym c.in-Aco.is)

pub returns-in-Ase : goal.returns-in-Ase
returns-in-Ase c = c.palette_totals-in-Ase.ensures ∙ ap (λ (k : Kind). file_report k c.args.file.now) (sym c.in-Ase.is)

pub returns-in-Acb : goal.returns-in-Acb
returns-in-Acb c = c.book_totals.ensures ∙ ap (λ (k : Kind). file_report k c.args.file.now) (sym c.in-Acb.is)

pub returns-in-Descriptor : goal.returns-in-Descriptor
returns-in-Descriptor c = c.descriptor_totals.ensures ∙ ap (λ (k : Kind). file_report k c.args.file.now) (sym c.in-Descriptor.is)
