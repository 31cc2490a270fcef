use mathlib.Core.Path.{sym, ap, ◌∙◌}
use Rattle.std.specs.Prelude.{Ok}
use Rattle.descriptor_judge.proofs.Whole.{handed}
use Rattle.descriptor_check.specs.Check as S
use Rattle.descriptor_find.specs.Find.{told}
use Rattle.descriptor_find.proofs.Answers as A
use Rattle.descriptor_find.proofs.find.Goals as goal

pub returns-in_err-table : goal.returns-in_err-table
returns-in_err-table c =
    let a = c.args in
    handed (λ r. (told r, a.answers.now)) _ _ c.from_residual.ensures.1 (A.file-refused a.file.now a.first.now a.size.now a.next.now a.depth.now a.kind.now a.keys.now a.answers.now _ _ c.in_err-table.ensures)

pub returns-in_default : goal.returns-in_default
returns-in_default c =
    let a = c.args in
    A.table-refused a.file.now a.first.now a.size.now a.next.now a.depth.now a.kind.now a.keys.now a.answers.now (sym (ap (λ t. S.told (Ok t)) c.in_default.is) ∙ c.in_ok-table.ensures)

pub answer-requires : goal.answer-requires
answer-requires c =
    let a = c.args in
    A.table-lent a.file.now a.first.now a.size.now a.next.now a.depth.now a.kind.now a.keys.now a.answers.now _ (sym (ap (λ t. S.told (Ok t)) c.in-Some.is) ∙ c.in_ok-table.ensures)

pub returns : goal.returns
returns c =
    let a = c.args in
    c.answer.ensures ∙ A.table-answered a.file.now a.first.now a.size.now a.next.now a.depth.now a.kind.now a.keys.now a.answers.now _ (sym (ap (λ t. S.told (Ok t)) c.in-Some.is) ∙ c.in_ok-table.ensures)
