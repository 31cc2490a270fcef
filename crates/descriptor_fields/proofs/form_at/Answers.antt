use Rattle.descriptor_fields.specs.scaffold.Answer.{reader_of}
use mathlib.Core.Path.{sym, ap, ◌∙◌}
use Rattle.descriptor_fields.proofs.form_at.Goals as goal

pub returns-in-Nothing : goal.returns-in-Nothing
returns-in-Nothing c =
    let a = c.args in
    c.run_at.ensures ∙ sym (ap (λ f. reader_of f a.file.now a.at) c.in-Nothing.is)

pub returns-in-Enumerated : goal.returns-in-Enumerated
returns-in-Enumerated c =
    let a = c.args in
    c.enumerated_at.ensures ∙ sym (ap (λ f. reader_of f a.file.now a.at) c.in-Enumerated.is)

pub returns-in-Id : goal.returns-in-Id
returns-in-Id c =
    let a = c.args in
    c.id_at.ensures ∙ sym (ap (λ f. reader_of f a.file.now a.at) c.in-Id.is)

pub returns-in-Text : goal.returns-in-Text
returns-in-Text c =
    let a = c.args in
    c.unicode_at.ensures ∙ sym (ap (λ f. reader_of f a.file.now a.at) c.in-Text.is)

pub returns-in-Long : goal.returns-in-Long
returns-in-Long c =
    let a = c.args in
    c.run_at-in-Long.ensures ∙ sym (ap (λ f. reader_of f a.file.now a.at) c.in-Long.is)
