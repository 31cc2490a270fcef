use mathlib.Core.Path.{sym, ap, ◌∙◌}
use mathlib.Core.Bool.{Bool}
use Rattle.descriptor.specs.Reading.{id}
use Rattle.descriptor_judge.specs.scaffold.Cycle.{optional}
use Rattle.descriptor_judge.proofs.key_if.Goals as goal

pub returns-then-there : goal.returns-then-there
returns-then-there c =
    let a = c.args in
    c.id_at.ensures ∙ sym (ap (λ (b : Bool). optional b id a.file.now a.at) c.if-there.true)

pub returns : goal.returns
returns c =
    let a = c.args in
    sym (ap (λ (b : Bool). optional b id a.file.now a.at) c.if-there.false)
