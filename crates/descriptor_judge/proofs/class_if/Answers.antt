use mathlib.Core.Path.{sym, ap, ◌∙◌}
use mathlib.Core.Bool.{Bool}
use Rattle.descriptor.specs.Reading.{class}
use Rattle.descriptor_judge.specs.scaffold.Cycle.{optional}
use Rattle.descriptor_judge.proofs.class_if.Goals as goal

pub returns-then-there : goal.returns-then-there
returns-then-there c =
    let a = c.args in
    c.class_at.ensures ∙ sym (ap (λ (b : Bool). optional b class a.file.now a.at) c.if-there.true)

pub returns : goal.returns
returns c =
    let a = c.args in
    sym (ap (λ (b : Bool). optional b class a.file.now a.at) c.if-there.false)
