use mathlib.Core.Path.{sym, ap, ◌∙◌}
use mathlib.Core.Bool.{Bool}
use Rattle.descriptor_judge.specs.scaffold.Cycle.{held_of}
use Rattle.descriptor_judge.specs.scaffold.Counting.{walked}
use Rattle.descriptor_judge.proofs.held.Goals as goal

pub returns-then-columns : goal.returns-then-columns
returns-then-columns c =
    let a = c.args in
    c.array.ensures ∙ sym (ap (λ (b : Bool). walked (held_of b a.left 0 a.file.now a.at)) c.if-columns.true)

pub returns : goal.returns
returns c =
    let a = c.args in
    c.reference.ensures ∙ sym (ap (λ (b : Bool). walked (held_of b a.left 0 a.file.now a.at)) c.if-columns.false)
