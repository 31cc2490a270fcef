use mathlib.Core.Path.{ap, ◌∙◌}
use native.Mathlib.Omega.{arith}
use Rattle.acb.specs.Reading.{acb}
use Rattle.acb_read.specs.Answer.{RecordPlaces}
use Rattle.acb_read.proofs.Answers.{name_in, name-part, name-none, same-places}
use Rattle.acb_read.proofs.name_at.Goals as goal

pub overflow_add-end : goal.overflow_add-end
overflow_add-end c =
    let a = c.args in
    let h = name_in a.file.now a.i _ _ (ap (λ (w : RecordPlaces). w.name) c.in-Ok.ensures ∙ (same-places a.i (acb a.file.now)).0) in
    omega arith

pub slice_bounds-result-end : goal.slice_bounds-result-end
slice_bounds-result-end c =
    let a = c.args in
    let h = name_in a.file.now a.i _ _ (ap (λ (w : RecordPlaces). w.name) c.in-Ok.ensures ∙ (same-places a.i (acb a.file.now)).0) in
    omega arith

pub returns-in-Ok : goal.returns-in-Ok
returns-in-Ok c =
    let a = c.args in
    name-part a.file.now a.i _ _ (ap (λ (w : RecordPlaces). w.name) c.in-Ok.ensures ∙ (same-places a.i (acb a.file.now)).0)

pub returns-in-Err : goal.returns-in-Err
returns-in-Err c =
    let a = c.args in
    name-none a.file.now a.i _ _ _ _ (ap (λ (w : RecordPlaces). w.name) c.in-Err.ensures ∙ (same-places a.i (acb a.file.now)).0)
