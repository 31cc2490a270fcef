use mathlib.Core.Path.{refl, sym, ap, ◌∙◌}
use Rattle.aco_chunks.specs.declared.Stage.{Stage}
use Rattle.aco_chunks.specs.Chunks.{cut, item, ending}
use Rattle.aco_stream.specs.Answer.{known}
use Rattle.aco_stream.proofs.Steps.{ending-none, ending-some}
use Rattle.aco_stream.proofs.ending_of.Goals as goal

pub returns-then-bytes-eq0 : goal.returns-then-bytes-eq0
unfolding ending
returns-then-bytes-eq0 c =
    let a = c.args in
    ap known (ending-none a.from a.bytes.now a.store.now c.in-Second.is c.if-bytes-eq0.true)

pub returns-else-bytes-eq0 : goal.returns-else-bytes-eq0
unfolding ending
returns-else-bytes-eq0 c =
    let a = c.args in
    c.cut_of.ensures ∙ ap known (ending-some a.from a.bytes.now a.store.now _ c.in-Second.is c.if-bytes-eq0.false refl)

pub returns-in-Unit : goal.returns-in-Unit
unfolding ending
returns-in-Unit c =
    let a = c.args in
    ap known (sym (ap (λ (g : Stage). ending g a.from a.bytes.now a.store.now) c.in-Unit.is))

pub returns-in-End : goal.returns-in-End
unfolding ending
returns-in-End c =
    let a = c.args in
    ap known (sym (ap (λ (g : Stage). ending g a.from a.bytes.now a.store.now) c.in-End.is))

pub returns-in-Fault : goal.returns-in-Fault
unfolding ending
returns-in-Fault c =
    let a = c.args in
    c.fault_end.ensures ∙ ap known (sym (ap (λ (g : Stage). ending g a.from a.bytes.now a.store.now) c.in-Fault.is))

pub returns-in-First : goal.returns-in-First
unfolding ending
returns-in-First c =
    let a = c.args in
    c.cut_of-in-First.ensures ∙ ap known (ap (λ (g : Stage). cut a.from (item a.store.now g a.bytes.now 0)) c.in-First.is ∙ sym (ap (λ (g : Stage). ending g a.from a.bytes.now a.store.now) c.in-First.is))

pub returns-in-Colour : goal.returns-in-Colour
unfolding ending
returns-in-Colour c =
    let a = c.args in
    c.cut_of-in-Colour.ensures ∙ ap known (ap (λ (g : Stage). cut a.from (item a.store.now g a.bytes.now 0)) c.in-Colour.is ∙ sym (ap (λ (g : Stage). ending g a.from a.bytes.now a.store.now) c.in-Colour.is))

pub returns-in-Entry : goal.returns-in-Entry
unfolding ending
returns-in-Entry c =
    let a = c.args in
    c.cut_of-in-Entry.ensures ∙ ap known (ap (λ (g : Stage). cut a.from (item a.store.now g a.bytes.now 0)) c.in-Entry.is ∙ sym (ap (λ (g : Stage). ending g a.from a.bytes.now a.store.now) c.in-Entry.is))
