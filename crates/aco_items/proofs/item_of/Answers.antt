use mathlib.Core.Path.{sym, ap, ◌∙◌}
use Rattle.aco_chunks.specs.declared.Stage.{Stage}
use Rattle.aco_chunks.specs.Chunks.{item}
use Rattle.aco_judge.proofs.Judging.{err-exit}
use Rattle.aco_items.specs.scaffold.Answer.{told_item}
use Rattle.aco_items.proofs.Fields.{first-many, first_off, first-is, second-other, second-off, second_is, colourItem-is, colourItem-off}
use Rattle.aco_items.proofs.item_of.Goals as goal

pub returns-in_err-n-in-First : goal.returns-in_err-n-in-First
returns-in_err-n-in-First c =
    let a = c.args in
    err-exit told_item _ _ c.from_residual.ensures.1 (sym (first_off a.bytes.now (sym c.in_err-n-in-First.ensures)) ∙ sym (ap (λ (g : Stage). item a.store.now g a.bytes.now 0) c.in-First.is))

pub returns-then-n-gt-MOST : goal.returns-then-n-gt-MOST
returns-then-n-gt-MOST c =
    let a = c.args in
    sym (first-many a.bytes.now (sym c.in_ok-n-in-First.ensures) c.if-n-gt-MOST.true) ∙ sym (ap (λ (g : Stage). item a.store.now g a.bytes.now 0) c.in-First.is)

pub returns-else-n-gt-MOST : goal.returns-else-n-gt-MOST
returns-else-n-gt-MOST c =
    let a = c.args in
    sym (first-is a.bytes.now (sym c.in_ok-n-in-First.ensures) c.if-n-gt-MOST.false) ∙ sym (ap (λ (g : Stage). item a.store.now g a.bytes.now 0) c.in-First.is)

pub returns-in_err-next-in-Colour : goal.returns-in_err-next-in-Colour
returns-in_err-next-in-Colour c =
    let a = c.args in
    err-exit told_item _ _ c.from_residual-in_err-next-in-Colour.ensures.1 (sym (colourItem-off a.bytes.now (sym c.in_err-next-in-Colour.ensures)) ∙ sym (ap (λ (g : Stage). item a.store.now g a.bytes.now 0) c.in-Colour.is))

pub returns-in_ok-next-in-Colour : goal.returns-in_ok-next-in-Colour
returns-in_ok-next-in-Colour c =
    let a = c.args in
    sym (colourItem-is a.bytes.now (sym c.in_ok-next-in-Colour.ensures)) ∙ sym (ap (λ (g : Stage). item a.store.now g a.bytes.now 0) c.in-Colour.is)

pub returns-in_err-m-in-Second : goal.returns-in_err-m-in-Second
returns-in_err-m-in-Second c =
    let a = c.args in
    err-exit told_item _ _ c.from_residual-in_err-m-in-Second.ensures.1 (sym (second-off a.bytes.now _ (sym c.in_err-m-in-Second.ensures)) ∙ sym (ap (λ (g : Stage). item a.store.now g a.bytes.now 0) c.in-Second.is))

pub returns-then-m-count : goal.returns-then-m-count
returns-then-m-count c =
    let a = c.args in
    sym (second-other a.bytes.now _ (sym c.in_ok-m-in-Second.ensures) c.if-m-count.true) ∙ sym (ap (λ (g : Stage). item a.store.now g a.bytes.now 0) c.in-Second.is)

pub returns-else-m-count : goal.returns-else-m-count
returns-else-m-count c =
    let a = c.args in
    sym (second_is a.bytes.now _ (sym c.in_ok-m-in-Second.ensures) c.if-m-count.false) ∙ sym (ap (λ (g : Stage). item a.store.now g a.bytes.now 0) c.in-Second.is)

pub returns-in-Entry : goal.returns-in-Entry
returns-in-Entry c =
    let a = c.args in
    c.entry_of.ensures ∙ sym (ap (λ (g : Stage). item a.store.now g a.bytes.now 0) c.in-Entry.is)

pub returns-in_err-u-in-Unit : goal.returns-in_err-u-in-Unit
returns-in_err-u-in-Unit c =
    let a = c.args in
    err-exit told_item _ _ c.from_residual-in_err-u-in-Unit.ensures.1 (c.in_err-u-in-Unit.ensures ∙ sym (ap (λ (g : Stage). item a.store.now g a.bytes.now 0) c.in-Unit.is))

pub returns-in_ok-u-in-Unit : goal.returns-in_ok-u-in-Unit
returns-in_ok-u-in-Unit c =
    let a = c.args in
    c.in_ok-u-in-Unit.ensures ∙ sym (ap (λ (g : Stage). item a.store.now g a.bytes.now 0) c.in-Unit.is)
