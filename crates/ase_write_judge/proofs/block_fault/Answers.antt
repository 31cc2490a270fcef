use mathlib.Core.Path.{refl, sym, ◌∙◌}
use borrow.Author.Tests.{eq-eqb, ne_eqb}
use Rattle.algebra.proofs.Firsts.{pass}
use Rattle.ase.specs.Row.{given_in}
use Rattle.ase_write_judge.proofs.Judging.{block-parts, block-named, first-exit}
use Rattle.ase_write_judge.proofs.block_fault.Goals as goal

pub returns-in_err-type_fault : goal.returns-in_err-type_fault
returns-in_err-type_fault c = let a = c.args in first-exit _ _ _ _ c.from_residual.ensures.1 c.in_err-type_fault.ensures (sym (block-parts a.text.now a.depth (given_in a.given)))

pub returns-then-given-eq-STOP : goal.returns-then-given-eq-STOP
returns-then-given-eq-STOP c =
    let a = c.args in
    let g = given_in a.given in
    pass _ _ _ 0 c.in_ok-type_fault.ensures refl (sym (rw (eq-eqb g.block 0xC002 c.if-given-eq-STOP.true))) ∙ sym (block-parts a.text.now a.depth g)

pub returns-in_err-name_fault : goal.returns-in_err-name_fault
returns-in_err-name_fault c =
    let a = c.args in
    first-exit _ _ _ _ c.from_residual-in_err-name_fault.ensures.1 c.in_err-name_fault.ensures (block-named a.text.now a.depth (given_in a.given) c.in_ok-type_fault.ensures c.if-given-eq-STOP.false)

pub returns-then-given-eq-START : goal.returns-then-given-eq-START
returns-then-given-eq-START c =
    let a = c.args in
    let g = given_in a.given in
    pass 0 _ _ 0 c.in_ok-name_fault.ensures refl (sym (rw (eq-eqb g.block 0xC001 c.if-given-eq-START.true))) ∙ block-named a.text.now a.depth g c.in_ok-type_fault.ensures c.if-given-eq-STOP.false

pub returns : goal.returns
returns c =
    let a = c.args in
    let g = given_in a.given in
    pass _ _ _ 0 c.in_ok-name_fault.ensures refl (c.after_name_fault.ensures ∙ sym (rw (ne_eqb g.block 0xC001 c.if-given-eq-START.false))) ∙ block-named a.text.now a.depth g c.in_ok-type_fault.ensures c.if-given-eq-STOP.false
