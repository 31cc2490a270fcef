use Rattle.algebra.proofs.Writing.{writes-no, writes-none}
use mathlib.Core.Path.{refl, ap, ◌∙◌}
use native.Mathlib.Omega.{arith}
use Rattle.algebra.specs.Writing.{Outcome}
use Rattle.fault.proofs.Exit.{written-exit}
use Rattle.descriptor_build.proofs.Built as B
use Rattle.descriptor_entry.specs.Pieces.{size}
use Rattle.descriptor_entry.specs.Entries.{given, pieces, build_fault, made}
use Rattle.descriptor_build.proofs.write.Goals as goal

pub returns-in_err-size : goal.returns-in_err-size
returns-in_err-size c =
    let a = c.args in
    ap (λ (o : Outcome). (o, a.out.now)) (written-exit _ _ c.from_residual.ensures.1 refl)
    ∙ writes-no (build_fault a.text.now (given a.entries.now)) (size (pieces (given a.entries.now))) (made a.text.now (given a.entries.now)) a.out.now _ c.in_err-size.ensures

pub returns-then-out-size : goal.returns-then-out-size
returns-then-out-size c =
    let a = c.args in
    writes-none (build_fault a.text.now (given a.entries.now)) (size (pieces (given a.entries.now))) (made a.text.now (given a.entries.now)) a.out.now _ c.in_ok-size.ensures c.if-out-size.true

pub put_all-requires : goal.put_all-requires
put_all-requires c =
    let a = c.args in
    B.whole a.text.now a.entries.now _ c.in_ok-size.ensures (λ i. omega (arith, c.type_inv.entries i)) a.out.now c.if-out-size.false

pub returns : goal.returns
returns c =
    let a = c.args in
    B.written a.text.now a.entries.now _ c.in_ok-size.ensures (λ i. omega (arith, c.type_inv.entries i)) a.out.now c.if-out-size.false _ c.put_all.ensures
